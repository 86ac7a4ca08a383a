-- `put_component_places` meets its contract: after k turns the places of the first k keys stand in the memory. Assumes nothing.
use mathlib.Core.Path.{◌≡◌}
use Prim.Native.Nat.{◌≤◌}
use Rattle.literals.specs.Held.{keys_in}
use Rattle.literals.proofs.Places.{OwnPlaces}
use Rattle.literals.proofs.key_places.put_component_places.Given as goal

abbrev pub invariant-loop-k : goal.invariant-loop-k
invariant-loop-k l = (l.k ≤ l.k-end) × (l.k-end ≤ 6) × (l.k-end ≡ keys_in l.head) × OwnPlaces l.head l.c l.initial.places l.places l.k
