-- `put_components` meets its contract: the components from c on are written. Assumes nothing.
use Prim.Native.Nat.{◌≤◌}
use Rattle.literals.specs.Held.{components_in}
use Rattle.literals.proofs.Places.{Marked}
use Rattle.literals.proofs.key_places.put_components.Given as goal

abbrev pub invariant-loop-c : goal.invariant-loop-c
invariant-loop-c l = (l.c ≤ components_in l.head) × Marked l.head (components_in l.head) l.c l.initial.places l.places
