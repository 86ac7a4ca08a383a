-- `put_key_places` meets its contract: after c turns the places of the first c components stand in the memory. Assumes nothing.
use mathlib.Core.Path.{◌≡◌}
use Prim.Native.Nat.{ℕ, ◌≤◌, ◌<◌}
use lib.ListN.{length, get_or}
use Rattle.literals.specs.Held.{components_in}
use Rattle.literals.proofs.Places.{Places}
use Rattle.literals.proofs.key_places.put_key_places.Given as goal

abbrev pub invariant-loop-c : goal.invariant-loop-c
invariant-loop-c l =
    (l.c ≤ l.c-end) × (l.c-end ≤ 16) × (l.c-end ≡ components_in l.head) × (length l.places ≡ length l.initial.places) × Places l.head l.places l.c
    × ((i : ℕ) → i < 64 → get_or l.places i 0 ≡ get_or l.initial.places i 0)
