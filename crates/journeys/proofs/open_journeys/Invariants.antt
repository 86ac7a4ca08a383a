-- `open_journeys` meets its contract: what is found and what the entries that are left will add is the number. Assumes nothing.
use mathlib.Core.Path.{◌≡◌}
use mathlib.Core.Bool.{true}
use mathlib.Core.List.{List}
use Prim.Native.Nat.{ℕ, ◌+◌, ◌*◌, ◌≤◌}
use lib.ListN.{length, take, drop}
use Rattle.std.specs.Slice.Iter.{chunks_exact_rest, chunks_exact_size}
use Rattle.literals.specs.declared.Object.{Object}
use Rattle.literals.specs.Domain.{keys_of, Domain}
use Rattle.literals.specs.Decode.{max_literals}
use Rattle.literals.specs.Held.{row_of, Held}
use Rattle.verdict.specs.Judged.{object_numbers}
use Rattle.verdict.specs.Machine.{GroundAction}
use Rattle.verdict.specs.Claims.{well_formed, journeys_for}
use Rattle.events.specs.Held.{Open, open_of, GroundsFit}
use Rattle.journeys.proofs.Belonging.{sum_of}
use Rattle.journeys.proofs.open_journeys.Given as goal

abbrev pub invariant-loop-act : goal.invariant-loop-act
invariant-loop-act l =
    (goal.iterator-loop-act).can_next l.act-iterator
    × (goal.iterator-loop-act).is_finite l.act-iterator
    × (chunks_exact_size l.act-iterator ≡ 17)
    × ((i : ℕ) × (i ≤ l.n) × (chunks_exact_rest l.act-iterator ≡ drop (17 * i) (take (17 * l.n) l.entries)) × (l.found ≤ max_literals * i) × ((D : Domain) (gs : List GroundAction) (y : List Object)
    → Held D l.head l.table → well_formed D ≡ true → GroundsFit D gs → ◌≡◌ {A = Open} (record { count = l.n; rows = l.entries }) (open_of gs)
    → length y ≡ keys_of D.template → l.row ≡ row_of (object_numbers y)
    → l.found + sum_of (journeys_for D y) (drop i gs) ≡ sum_of (journeys_for D y) gs))
