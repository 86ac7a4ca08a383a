-- `count_marked` meets its contract: what is found and what the classes from this one on will add is the number. Assumes nothing.
use mathlib.Core.Path.{◌≡◌}
use mathlib.Core.List.{List}
use Prim.Native.Nat.{ℕ, ◌+◌, ◌≤◌, ◌<◌}
use lib.ListN.{length, get_or, drop}
use Rattle.records.specs.Lists.{count_by}
use Rattle.literals.specs.declared.Object.{Object}
use Rattle.literals.specs.Domain.{keys_of, Domain, action}
use Rattle.literals.specs.Held.{row_of}
use Rattle.classes.specs.Classes.{classes}
use Rattle.classes.specs.Held.{ActionOf}
use Rattle.verdict.specs.Judged.{object_numbers}
use Rattle.verdict.specs.Machine.{GroundAction}
use Rattle.verdict.specs.Claims.{journeys_for}
use Rattle.events.specs.Held.{ground_row, GroundFits}
use Rattle.journeys.specs.Held.{journey_mark}
use Rattle.journeys.proofs.Belonging.{journey_for}
use Rattle.journeys.proofs.count_marked.Given as goal

abbrev pub invariant-loop-mark : goal.invariant-loop-mark
invariant-loop-mark l =
    (l.mark-index ≤ l.count) × (l.found ≤ l.mark-index) × ((D : Domain) (g : GroundAction) (y : List Object)
    → ActionOf D (action D g.action) l.head l.rows → GroundFits D g → l.act ≡ ground_row g → length y ≡ keys_of D.template
    → l.row ≡ row_of (object_numbers y) → l.count ≡ length (classes D (action D g.action))
    → ((k : ℕ) → k < l.count → get_or l.marks k 0 ≡ journey_mark D (action D g.action) k)
    → l.found + count_by (journey_for D y g) (drop l.mark-index (classes D (action D g.action))) ≡ journeys_for D y g)
