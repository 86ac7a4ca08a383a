-- `report::put_action` meets its contract. The loop's invariant: the rows of the classes passed are written. Assumes nothing.
use mathlib.Core.Path.{◌≡◌}
use mathlib.Core.List.{List, ◌++◌}
use Prim.Native.Nat.{ℕ, ◌+◌, ◌*◌, ◌≤◌}
use lib.ListN.{length, take, drop}
use Rattle.literals.specs.declared.Variable.{Variable}
use Rattle.literals.specs.Domain.{Action, Domain}
use Rattle.verdict.specs.Decision.{Row, rows_of_classes}
use Rattle.judging.specs.Held.{Reporting}
use Rattle.judging.proofs.report.put_action.Given as goal

abbrev pub invariant-loop-class : goal.invariant-loop-class
invariant-loop-class l =
    (l.class ≤ l.count) × (l.next ≤ l.at + 2 * l.class) × (length l.report ≡ length l.initial.report)
    × ((D : Domain) (a : Action) (xs : List (List Variable)) (rs rest : List Row) (old given : List ℕ) → a.lasting ≡ l.lasting → length xs ≡ l.count
    → Reporting rs (rows_of_classes D a l.action 0 xs ++ rest) l.at l.initial.report l.names old given
    → Reporting (rs ++ rows_of_classes D a l.action 0 (take l.class xs)) (rows_of_classes D a l.action l.class (drop l.class xs) ++ rest) l.next l.report l.names old given)
