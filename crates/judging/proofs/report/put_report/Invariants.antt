-- `report::put_report` meets its contract. The loop's invariant: the rows of the actions passed are written. Assumes nothing.
use mathlib.Core.Path.{◌≡◌}
use mathlib.Core.List.{List}
use Prim.Native.Nat.{ℕ, ◌*◌, ◌≤◌}
use lib.ListN.{length, take, drop}
use Rattle.records.specs.Memory.{over}
use Rattle.literals.specs.Domain.{Domain}
use Rattle.literals.specs.Held.{pad, actions_in, HeadOf}
use Rattle.verdict.specs.Decision.{rows_from, rows}
use Rattle.naming.specs.Held.{name_bytes, class_counts}
use Rattle.judging.specs.Held.{Reporting}
use Rattle.judging.proofs.report.put_report.Given as goal

abbrev pub invariant-loop-i : goal.invariant-loop-i
invariant-loop-i l =
    (l.i ≤ l.i-end) × (l.i-end ≤ 64) × (l.i-end ≡ actions_in l.head) × (l.at ≤ 510 * l.i) × (length l.report ≡ length l.initial.report)
    × ((D : Domain) (given : List ℕ) → HeadOf D l.head → l.counts ≡ pad 64 (class_counts D D.actions) → l.names ≡ over (name_bytes (rows D)) given
    → 4 * length (rows D) ≤ length l.initial.report
    → Reporting (rows_from D 0 (take l.i D.actions)) (rows_from D l.i (drop l.i D.actions)) l.at l.report l.names l.initial.report given)
