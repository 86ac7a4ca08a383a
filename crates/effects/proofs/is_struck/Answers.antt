-- `is_struck` meets its contract: where there are patterns, by rows that meet; else an unmarked row is none of those struck. Assumes nothing.
use mathlib.Core.Path.{sym, ap, ◌∙◌}
use mathlib.Core.Bool.{not}
use mathlib.Core.List.{List}
use Prim.Native.Nat.{ℕ}
use native.Mathlib.Omega.{arith}
use lib.ListN.{get_or, take, drop}
use borrow.Author.Tests.{eq-eqb}
use Rattle.literals.specs.Held.{rows_in}
use Rattle.literals.proofs.Rows.{part_at}
use Rattle.store.specs.Held.{has_row}
use Rattle.effects.proofs.FilledRows.{struck_by}
use Rattle.effects.proofs.IndexedRows.{unmarked}
use Rattle.effects.proofs.is_struck.Goals as goal

pub returns-then-patterns : goal.returns-then-patterns
returns-then-patterns c =
    let a = c.args in
    let p = c.requires in
    c.is_met.ensures
    ∙ sym (struck_by (rows_in a.m a.struck.now) (take 8 (drop a.at a.work.now)) (sym p.told ∙ c.if-patterns.true))

pub returns-else-marks-from-ne0 : goal.returns-else-marks-from-ne0
returns-else-marks-from-ne0 c =
    let a = c.args in
    let p = c.requires in
    ap not (eq-eqb _ 0 c.if-marks-from-ne0.false)
    ∙ unmarked a.marks.now (rows_in a.m a.struck.now) (take 8 (drop a.at a.work.now)) p.marked
    (ap (λ (i : ℕ). get_or a.marks.now i 0) (part_at 8 a.work.now a.at p.row 2 (omega arith) ∙ sym c.from.ensures) ∙ c.if-marks-from-ne0.false)
    ∙ sym (struck_by (rows_in a.m a.struck.now) (take 8 (drop a.at a.work.now))
    (sym p.told ∙ c.if-patterns.false))

pub returns-then-marks-from-ne0 : goal.returns-then-marks-from-ne0
returns-then-marks-from-ne0 c =
    let a = c.args in
    let p = c.requires in
    c.has_row.ensures
    ∙ ap (λ (r : List ℕ). has_row r (rows_in a.m a.struck.now)) c.row_at.ensures
    ∙ sym (struck_by (rows_in a.m a.struck.now) (take 8 (drop a.at a.work.now))
    (sym p.told ∙ c.if-patterns.false))
