-- `is_met` meets its contract: a row apart from the marks is met by none. Assumes nothing.
use mathlib.Core.Path.{◌∙◌, ap, sym}
use mathlib.Core.Bool.{not}
use native.Mathlib.Omega.{arith}
use lib.ListN.{take, drop}
use Rattle.literals.specs.Held.{rows_in}
use Rattle.literals.proofs.Rows.{part_at}
use Rattle.effects.specs.Held.{is_apart}
use Rattle.effects.proofs.IndexedRows.{apart}
use Rattle.effects.proofs.is_met.Goals as goal

pub returns-else-not-is_apart : goal.returns-else-not-is_apart
returns-else-not-is_apart c =
    let a = c.args in
    let p = c.requires in
    ap not c.if-not-is_apart.false
    ∙ apart a.marks.now (rows_in a.m a.struck.now) (take 8 (drop a.at a.work.now)) p.marked
    (ap (is_apart a.marks.now) (part_at 8 a.work.now a.at p.row 2 (omega arith)) ∙ sym c.is_apart.ensures ∙ c.if-not-is_apart.false)
