-- `rows_meet` meets its contract: rows that are the same. Assumes nothing.
use mathlib.Core.Path.{sym, ◌∙◌}
use native.Mathlib.Omega.{arith}
use Rattle.literals.proofs.Rows.{rows_same}
use Rattle.literals.proofs.row.rows_meet.Goals as goal

pub returns-then-same_four-2 : goal.returns-then-same_four-2
returns-then-same_four-2 c =
    let a = c.args in
    rows_same a.x.now a.y.now a.i a.j (omega arith) (omega arith) (sym c.same_four.ensures ∙ c.if-same_four.true)
    (sym c.same_four-then-same_four.ensures ∙ c.if-same_four-2.true)
