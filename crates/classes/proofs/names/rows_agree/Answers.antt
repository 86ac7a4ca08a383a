-- `rows_agree` meets its contract: the bytes 1 to 7 are those from 1 to 4 and from 4 to 7. Assumes nothing.
use mathlib.Core.Path.{sym, ◌∙◌}
use native.Mathlib.Omega.{arith}
use Rattle.classes.proofs.Rows.{agree_same, agree_other}
use Rattle.classes.proofs.names.rows_agree.Goals as goal

pub returns-then-same_four : goal.returns-then-same_four
returns-then-same_four c = let a = c.args in
    agree_same a.rows.now a.i a.j (omega arith) (omega arith) (sym c.same_four.ensures ∙ c.if-same_four.true) c.same_four-then-same_four.ensures

pub returns-else-same_four : goal.returns-else-same_four
returns-else-same_four c = let a = c.args in
    c.if-same_four.false ∙ agree_other a.rows.now a.i a.j (omega arith) (omega arith) (sym c.same_four.ensures ∙ c.if-same_four.false)
