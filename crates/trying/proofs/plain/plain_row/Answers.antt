use mathlib.Core.Path.{◌≡◌, ap, ◌∙◌}
use native.Mathlib.Omega.{arith}
use Rattle.trying.proofs.Loops.{row_up_to, row_more, row_whole}
use Rattle.trying.proofs.plain.plain_row.Goals as goal

pub loop-k-preserved : goal.loop-k-preserved
loop-k-preserved c =
    let a = c.args in
    let l = c.loop-k in
    (omega arith, row_more a.i l.k (omega arith) l.invariant.1)

pub returns : goal.returns
returns c =
    let a = c.args in
    let l = c.loop-k in
    let e : l.k ≡ a.variables = omega arith in
    l.invariant.1 ∙ ap (row_up_to a.i) e ∙ row_whole a.i a.variables
