-- `labels_fit` meets its contract. Assumes nothing.
use native.Mathlib.Omega.{arith}
use mathlib.Core.Path.{sym, ◌∙◌}
use borrow.Author.Tests.{leb-true, leb-false}
use lib.Dec.{eqb}
use lib.ListN.{drop}
use Rattle.records.proofs.Chains.{count_is}
use Rattle.literals.proofs.Bytes.{two_counted, too_many, few_enough}
use Rattle.literals.proofs.fields.labels_fit.Goals as goal
use Rattle.literals.proofs.fields.labels_fit.Goals.{then-counted-le1, else-counted-le1}

pub returns-then-p-n : goal.returns-then-p-n
returns-then-p-n c =
    let p = c.args.p.now in
    elim c.if-counted-le1.branch [
      | then-counted-le1 w ↦
          few_enough c.args.n p (omega arith) (c.count_from-counted.ensures ∙ sym (count_is (eqb 255) (drop 1 p))) w.if-counted-le1.true
          (leb-true _ _ (sym w.value-is ∙ c.if-p-n.true)) c.each_once.ensures
      | else-counted-le1 w ↦ let l = leb-true _ _ (sym w.value-is ∙ c.if-p-n.true) in let g = w.if-counted-le1.false in absurd (omega arith)
    ]

pub returns-else-p-n : goal.returns-else-p-n
returns-else-p-n c =
    let p = c.args.p.now in
    let counted = c.count_from-counted.ensures ∙ sym (count_is (eqb 255) (drop 1 p)) in
    c.if-p-n.false
    ∙ elim c.if-counted-le1.branch [
      | then-counted-le1 w ↦ too_many c.args.n p (omega arith) counted (leb-false _ _ (sym w.value-is ∙ c.if-p-n.false))
      | else-counted-le1 w ↦ two_counted c.args.n p (omega arith) counted w.if-counted-le1.false
    ]
