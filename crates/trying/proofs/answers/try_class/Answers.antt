-- `try_class` meets its contract, case by case. Assumes nothing.
use mathlib.Core.Path.{◌∙◌}
use native.Mathlib.Omega.{arith}
use borrow.Author.Tests.{ne_eqb}
use Rattle.trying.proofs.Answering.{answer_heavy, answer_barred, answer_two, answer_one, answer_none, answer_free}
use Rattle.trying.proofs.answers.try_class.Goals.{then-before-gt1-via-then-before-gt1, then-before-gt1-via-else-before-gt1+then-not-alone}
use Rattle.trying.proofs.answers.try_class.Goals as goal

pub returns-then-before-gt1 : goal.returns-then-before-gt1
returns-then-before-gt1 c =
    let a = c.args in
    elim c.then-before-gt1.branch [
      | then-before-gt1-via-then-before-gt1 w ↦ answer_heavy a.head.now a.alone a.base.now a.after.now a.instance c.weigh-before.ensures w.if-before-gt1.true
      | then-before-gt1-via-else-before-gt1+then-not-alone w ↦ answer_barred a.head.now a.alone a.base.now a.after.now a.instance w.if-not-alone.true
    ]

pub returns-in-0 : goal.returns-in-0
returns-in-0 c =
    let a = c.args in
    answer_none a.head.now a.alone a.base.now a.after.now a.instance c.weigh-before.ensures c.if-before-gt1.false c.if-not-alone.false c.weigh.ensures c.in-0.is

pub returns-then-before-eq0 : goal.returns-then-before-eq0
returns-then-before-eq0 c =
    let a = c.args in
    let one = c.in-1.is in
    let none = c.if-before-eq0.true in
    answer_free a.head.now a.alone a.base.now a.after.now a.instance c.weigh-before.ensures c.if-before-gt1.false c.if-not-alone.false c.weigh.ensures
    (omega arith) (λ e. omega arith) (λ e. omega arith) c.any_free.ensures

pub returns-else-before-eq0 : goal.returns-else-before-eq0
returns-else-before-eq0 c =
    let a = c.args in
    let one = c.in-1.is in
    let few = c.if-before-gt1.false in
    let some = c.if-before-eq0.false in
    ne_eqb c.weigh-before.result 0 some
    ∙ answer_one a.head.now a.alone a.base.now a.after.now a.instance c.weigh-before.ensures few c.if-not-alone.false c.weigh.ensures
    (omega arith) (omega arith)

pub returns-in_default : goal.returns-in_default
returns-in_default c =
    let a = c.args in
    answer_two a.head.now a.alone a.base.now a.after.now a.instance c.weigh-before.ensures c.if-before-gt1.false c.if-not-alone.false c.weigh.ensures
    (omega arith)
