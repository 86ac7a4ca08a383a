-- `show` meets its contract. Assumes nothing.
use mathlib.Core.Path.{subst, ◌∙◌}
use native.Mathlib.Omega.{arith}
use Rattle.literals.specs.Domain.{action}
use Rattle.classes.proofs.Tables.{numbers_part}
use Rattle.literals.specs.declared.Moment.{Moment}
use Rattle.witness.specs.Held.{RefusedAt, ShownAt}
use Rattle.verdict.proofs.ReadActions.{action_held}
use Rattle.witness.proofs.Shown.{class_few}
use Rattle.witness.proofs.show.Goals as goal
use Rattle.witness.proofs.show.Goals.{then-actions_in-i-via-then-actions_in-i, then-actions_in-i-via-else-actions_in-i+then-j-ge-MAX_LITERALS}

pub returns-then-actions_in-i : goal.returns-then-actions_in-i
returns-then-actions_in-i c D old H wf f g R =
    let a = c.args in
    let n = H.says.actions in
    let m = c.actions_in.ensures.number in
    elim c.then-actions_in-i.branch [
      | then-actions_in-i-via-then-actions_in-i w ↦ absurd (omega arith)
      | then-actions_in-i-via-else-actions_in-i+then-j-ge-MAX_LITERALS w ↦ let l = class_few H a.i a.j g R.listed in absurd (omega arith)
    ]

pub returns : goal.returns
returns c D old H wf f g =
    let a = c.args in
    let S = c.rows_of-span.ensures.rows D H g in
    let A = action_held H wf a.i g S.literals in
    subst (λ (m : Moment). RefusedAt D (action D a.i) a.j m a.number → ShownAt D (action D a.i) a.j m a.out.now c.put_witness.new.out c.put_witness.result)
    c.moment_of.ensures
    (c.put_witness.ensures D (action D a.i) A (numbers_part D a.i g S a.numbers.now old f)
    (c.variables_of.ensures.number ∙ H.says.variables a.i g))
