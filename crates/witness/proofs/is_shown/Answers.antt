-- `is_shown` meets its contract. Assumes nothing.
use mathlib.Core.Path.{sym, ap, ◌∙◌}
use mathlib.Core.List.{[]}
use native.Mathlib.Omega.{arith}
use Rattle.literals.specs.Domain.{action}
use lib.ListN.{get_or}
use Rattle.classes.specs.Classes.{classes}
use Rattle.classes.proofs.Tables.{numbers_part}
use Rattle.verdict.specs.Decision.{shown_at}
use Rattle.verdict.proofs.ReadActions.{action_held}
use Rattle.witness.proofs.Shown.{class_few, start_is_shown, end_is_shown}
use Rattle.witness.proofs.is_shown.Goals as goal
use Rattle.witness.proofs.is_shown.Goals.{then-eq-via-then-eq, then-eq-via-else-eq+then-actions_in-i, then-eq-via-else-eq+else-actions_in-i+then-j-ge-MAX_LITERALS}

pub returns-then-eq : goal.returns-then-eq
returns-then-eq c D old H wf f g h =
    let a = c.args in
    elim c.then-eq.branch [
      | then-eq-via-then-eq w ↦ start_is_shown D (action D a.i) (get_or (classes D (action D a.i)) a.j []) _ (sym c.eq.ensures ∙ w.if-eq.true) ∙ ap (shown_at D (action D a.i) (get_or (classes D (action D a.i)) a.j [])) c.moment_of.ensures
      | then-eq-via-else-eq+then-actions_in-i w ↦ let n = H.says.actions in let m = w.actions_in.ensures.number in absurd (omega arith)
      | then-eq-via-else-eq+else-actions_in-i+then-j-ge-MAX_LITERALS w ↦ let l = class_few H a.i a.j g h in absurd (omega arith)
    ]

pub returns : goal.returns
returns c D old H wf f g h =
    let a = c.args in
    let S = c.rows_of-span.ensures.rows D H g in
    let A = action_held H wf a.i g S.literals in
    end_is_shown D (action D a.i) (get_or (classes D (action D a.i)) a.j []) _ (sym c.eq.ensures ∙ c.if-eq.false)
    (c.lasts_at.ensures D (action D a.i) _ A (numbers_part D a.i g S a.numbers.now old f) h) ∙ ap (shown_at D (action D a.i) (get_or (classes D (action D a.i)) a.j [])) c.moment_of.ensures
