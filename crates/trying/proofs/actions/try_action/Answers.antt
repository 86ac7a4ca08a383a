-- `try_action` meets its contract. Assumes nothing.
use mathlib.Core.Path.{sym, ◌∙◌}
use native.Mathlib.Omega.{arith}
use Rattle.trying.proofs.Answering.{making_lasting}
use Rattle.trying.proofs.actions.try_action.Goals as goal

pub returns-then-is_lasting : goal.returns-then-is_lasting
returns-then-is_lasting c =
    let a = c.args in record {
      few = omega arith;
      answers = λ D old H wf h M. making_lasting D a.i h (sym (H.says.lasting a.i h) ∙ sym c.is_lasting.ensures ∙ c.if-is_lasting.true)
          M;
    }

pub returns : goal.returns
returns c =
    let back8 = c in
    let a = back8.args in
    let t = c.try_at_once.ensures in record {
      few = t.few;
      answers = λ D old H wf h M. t.answers D old H wf h M
          (sym (H.says.lasting a.i h) ∙ sym c.is_lasting.ensures
          ∙ c.if-is_lasting.false);
    }
