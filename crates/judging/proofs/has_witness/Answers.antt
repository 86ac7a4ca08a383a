-- `has_witness` meets its contract. Assumes nothing.
use mathlib.Core.Path.{refl, sym, ◌∙◌}
use native.Mathlib.Omega.{arith}
use Rattle.records.proofs.Lists.{clash}
use Rattle.judging.proofs.Calls.{writes_below, writes_above, writes_at}
use Rattle.judging.proofs.has_witness.Goals as goal
use Rattle.judging.proofs.has_witness.Goals.{in-40-to-42, in_default, in_default-2}

pub returns-then-matches : goal.returns-then-matches
returns-then-matches c D old H wf f is =
    elim c.if-matches-2.branch [
      | in-40-to-42 w ↦ writes_at D is (omega arith) (omega arith) refl (c.is_shown.ensures D old H wf f)
      | in_default w ↦ absurd (clash c.if-matches.true w.matches-is)
      | in_default-2 w ↦ absurd (clash c.if-matches.true w.matches-is)
    ]

pub returns-else-matches : goal.returns-else-matches
returns-else-matches c D old H wf f is =
    elim c.if-matches-2.branch [
      | in-40-to-42 w ↦ absurd (clash w.matches-is c.if-matches.false)
      | in_default w ↦ w.matches-is ∙ sym (writes_below D _ (omega arith))
      | in_default-2 w ↦ w.matches-is ∙ sym (writes_above D _ (omega arith))
    ]
