-- `events_met` meets its contract: the conditions of a step are those of its events. Assumes nothing.
use mathlib.Core.Path.{sym, subst, ◌∙◌}
use Rattle.literals.specs.Held.{rows_in}
use Rattle.store.specs.Held.{Indexed}
use Rattle.events.specs.Held.{ground_in}
use Rattle.events.proofs.GroundLiterals.{step_sized, step_formed}
use Rattle.applicability.proofs.Forbidden.{rows_same}
use Rattle.applicability.proofs.Asked.{step_asks}
use Rattle.applicability.proofs.conditions.events_met.Goals as goal

pub returns : goal.returns
returns c D head es fs G f I objs C =
    let a = c.args in
    c.conditions_met.ensures head (subst (Indexed head a.index.now) (sym f) I) (step_sized G)
    (rows_same G.says C (rows_in a.n a.work.now) f (ground_in a.total a.memory.now) (step_formed G))
    ∙ step_asks G C (rows_in a.n a.work.now) f
