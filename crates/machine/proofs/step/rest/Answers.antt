-- `rest` meets its contract: the over-all conditions fail, hold, or are known to hold. Assumes nothing.
use Prim.{tt}
use mathlib.Core.Path.{sym, ◌∙◌}
use Rattle.machine.proofs.Resting.{unrest, rests, noted_rest, noted_set}
use Rattle.machine.proofs.step.rest.Goals as goal

pub returns-then-not-open_met : goal.returns-then-not-open_met
returns-then-not-open_met c D objs s lent kept entries rows noted =
    let met = c.open_met.ensures D s.running s.facts lent entries kept.running kept.running_few rows
    noted.indexed objs kept.chosen in
    (unrest D objs s (sym met ∙ c.if-not-open_met.true), tt)

pub returns-else-not-open_met : goal.returns-else-not-open_met
returns-else-not-open_met c D objs s lent kept entries rows noted =
    let a = c.args in
    let met = c.open_met.ensures D s.running s.facts lent entries kept.running kept.running_few rows
    noted.indexed objs kept.chosen in
    let all_hold = sym met ∙ c.if-not-open_met.false in
    (rests D objs s kept all_hold, noted_set a.head.now D a.index.now s noted all_hold)

pub returns-else-index-ne1 : goal.returns-else-index-ne1
returns-else-index-ne1 c D objs s lent kept entries rows noted =
    let a = c.args in
    (rests D objs s kept (noted.settled c.if-index-ne1.false), noted_rest a.head.now D a.index.now s noted)
