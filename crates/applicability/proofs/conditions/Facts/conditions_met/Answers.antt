-- `conditions_met` meets its contract: what holds holds by equal rows, and these tell all where no false condition is a pattern. Assumes
-- nothing.
use mathlib.Core.Path.{sym, ap, ◌∙◌}
use mathlib.Core.Bool.{not}
use Rattle.literals.specs.Held.{rows_in}
use Rattle.events.specs.Held.{ground_in}
use Rattle.applicability.proofs.Forbidden.{fails_plainly, plainly_clear, walked}
use Rattle.applicability.proofs.conditions.Facts.conditions_met.Goals as goal

pub returns-else-all_plainly_met : goal.returns-else-all_plainly_met
returns-else-all_plainly_met c head I S M =
    let a = c.args in
    c.if-all_plainly_met.false
    ∙ fails_plainly (rows_in a.self.now.count a.self.now.work.now) (ground_in a.literals.now.count a.literals.now.memory.now)
    (sym (c.all_plainly_met.ensures head I S) ∙ c.if-all_plainly_met.false)

pub returns-then-not-any_asks_pattern : goal.returns-then-not-any_asks_pattern
returns-then-not-any_asks_pattern c head I S M =
    let a = c.args in
    ap not c.if-not-any_asks_pattern.true
    ∙ plainly_clear (rows_in a.self.now.count a.self.now.work.now) (ground_in a.literals.now.count a.literals.now.memory.now) M
    (sym (c.all_plainly_met.ensures head I S) ∙ c.if-all_plainly_met.true)
    (sym c.any_asks_pattern.ensures ∙ c.if-not-any_asks_pattern.true)

pub returns-else-not-any_asks_pattern : goal.returns-else-not-any_asks_pattern
returns-else-not-any_asks_pattern c head I S M =
    let a = c.args in
    walked (rows_in a.self.now.count a.self.now.work.now) (ground_in a.literals.now.count a.literals.now.memory.now)
    (sym (c.all_plainly_met.ensures head I S) ∙ c.if-all_plainly_met.true) _ c.any_forbidden.ensures
