-- `take_closing` meets its contract. Assumes nothing.
use mathlib.Core.Path.{sym, ◌∙◌}
use native.Mathlib.Omega.{arith}
use Rattle.reading.proofs.Takes.{closing_long, closing_alone, closing_taken}
use Rattle.reading.proofs.take.take_closing.Goals as goal

pub returns-then-p-ne0 : goal.returns-then-p-ne0
returns-then-p-ne0 c D H = closing_long H _ (λ z. c.if-p-ne0.true z)

pub returns-then-components_in-eq0 : goal.returns-then-components_in-eq0
returns-then-components_in-eq0 c D H = closing_alone H _ (omega arith) (sym c.components_in.ensures.number ∙ c.if-components_in-eq0.true)

pub returns : goal.returns
returns c D H = closing_taken H _ (omega arith) (λ z. c.if-components_in-eq0.false (c.components_in.ensures.number ∙ z))
