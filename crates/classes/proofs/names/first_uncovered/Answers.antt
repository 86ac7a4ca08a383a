-- `first_uncovered` meets its contract. Assumes nothing.
use mathlib.Core.Path.{◌∙◌}
use Rattle.classes.proofs.Decides.{uncovered_found}
use Rattle.classes.proofs.names.first_uncovered.Goals as goal

pub returns : goal.returns
returns c D a m M h = c.first_lacking.ensures ∙ uncovered_found M h
