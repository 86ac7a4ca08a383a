-- `lasts_at` meets its contract. Assumes nothing.
use mathlib.Core.Path.{◌∙◌}
use Rattle.classes.proofs.Decides.{lasts_held}
use Rattle.classes.proofs.names.lasts_at.Goals as goal

pub returns : goal.returns
returns c D a head A f h = c.any_lasting.ensures ∙ lasts_held A f h
