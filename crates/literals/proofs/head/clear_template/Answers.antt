-- `clear_template` meets its contract. Assumes nothing.
use Rattle.literals.proofs.Fills.{fills_bare}
use Rattle.literals.proofs.head.clear_template.Goals as goal

pub returns : goal.returns
returns c D F = fills_bare F
