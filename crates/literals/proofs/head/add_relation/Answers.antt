-- `add_relation` meets its contract. Assumes nothing.
use Rattle.literals.proofs.Fills.{fills_relation}
use Rattle.literals.proofs.head.add_relation.Goals as goal

pub returns : goal.returns
returns c D F e = fills_relation F _ _ c.relations_in-n.ensures.number e
