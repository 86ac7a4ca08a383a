-- `keys_with` meets its contract: a component has few keys. Assumes nothing.
use native.Mathlib.Omega.{arith}
use Rattle.literals.proofs.Fills.{keys_short}
use Rattle.literals.proofs.head.keys_with.Goals as goal

pub returns-then-components_in-eq0-clause-few : goal.returns-then-components_in-eq0-clause-few
returns-then-components_in-eq0-clause-few c = let k = c.count_keys.ensures in let s = keys_short c.args.p.now c.requires in omega arith
