-- `key_of` meets its contract: by the place of the relation's component. Assumes nothing.
use native.Mathlib.Omega.{arith}
use mathlib.Core.Path.{◌∙◌}
use Rattle.literals.proofs.Places.{components_few}
use Rattle.store.proofs.InstanceRows.{unmatched, matched}
use Rattle.store.proofs.keys.key_of.Goals as goal

pub returns-in_err-c : goal.returns-in_err-c
returns-in_err-c c = let a = c.args in c.from_residual.ensures ∙ unmatched a.head.now a.memory.now a.at c.in_err-c.ensures

pub key_tuple-requires-clause-component : goal.key_tuple-requires-clause-component
key_tuple-requires-clause-component c = let p = c.in_ok-c.ensures in let f = components_few c.args.head.now in omega arith

pub returns : goal.returns
returns c = let a = c.args in let p = c.in_ok-c.ensures in matched a.head.now a.memory.now a.at c.in_ok-c.c p.0 p.1 c.key_tuple.result c.key_tuple.ensures
