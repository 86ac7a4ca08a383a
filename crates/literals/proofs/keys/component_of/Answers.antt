-- `component_of` meets its contract: the components one by one. Assumes nothing.
use mathlib.Core.Path.{refl}
use native.Mathlib.Omega.{arith}
use Rattle.std.proofs.Common.{rules}
use Rattle.std.proofs.lemmas.Iterator.{YieldsList-from_range}
use Rattle.std.proofs.lemmas.Iterator.Search.{position_from_yields_List}
use Rattle.literals.specs.Held.{component_row_in, components_in, starts}
use Rattle.literals.proofs.Chains.{component_found}
use Rattle.literals.proofs.keys.component_of.Goals as goal

pub returns : goal.returns
returns c =
    let a = c.args in
    let all = YieldsList-from_range 0 c.components_in.result (components_in a.head.now) refl (omega (arith, c.components_in.ensures.number)) in
    component_found a.relation a.head.now c.position.result
    (position_from_yields_List (λ i. starts a.relation (component_row_in a.head.now i)) _ _ c.position.result c.position.ensures.ran all (λ x b q k. search rules))
