-- `is_used` meets its contract: the components one by one. Assumes nothing.
use mathlib.Core.Path.{◌≡◌, refl, ◌∙◌}
use mathlib.Core.List.{List}
use Prim.Native.Nat.{ℕ}
use native.Mathlib.Omega.{arith}
use lib.Dec.{eqb}
use Rattle.std.proofs.Common.{rules}
use Rattle.std.proofs.lemmas.Iterator.{YieldsList-from_range}
use Rattle.std.proofs.lemmas.Iterator.Search.{any_from_yields_List}
use Rattle.records.specs.Lists.{any, below}
use Rattle.literals.specs.Decode.{byte}
use Rattle.literals.specs.Held.{component_row_in, components_in}
use Rattle.literals.proofs.Chains.{any_component}
use Rattle.literals.proofs.head.is_used.Goals as goal

pub returns : goal.returns
returns c =
    let a = c.args in
    let all = YieldsList-from_range 0 c.components_in.result (components_in a.head.now) refl (omega (arith, c.components_in.ensures.number)) in
    let e : c.any.result ≡ any (λ i. eqb a.relation (byte (component_row_in a.head.now i) 0)) (below (components_in a.head.now)) =
    any_from_yields_List (λ i. eqb a.relation (byte (component_row_in a.head.now i) 0)) _ _ c.any.result c.any.ensures.ran all (λ x b q k. search rules) in
    e ∙ any_component (λ (row : List ℕ). eqb a.relation (byte row 0)) a.head.now
