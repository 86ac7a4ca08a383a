-- `any_free` meets its contract: the head says how many components there are. Assumes nothing.
use mathlib.Core.Path.{refl, ap, ◌∙◌}
use native.Mathlib.Omega.{arith}
use Rattle.std.proofs.Common.{rules}
use Rattle.std.proofs.lemmas.Iterator.{YieldsList-from_range}
use Rattle.std.proofs.lemmas.Iterator.Search.{any_from_yields_List}
use Rattle.records.specs.Lists.{any, below}
use Rattle.events.specs.Held.{ground_in}
use Rattle.trying.specs.Held.{component_free, any_free}
use Rattle.trying.proofs.free.any_free.Goals as goal

pub returns : goal.returns
unfolding any_free
returns c =
    let a = c.args in
    let free = component_free a.head.now a.instance.now a.n (ground_in a.total a.memory.now) in
    any_from_yields_List free _ _ c.any.result c.any.ensures.ran (YieldsList-from_range 0 c.components_in.result c.components_in.result refl (omega arith)) (λ x b q k. search rules)
    ∙ ap (λ k. any free (below k)) c.components_in.ensures.number
