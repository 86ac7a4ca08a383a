-- `weigh` meets its contract: the facts one by one. Assumes nothing.
use mathlib.Core.Path.{◌≡◌, ◌∙◌}
use Prim.Native.Nat.{◌*◌}
use native.Mathlib.Omega.{arith}
use lib.Dec.{eqb}
use lib.ListN.{length, take, drop}
use Rattle.std.proofs.Common.{rules}
use Rattle.std.specs.List.{filter}
use Rattle.std.proofs.lemmas.Iterator.{YieldsList-from_range}
use Rattle.std.proofs.lemmas.Iterator.Consumers.{YieldsList-from_filter, count_from_yields_List}
use Rattle.records.specs.Lists.{any, same_list, below}
use Rattle.literals.specs.Held.{keys_in, component_rows_in}
use Rattle.store.specs.Held.{instance_rows}
use Rattle.store.proofs.InstanceRows.{weigh_all}
use Rattle.store.proofs.weighing.weigh.Goals as goal

pub returns : goal.returns
returns c =
    let a = c.args in
    let keys = keys_in a.head.now in
    let ps = component_rows_in a.head.now in
    let numbers = YieldsList-from_range 0 a.n a.n c.filter.ensures.source (omega arith) in
    let e : c.count.result ≡ length (filter (λ i. any (same_list eqb a.row) (instance_rows keys ps (take 8 (drop (8 * i) a.memory.now)))) (below a.n)) =
    count_from_yields_List _ c.count.result c.count.ensures.ran
    (YieldsList-from_filter _ (λ i. any (same_list eqb a.row) (instance_rows keys ps (take 8 (drop (8 * i) a.memory.now)))) numbers c.filter.ensures.closure (λ x b q k. search rules)) in
    e ∙ weigh_all keys ps a.memory.now a.row a.n
