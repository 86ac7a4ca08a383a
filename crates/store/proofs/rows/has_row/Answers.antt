-- `has_row` meets its contract: the rows one by one. Assumes nothing.
use mathlib.Core.Path.{◌≡◌, refl, ◌∙◌}
use Prim.Native.Nat.{◌*◌}
use native.Mathlib.Omega.{arith}
use lib.Dec.{eqb}
use lib.ListN.{take, drop}
use Rattle.std.proofs.Common.{rules}
use Rattle.std.proofs.lemmas.Iterator.{YieldsList-from_range}
use Rattle.std.proofs.lemmas.Iterator.Search.{any_from_yields_List}
use Rattle.records.specs.Lists.{any, same_list, below}
use Rattle.literals.proofs.Chains.{any_rows}
use Rattle.store.proofs.rows.has_row.Goals as goal

pub returns : goal.returns
returns c =
    let a = c.args in
    let e : c.any.result ≡ any (λ i. same_list eqb a.row (take 8 (drop (8 * i) a.memory.now))) (below a.n) =
    any_from_yields_List (λ i. same_list eqb a.row (take 8 (drop (8 * i) a.memory.now))) _ _ c.any.result c.any.ensures.ran (YieldsList-from_range 0 a.n a.n refl (omega arith)) (λ x b q k. search rules) in
    e ∙ any_rows (same_list eqb a.row) a.memory.now a.n 0
