-- `any_meets` meets its contract: the rows one by one. Assumes nothing.
use mathlib.Core.Path.{◌≡◌, refl, ◌∙◌}
use Prim.Native.Nat.{◌*◌, ◌-◌}
use lib.ListN.{take, drop}
use Rattle.std.proofs.Common.{rules}
use Rattle.std.proofs.lemmas.Iterator.{YieldsList-from_range}
use Rattle.std.proofs.lemmas.Iterator.Search.{any_from_yields_List}
use Rattle.records.specs.Lists.{any, numbers_from}
use Rattle.literals.specs.Held.{row_of, meets_as}
use Rattle.literals.proofs.Chains.{any_rows}
use Rattle.literals.proofs.row.any_meets.Goals as goal

pub returns : goal.returns
returns c =
    let a = c.args in
    let e : c.any.result ≡ any (λ i. meets_as a.first a.second (row_of a.p.now) (take 8 (drop (8 * i) a.table.now))) (numbers_from a.from (a.to - a.from)) =
    any_from_yields_List (λ i. meets_as a.first a.second (row_of a.p.now) (take 8 (drop (8 * i) a.table.now))) _ _ c.any.result c.any.ensures.ran (YieldsList-from_range a.from a.to _ refl refl) (λ x b q k. search rules) in
    e ∙ any_rows (meets_as a.first a.second (row_of a.p.now)) a.table.now (a.to - a.from) a.from
