-- `top_from` meets its contract: the facts one by one. Assumes nothing.
use mathlib.Core.Path.{refl, ap, ◌∙◌}
use Prim.Native.Nat.{ℕ, ◌-◌, ◌*◌, max}
use lib.ListN.{take, drop}
use Rattle.std.proofs.Common.{rules}
use Rattle.std.proofs.lemmas.Iterator.{YieldsList-from_range}
use Rattle.literals.specs.Held.{keys_in, component_rows_in, rows_in}
use Rattle.literals.proofs.Chains.{fold_from_yields}
use Rattle.store.proofs.InstanceRows.{higher, top_folded, top_rows_lem, top_held}
use Rattle.store.proofs.weighing.top_from.Goals as goal

pub returns-clause-rows : goal.returns-clause-rows
returns-clause-rows c =
    let a = c.args in
    let keys = keys_in a.head.now in
    let ps = component_rows_in a.head.now in
    let facts = rows_in a.n a.memory.now in
    λ h.
    fold_from_yields (λ (t i : ℕ). higher keys ps facts t (take 8 (drop (8 * i) a.memory.now))) _ a.least c.fold.result c.fold.ensures.ran (YieldsList-from_range a.from a.n _ refl refl) (λ t x d q k. search rules)
    ∙ top_folded keys ps facts a.memory.now (a.n - a.from) a.from a.least
    ∙ ap (max a.least) (top_rows_lem keys ps a.memory.now a.n a.from)

pub returns-clause-weights : goal.returns-clause-weights
returns-clause-weights c =
    let a = c.args in
    λ D fs h i r fit. returns-clause-rows c i ∙ ap (max a.least) (top_held a.head.now a.memory.now a.n a.from D fs h r fit)
