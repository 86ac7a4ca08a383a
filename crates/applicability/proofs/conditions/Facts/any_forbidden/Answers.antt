-- `any_forbidden` meets its contract: the chain goes over the rows by index. Assumes nothing.
use mathlib.Core.Path.{refl, sym, ◌∙◌}
use native.Mathlib.Omega.{arith}
use Prim.Native.Nat.{ℕ, ◌*◌}
use borrow.Author.Tests.{tests}
use Rattle.std.proofs.Common.{rules}
use mathlib.Core.List.{List}
use lib.ListN.{take, drop}
use Rattle.std.proofs.lemmas.Iterator.{YieldsList-from_range}
use Rattle.std.proofs.lemmas.Iterator.Search.{any_from_yields_List}
use Rattle.records.specs.Lists.{any}
use Rattle.events.specs.Held.{ground_in}
use Rattle.events.proofs.ByIndex.{any_rows}
use Rattle.applicability.specs.Held.{forbids}
use Rattle.applicability.proofs.conditions.Facts.any_forbidden.Goals as goal

pub returns : goal.returns
returns c =
    let a = c.args in
    any_from_yields_List (λ (i : ℕ). any (forbids (take 8 (drop (8 * i) a.self.now.work.now))) (ground_in a.literals.now.count a.literals.now.memory.now)) _ _ c.any.result c.any.ensures.ran
    (YieldsList-from_range 0 a.self.now.count a.self.now.count refl (omega arith)) (λ x b q k. search (rules, tests))
    ∙ sym (any_rows 8 a.self.now.count a.self.now.work.now (λ (fact : List ℕ). any (forbids fact) (ground_in a.literals.now.count a.literals.now.memory.now)))
