-- `any_asks_pattern` meets its contract: the chain goes over the ground literals by index. Assumes nothing.
use mathlib.Core.Path.{refl, sym, ◌∙◌}
use native.Mathlib.Omega.{arith}
use Prim.Native.Nat.{ℕ}
use borrow.Author.Tests.{tests}
use Rattle.std.proofs.Common.{rules}
use Rattle.std.proofs.lemmas.Iterator.{YieldsList-from_range}
use Rattle.std.proofs.lemmas.Iterator.Search.{any_from_yields_List}
use Rattle.events.specs.Held.{ground_at}
use Rattle.events.proofs.ByIndex.{any_ground}
use Rattle.applicability.specs.Held.{asks_pattern}
use Rattle.applicability.proofs.conditions.GroundLiterals.any_asks_pattern.Goals as goal

pub returns : goal.returns
returns c =
    let a = c.args in
    any_from_yields_List (λ (i : ℕ). asks_pattern (ground_at a.self.now.memory.now i)) _ _ c.any.result c.any.ensures.ran
    (YieldsList-from_range 0 a.self.now.count a.self.now.count refl (omega arith)) (λ x b q k. search (rules, tests))
    ∙ sym (any_ground a.self.now.count a.self.now.memory.now asks_pattern)
