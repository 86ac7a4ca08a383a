-- `literals_clash` meets its contract: the chain goes over the ground literals by index. Assumes nothing.
use mathlib.Core.Path.{refl, sym, ◌∙◌}
use Prim.Native.Nat.{ℕ, ◌-◌}
use borrow.Author.Tests.{tests}
use Rattle.std.proofs.Common.{rules}
use lib.ListN.{drop}
use Rattle.std.proofs.lemmas.Iterator.{YieldsList-from_range}
use Rattle.std.proofs.lemmas.Iterator.Search.{any_from_yields_List}
use Rattle.records.specs.Lists.{any}
use Rattle.events.specs.Held.{GroundLiteral, ground_at, ground_in}
use Rattle.events.proofs.ByIndex.{any_behind}
use Rattle.applicability.specs.Held.{clashes}
use Rattle.applicability.proofs.interference.Compared.literals_clash.Goals as goal

pub returns : goal.returns
returns c T =
    let a = c.args in
    let later = drop a.to (ground_in a.total a.self.now.memory.now) in
    any_from_yields_List (λ (i : ℕ). any (clashes (ground_at a.self.now.memory.now i)) later) _ _ c.any.result c.any.ensures.ran
    (YieldsList-from_range a.from a.to (a.to - a.from) refl refl) (λ x b q k. search (rules, tests))
    ∙ sym (any_behind a.from a.to a.self.now.memory.now (λ (g : GroundLiteral). any (clashes g) later))
