-- `clashes_from` meets its contract: the chain goes over the ground literals by index. Assumes nothing.
use mathlib.Core.Path.{refl, sym, ◌∙◌}
use native.Mathlib.Omega.{arith}
use Prim.Native.Nat.{ℕ, ◌-◌}
use borrow.Author.Tests.{tests}
use Rattle.std.proofs.Common.{rules}
use mathlib.Core.Path.{◌≡◌}
use mathlib.Core.Bool.{true, false}
use Rattle.std.proofs.lemmas.Iterator.{YieldsList-from_range, cases_from_any}
use Rattle.records.specs.Lists.{numbers_from}
use Rattle.events.specs.Held.{ground_at}
use Rattle.events.proofs.ByIndex.{any_behind, any_told, numbers_within}
use Rattle.applicability.specs.Held.{clashes, ToldByWords}
use Rattle.applicability.proofs.interference.Compared.clashes_from.Goals as goal

pub returns : goal.returns
returns c T =
    let a = c.args in
    let first = ground_at a.self.now.memory.now a.i in
    let test = λ (j : ℕ). clashes first (ground_at a.self.now.memory.now j) in
    let told = λ (j : ℕ). ToldByWords a.self.now.patterns first.row (ground_at a.self.now.memory.now j).row in
    any_told (numbers_from a.from (a.to - a.from)) test told
    (λ j m. let w = numbers_within a.from (a.to - a.from) m in let l = w.0 in let h = w.1 in T a.i j c.requires.literal (omega arith))
    (cases_from_any _ _ c.any.result (λ j. told j → test j ≡ true) (λ j. told j → test j ≡ false) c.any.ensures.ran
    (YieldsList-from_range a.from a.to (a.to - a.from) refl refl) (λ x q k. search (rules, tests)) (λ x q k. search (rules, tests)))
    ∙ sym (any_behind a.from a.to a.self.now.memory.now (clashes first))
