-- `all_plainly_met` meets its contract: the chain goes over the ground literals by index. Assumes nothing.
use mathlib.Core.Path.{refl, sym, ◌∙◌}
use native.Mathlib.Omega.{arith}
use Prim.Native.Nat.{ℕ}
use borrow.Author.Tests.{tests}
use Rattle.std.proofs.Common.{rules}
use mathlib.Core.Path.{◌≡◌}
use mathlib.Core.Bool.{true, false}
use Rattle.std.proofs.lemmas.Iterator.{YieldsList-from_range, cases_from_all}
use Rattle.records.specs.Lists.{below}
use Rattle.literals.specs.Decode.{byte}
use Rattle.literals.specs.Held.{rows_in, arity_in}
use Rattle.literals.proofs.Indices.{below_less}
use Rattle.events.specs.Held.{ground_at}
use Rattle.events.proofs.GroundLiterals.{ground_in_lem}
use Rattle.events.proofs.ByIndex.{all_ground, all_told}
use Rattle.applicability.specs.Held.{plainly_met}
use Rattle.applicability.proofs.conditions.Facts.all_plainly_met.Goals as goal

pub returns : goal.returns
returns c head I S =
    let a = c.args in
    let test = λ (i : ℕ). plainly_met (rows_in a.self.now.count a.self.now.work.now) (ground_at a.literals.now.memory.now i) in
    let sized = λ (i : ℕ). byte (ground_at a.literals.now.memory.now i).row 1 ≡ arity_in head (byte (ground_at a.literals.now.memory.now i).row 0) in
    all_told (below a.literals.now.count) test sized (λ i m. S (ground_at a.literals.now.memory.now i) (ground_in_lem a.literals.now.memory.now a.literals.now.count i (below_less a.literals.now.count m)))
    (cases_from_all _ _ c.all.result (λ i. sized i → test i ≡ true) (λ i. sized i → test i ≡ false) c.all.ensures.ran
    (YieldsList-from_range 0 a.literals.now.count a.literals.now.count refl (omega arith)) (λ x q k. search (rules, tests)) (λ x q k. search (rules, tests)))
    ∙ sym (all_ground a.literals.now.count a.literals.now.memory.now (plainly_met (rows_in a.self.now.count a.self.now.work.now)))
