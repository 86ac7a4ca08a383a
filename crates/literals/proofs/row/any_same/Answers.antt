-- `any_same` meets its contract: the numbers of the rows one by one. Assumes nothing.
use mathlib.Core.Path.{◌≡◌, refl, ◌∙◌}
use mathlib.Core.Bool.{Bool, false, ◌||◌}
use Prim.Native.Nat.{ℕ, ◌*◌, ◌-◌, ◌<◌}
use native.Mathlib.Omega.{arith}
use lib.Dec.{eqb}
use lib.ListN.{get_or}
use Rattle.std.proofs.Common.{rules}
use Rattle.std.proofs.lemmas.Iterator.{YieldsList-from_range}
use Rattle.std.specs.Int.{w64, from_le_bytes}
use Rattle.std.specs.List.{fold}
use Rattle.records.specs.Lists.{numbers_from}
use Rattle.literals.specs.Held.{eight_bytes}
use Rattle.literals.proofs.Chains.{fold_from_yields, found_any, word_among}
use Rattle.literals.proofs.row.any_same.Goals as goal

pub returns : goal.returns
returns c =
    let a = c.args in
    let e : c.fold.result ≡ fold (λ (found : Bool) (i : ℕ). found || eqb (from_le_bytes w64 (eight_bytes a.table.now (8 * i))) a.word) false (numbers_from a.from (a.to - a.from)) =
    fold_from_yields (λ (found : Bool) (i : ℕ). found || eqb (from_le_bytes w64 (eight_bytes a.table.now (8 * i))) a.word) _ false c.fold.result c.fold.ensures.ran (YieldsList-from_range a.from a.to _ refl refl) (λ b x d q k. search rules) in
    let b : (k : ℕ) → get_or a.table.now k 0 < 256 = λ k. omega (arith, c.type_inv.table k) in
    λ row W.
    e
    ∙ found_any (λ i. eqb (from_le_bytes w64 (eight_bytes a.table.now (8 * i))) a.word) false (numbers_from a.from (a.to - a.from))
    ∙ word_among row a.table.now W b a.from a.to c.requires.span c.requires.table
