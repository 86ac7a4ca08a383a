-- `any_clears_key` meets its contract: the chain goes over the rows by index. Assumes nothing.
use mathlib.Core.Path.{refl, ◌∙◌}
use Prim.Native.Nat.{ℕ, ◌*◌}
use native.Mathlib.Omega.{arith}
use borrow.Author.Tests.{tests}
use lib.ListN.{take, drop}
use Rattle.std.proofs.Common.{rules}
use Rattle.std.proofs.lemmas.Iterator.Search.{any_from_yields_List}
use Rattle.std.proofs.lemmas.Iterator.{YieldsList-from_range}
use Rattle.literals.specs.Held.{key_cleared_in}
use Rattle.literals.proofs.Bytes.{rows_told}
use Rattle.literals.proofs.fields.any_clears_key.Goals as goal

pub returns : goal.returns
returns c =
    let a = c.args in
    any_from_yields_List (λ (i : ℕ). key_cleared_in a.p.now (take 8 (drop (8 * i) a.table.now))) _ _ c.any.result c.any.ensures.ran
    (YieldsList-from_range 0 a.n a.n refl (omega arith)) (λ x b q k. search (rules, tests))
    ∙ rows_told (key_cleared_in a.p.now) a.table.now a.n
