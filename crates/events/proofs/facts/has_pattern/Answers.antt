-- `has_pattern` meets its contract: the chain goes over the rows by index. Assumes nothing.
use mathlib.Core.Path.{sym, refl, ◌∙◌}
use native.Mathlib.Omega.{arith}
use Prim.Native.Nat.{ℕ, ◌*◌}
use lib.ListN.{take, drop}
use borrow.Author.Tests.{tests}
use Rattle.std.proofs.Common.{rules}
use Rattle.std.proofs.lemmas.Iterator.{YieldsList-from_range}
use Rattle.std.proofs.lemmas.Iterator.Search.{any_from_yields_List}
use Rattle.events.specs.Held.{is_pattern}
use Rattle.events.proofs.ByIndex.{any_rows}
use Rattle.events.proofs.facts.has_pattern.Goals as goal

pub returns : goal.returns
returns c =
    let a = c.args in
    any_from_yields_List (λ (i : ℕ). is_pattern (take 8 (drop (8 * i) a.rows.now))) _ _ c.any.result c.any.ensures.ran
    (YieldsList-from_range 0 a.n a.n refl (omega arith)) (λ x b q k. search (rules, tests))
    ∙ sym (any_rows 8 a.n a.rows.now is_pattern)
