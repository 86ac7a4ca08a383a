-- `entry_of` meets its contract: the chain goes over the entries by index. Assumes nothing.
use mathlib.Core.Path.{refl, ◌∙◌}
use native.Mathlib.Omega.{arith}
use Prim.Native.Nat.{ℕ, ◌*◌}
use lib.Dec.{eqb}
use lib.ListN.{take, drop}
use borrow.Author.Tests.{tests}
use Rattle.std.proofs.Common.{rules}
use Rattle.std.proofs.lemmas.Iterator.{YieldsList-from_range}
use Rattle.std.proofs.lemmas.Iterator.Search.{position_from_yields_List}
use Rattle.records.specs.Lists.{same_list}
use Rattle.events.proofs.ByIndex.{place_rows}
use Rattle.events.proofs.openings.entry_of.Goals as goal

pub returns : goal.returns
returns c =
    let a = c.args in
    position_from_yields_List (λ (k : ℕ). same_list eqb a.act.now (take 17 (drop (17 * k) a.rows.now))) _ _ c.position.result c.position.ensures.ran
    (YieldsList-from_range 0 a.n a.n refl (omega arith)) (λ x b q k. search (rules, tests))
    ∙ place_rows 17 a.n a.rows.now (same_list eqb a.act.now)
