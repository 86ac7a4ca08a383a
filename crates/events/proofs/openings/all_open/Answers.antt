-- `all_open` meets its contract: the chain goes over the events by index. Assumes nothing.
use mathlib.Core.Path.{refl, sym, ◌∙◌}
use native.Mathlib.Omega.{arith}
use Prim.Native.Nat.{ℕ}
use borrow.Author.Tests.{tests}
use Rattle.std.proofs.Common.{rules}
use Rattle.std.proofs.lemmas.Iterator.{YieldsList-from_range}
use Rattle.std.proofs.lemmas.Iterator.Search.{all_from_yields_List}
use Rattle.events.specs.Held.{grounds_in, end_open, event_at}
use Rattle.events.proofs.ByIndex.{all_events}
use Rattle.events.proofs.openings.all_open.Goals as goal

pub returns : goal.returns
returns c =
    let a = c.args in
    all_from_yields_List (λ (i : ℕ). end_open (grounds_in a.n a.rows.now) (event_at a.waiting.now.moments.now a.waiting.now.rows.now i)) _ _ c.all.result c.all.ensures.ran
    (YieldsList-from_range 0 a.waiting.now.count a.waiting.now.count refl (omega arith)) (λ x b q k. search (rules, tests))
    ∙ sym (all_events a.waiting.now.count a.waiting.now.moments.now a.waiting.now.rows.now (end_open (grounds_in a.n a.rows.now)))
