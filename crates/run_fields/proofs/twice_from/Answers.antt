-- `twice_from` meets its contract. Assumes nothing.
use Rattle.std.proofs.Common.{rules, tests}
use Rattle.std.proofs.lemmas.Iterator.{YieldsList-from_range}
use Rattle.std.proofs.lemmas.Iterator.Search.{any_from_yields_List}
use mathlib.Core.Path.{refl, ◌∙◌}
use lib.ListN.{length}
use Rattle.run_fields.specs.Held.{stands_again}
use Rattle.run_fields.proofs.RunFields.{again_twice}
use Rattle.run_fields.proofs.twice_from.Goals as goal

pub returns : goal.returns
returns c =
    let a = c.args in
    any_from_yields_List (stands_again a.p.now) _ _ _ c.any.ensures.ran (YieldsList-from_range a.from (length a.p.now) _ refl refl) (λ x b q k. search (rules, tests))
    ∙ again_twice a.p.now a.from
