-- `place_under` meets its contract: the labels one by one. Assumes nothing.
use mathlib.Core.Path.{refl}
use Prim.Native.Nat.{◌+◌}
use lib.ListN.{get_or}
use Rattle.std.proofs.Common.{rules}
use Rattle.std.proofs.lemmas.Iterator.{YieldsList-from_range}
use Rattle.std.proofs.lemmas.Iterator.Search.{position_from_yields_List}
use Rattle.records.specs.Lists.{below}
use Rattle.literals.specs.Domain.{is_key}
use Rattle.literals.specs.Decode.{label_of}
use Rattle.literals.specs.Held.{component_row_in, place_under}
use Rattle.literals.proofs.Chains.{place_or}
use Rattle.literals.proofs.keys.place_under.Goals as goal

pub returns : goal.returns
unfolding place_under
returns c =
    let a = c.args in
    place_or (λ i. is_key a.k (label_of (get_or (component_row_in a.head.now a.c) (i + 1) 0))) (below 6) c.position.result
    (position_from_yields_List (λ i. is_key a.k (label_of (get_or (component_row_in a.head.now a.c) (i + 1) 0))) _ _ c.position.result c.position.ensures.ran (YieldsList-from_range 0 6 6 refl refl) (λ x b q k. search rules))
    c.unwrap_or.ensures
