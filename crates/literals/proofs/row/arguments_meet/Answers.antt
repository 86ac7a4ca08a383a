-- `arguments_meet` meets its contract: the six bytes one by one. Assumes nothing.
use mathlib.Core.Path.{◌≡◌, refl, ◌∙◌}
use Prim.Native.Nat.{◌+◌}
use lib.ListN.{get_or}
use Rattle.std.proofs.Common.{rules}
use Rattle.std.proofs.lemmas.Iterator.{YieldsList-from_range}
use Rattle.std.proofs.lemmas.Iterator.Search.{all_from_yields_List}
use Rattle.records.specs.Lists.{all, numbers_from}
use Rattle.literals.specs.Held.{meet_byte}
use Rattle.literals.proofs.Chains.{meet_listed}
use Rattle.literals.proofs.row.arguments_meet.Goals as goal

pub returns : goal.returns
returns c =
    let a = c.args in
    let e : c.all.result ≡ all (λ k. meet_byte (get_or a.x.now (a.i + k) 0) (get_or a.y.now (a.j + k) 0)) (numbers_from 2 6) =
    all_from_yields_List (λ k. meet_byte (get_or a.x.now (a.i + k) 0) (get_or a.y.now (a.j + k) 0)) _ _ c.all.result c.all.ensures.ran (YieldsList-from_range 2 8 _ refl refl) (λ x b q k. search rules) in
    e ∙ meet_listed a.x.now a.y.now a.i a.j c.requires.one c.requires.other
