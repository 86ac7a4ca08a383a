-- `payload_meets` meets its contract: the bytes of the payload one by one. Assumes nothing.
use mathlib.Core.Path.{◌≡◌, refl, ◌∙◌}
use Prim.Native.Nat.{◌+◌, ◌-◌}
use lib.ListN.{get_or, length}
use Rattle.std.proofs.Common.{rules}
use Rattle.std.proofs.lemmas.Iterator.{YieldsList-from_range}
use Rattle.std.proofs.lemmas.Iterator.Search.{all_from_yields_List}
use Rattle.records.specs.Lists.{all, numbers_from}
use Rattle.literals.specs.Held.{meet_byte}
use Rattle.literals.proofs.Chains.{payload_meeting_all}
use Rattle.literals.proofs.row.payload_meets.Goals as goal

pub returns : goal.returns
returns c =
    let a = c.args in
    let e : c.all.result ≡ all (λ i. meet_byte (get_or a.p.now i 0) (get_or a.table.now (a.at + i) 0)) (numbers_from 2 (length a.p.now - 2)) =
    all_from_yields_List (λ i. meet_byte (get_or a.p.now i 0) (get_or a.table.now (a.at + i) 0)) _ _ c.all.result c.all.ensures.ran (YieldsList-from_range 2 (length a.p.now) _ refl refl) (λ x b q k. search rules) in
    e ∙ payload_meeting_all a.p.now a.table.now a.at c.requires.short c.requires.table c.requires.long
