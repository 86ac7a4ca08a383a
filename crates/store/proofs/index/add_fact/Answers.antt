-- `add_fact` meets its contract: at two places, and at a third where the fact has a key tuple. Assumes nothing.
use mathlib.Core.Path.{◌≡◌, ap, ◌∙◌}
use lib.ListN.{take, drop}
use Rattle.literals.specs.Held.{keys_in, component_rows_in}
use Rattle.store.specs.Held.{slot_of}
use Rattle.store.proofs.InstanceRows.{keyed_none, keyed_one}
use Rattle.store.proofs.Totals.{with_none, with_one}
use Rattle.store.proofs.index.add_fact.Goals as goal

pub returns-in-Some-clause-fact : goal.returns-in-Some-clause-fact
returns-in-Some-clause-fact c =
    let a = c.args in
    let keys = keys_in a.head.now in
    let ps = component_rows_in a.head.now in
    let row = take 8 (drop a.at a.memory.now) in
    let e : c.slot_of-slot.result ≡ slot_of row = c.slot_of-slot.ensures.number ∙ ap slot_of c.row_at.ensures in
    let v = c.add_at-in-Some in
    with_one keys ps row a.index.now a.count a.word c.slot_of-slot.result e c.add_at.new.index c.add_at-2.new.index c.add_at.ensures c.add_at-2.ensures
    c.in-Some.t v.new.index c.key_slot.result (keyed_one keys ps row c.in-Some.t c.in-Some.ensures) c.key_slot.ensures.number v.ensures

pub returns-in_default-clause-fact : goal.returns-in_default-clause-fact
returns-in_default-clause-fact c =
    let a = c.args in
    let keys = keys_in a.head.now in
    let ps = component_rows_in a.head.now in
    let row = take 8 (drop a.at a.memory.now) in
    let e : c.slot_of-slot.result ≡ slot_of row = c.slot_of-slot.ensures.number ∙ ap slot_of c.row_at.ensures in
    with_none keys ps row a.index.now a.count a.word c.slot_of-slot.result e c.add_at.new.index c.add_at-2.new.index c.add_at.ensures c.add_at-2.ensures
    (keyed_none keys ps row c.in_default.ensures)
