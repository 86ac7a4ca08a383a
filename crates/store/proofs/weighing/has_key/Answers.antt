-- `has_key` meets its contract: by the key tuple of the fact, if it has one. Assumes nothing.
use mathlib.Core.Path.{◌∙◌}
use lib.ListN.{take, drop}
use Rattle.literals.specs.Held.{keys_in, component_rows_in}
use Rattle.store.proofs.InstanceRows.{keyed_none, keyed_one, has_none, has_one}
use Rattle.store.proofs.weighing.has_key.Goals as goal

pub returns-in-Some : goal.returns-in-Some
returns-in-Some c =
    let a = c.args in
    let keys = keys_in a.head.now in
    let ps = component_rows_in a.head.now in
    let fact = take 8 (drop a.at a.memory.now) in
    c.eq.ensures ∙ has_one keys ps fact a.row c.in-Some.other (keyed_one keys ps fact c.in-Some.other c.in-Some.ensures)

pub returns-in-None : goal.returns-in-None
returns-in-None c =
    let a = c.args in
    let keys = keys_in a.head.now in
    let ps = component_rows_in a.head.now in
    let fact = take 8 (drop a.at a.memory.now) in
    has_none keys ps fact a.row (keyed_none keys ps fact c.in-None.ensures)
