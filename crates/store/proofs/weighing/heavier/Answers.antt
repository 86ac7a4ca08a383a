-- `heavier` meets its contract: by the key tuple of the fact, if it has one, and its weight, or the number at its slot. Assumes nothing.
use mathlib.Core.Path.{refl}
use native.Mathlib.Omega.{arith}
use lib.ListN.{take, drop}
use Rattle.literals.specs.Held.{keys_in, component_rows_in, rows_in}
use Rattle.literals.proofs.KeyRows.{length_rows}
use Rattle.store.specs.Held.{row_weight}
use Rattle.store.proofs.InstanceRows.{keyed_none, keyed_one, higher_none, higher_one, higher_old}
use Rattle.store.proofs.Totals.{weight_most}
use Rattle.store.proofs.weighing.heavier.Goals as goal

pub returns-in-None : goal.returns-in-None
returns-in-None c =
    let a = c.args in
    let ps = component_rows_in a.head.now in
    let fact = take 8 (drop a.at a.memory.now) in
    λ i. higher_none (keys_in a.head.now) ps (rows_in a.n a.memory.now) fact a.least (keyed_none (keys_in a.head.now) ps fact c.in-None.ensures)

pub returns-then-index-key_slot : goal.returns-then-index-key_slot
returns-then-index-key_slot c =
    let a = c.args in
    let row = c.in-Some.row in
    let ps = component_rows_in a.head.now in
    let rows = rows_in a.n a.memory.now in
    let fact = take 8 (drop a.at a.memory.now) in
    let g = c.key_slot in
    λ i. higher_old (keys_in a.head.now) ps rows fact a.least row (keyed_one (keys_in a.head.now) ps fact row c.in-Some.ensures)
    (row_weight (keys_in a.head.now) ps rows row) refl
    (let w = weight_most a.index.now rows i (omega (arith, length_rows 8 a.n a.memory.now)) row g.result g.ensures.number in omega (arith, c.if-index-key_slot.true))

pub returns-else-index-key_slot : goal.returns-else-index-key_slot
returns-else-index-key_slot c =
    let a = c.args in
    let row = c.in-Some.row in
    let ps = component_rows_in a.head.now in
    let rows = rows_in a.n a.memory.now in
    let fact = take 8 (drop a.at a.memory.now) in
    λ i. higher_one (keys_in a.head.now) ps rows fact a.least row (keyed_one (keys_in a.head.now) ps fact row c.in-Some.ensures) c.weigh.result c.weigh.ensures (omega (arith, c.max.ensures))
