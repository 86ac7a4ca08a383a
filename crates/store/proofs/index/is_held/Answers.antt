-- `is_held` meets its contract: by the number of facts in the slot, and the word of the only one. Assumes nothing.
use mathlib.Core.Path.{◌≡◌}
use native.Mathlib.Omega.{arith}
use mir.Syntax.{w8}
use mir.Val.{Fits}
use borrow.Author.Rules.{rules}
use lib.ListN.{length, get_or}
use Rattle.literals.specs.Held.{rows_in}
use Rattle.literals.proofs.KeyRows.{length_rows}
use Rattle.store.proofs.Totals.{Bytes, rows_eight, held_none, held_one}
use Rattle.store.proofs.index.is_held.Goals as goal

pub returns-in-0 : goal.returns-in-0
returns-in-0 c = let a = c.args in
    let o = c.slot_of-slot in
    λ head i z.
    held_none a.index.now (rows_in a.n a.memory.now) i (omega (arith, length_rows 8 a.n a.memory.now)) a.row o.result o.ensures.number c.in-0.is

pub returns-in-1 : goal.returns-in-1
returns-in-1 c = let a = c.args in
    let o = c.slot_of-slot in
    let l : length a.row ≡ 8 = search rules in
    let b : Bytes a.row = λ k. let z : Fits w8 (get_or a.row k 0) = search rules in omega arith in
    let m : Bytes a.memory.now = λ k. omega (arith, c.shared_slice_known-1.given k) in
    λ head i z.
    held_one a.index.now (rows_in a.n a.memory.now) i (omega (arith, length_rows 8 a.n a.memory.now)) a.row o.result o.ensures.number
    c.in-1.is c.word_of.result c.word_of.ensures.number (l, b) (rows_eight a.n a.memory.now (omega arith) m) z
