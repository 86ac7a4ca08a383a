-- `bound_row` meets its contract, byte by byte. Assumes nothing.
use Rattle.std.proofs.Common.{rules}
use mathlib.Core.Path.{refl}
use mathlib.Core.List.{List}
use Prim.Native.Nat.{ℕ}
use native.Mathlib.Omega.{arith}
use lib.ListN.{get_or, take, drop}
use Rattle.events.specs.Held.{bound_bytes}
use Rattle.events.proofs.RowLoops.{length_bound, bound_whole}
use Rattle.events.proofs.ByIndex.{filled_whole}
use Rattle.events.proofs.facts.bound_row.Goals as goal

pub returns : goal.returns
returns c =
    let a = c.args in
    let n = c.arity_of-arity.result in
    let few = c.arity_of-arity.ensures.few in
    let row : List ℕ = bound_bytes n a.act.now (take 8 (drop a.row a.rows.now)) in
    bound_whole n a.act.now a.rows.now a.row (omega arith) few
    (filled_whole _ _ (λ (i : ℕ). get_or row i 0) (λ i y q k. search rules) c.from_fn.result 8 c.from_fn.ensures.items row
    (length_bound n a.act.now a.rows.now a.row (omega arith) few) (λ i h. refl))
    a.head.now c.arity_of-arity.ensures.number
