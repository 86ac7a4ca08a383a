use native.Mathlib.Omega.{arith}
use Prim.Native.Nat.{◌-◌}
use Rattle.literals.proofs.KeyRows.{number_none, number_more, number_all}
use Rattle.literals.proofs.keys.key_number.Goals as goal

pub loop-k-init : goal.loop-k-init
loop-k-init c =
    let e = c.keys_in-k.ensures.number in
    let l = c.keys_in-k.ensures.few in
    (omega arith, omega arith, number_none _ _ _ c.keys_in-k.result (omega arith) e)

pub loop-k-preserved : goal.loop-k-preserved
loop-k-preserved c =
    let l = c.loop-k in
    let i = l.invariant in
    let b = c.key_byte.type_inv in
    (omega arith, i.1, rw c.lowered-word.ensures (number_more _ _ _ (l.k - 1) l.k (omega arith) (omega arith) (omega arith) (c.key_byte.ensures, omega arith) i.2))

pub returns : goal.returns
returns c = let l = c.loop-k in let i = l.invariant.1 in number_all _ _ _ l.k (omega arith) (omega arith) l.invariant.2
