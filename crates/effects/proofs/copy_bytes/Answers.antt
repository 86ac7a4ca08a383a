use mathlib.Core.Path.{◌≡◌, refl}
use native.Mathlib.Omega.{arith}
use lib.ListN.{length}
use lib.Seq.{paste-zero}
use Rattle.records.proofs.Memory.{paste_more, paste_length}
use Rattle.effects.proofs.copy_bytes.Goals as goal

pub loop-i-init : goal.loop-i-init
loop-i-init c = let a = c.args in (omega arith, paste-zero a.out.now a.at a.p.now)

pub bounds-out-at : goal.bounds-out-at
bounds-out-at c =
    let a = c.args in
    let l = c.loop-i in
    let e = paste_length a.p.now a.out.now l.out a.at l.i (length a.p.now) (omega arith) refl l.invariant.1 l.invariant.0 in
    omega arith

pub loop-i-preserved : goal.loop-i-preserved
loop-i-preserved c =
    let a = c.args in
    let l = c.loop-i in
    (omega arith, paste_more a.p.now a.out.now l.out a.at l.i (length a.p.now) (omega arith) refl l.invariant.1 _ (omega arith) refl)

pub shape_of-out : goal.shape_of-out
shape_of-out c =
    let a = c.args in
    let l = c.loop-i in
    paste_length a.p.now a.out.now l.out a.at l.i (length a.p.now) (omega arith) refl l.invariant.1 l.invariant.0

pub returns : goal.returns
returns c =
    let a = c.args in
    let e : c.loop-i.i ≡ length a.p.now = omega arith in
    rw e at c.loop-i.invariant.1
