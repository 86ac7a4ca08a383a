use mathlib.Core.Path.{◌≡◌, refl, ap, ◌∙◌}
use mathlib.Core.List.{flat_map}
use Prim.Native.Nat.{ℕ, ◌+◌, ◌-◌, ◌*◌}
use native.Mathlib.Omega.{arith}
use Rattle.records.specs.Memory.{over}
use Rattle.witness.specs.Held.{conditions_of}
use Rattle.witness.proofs.Facts.{conditions_to, conditions_length, conditions_room, conditions_at, conditions_out}
use Rattle.witness.proofs.put_conditions.Goals as goal

pub loop-j-init : goal.loop-j-init
unfolding conditions_of flat_map over
loop-j-init c = (omega arith, refl, refl)

pub put_if-at-requires-clause-room : goal.put_if-at-requires-clause-room
put_if-at-requires-clause-room c e =
    let a = c.args in
    let p = c.requires in
    let l = c.loop-j in
    conditions_room a.head.now a.usages.now a.rows.now a.n a.out.now p.rowed p.room l.j l.at l.out l.invariant.0 l.invariant.1 l.invariant.2 (omega arith) e

pub loop-j-preserved : goal.loop-j-preserved
loop-j-preserved c =
    let back8 = c in
    let a = back8.args in
    let p = back8.requires in
    let l = c.loop-j in
    let r = c.put_if-at in
    let z : 8 * l.j + 8 - 8 * l.j ≡ 8 = omega arith in (
      omega arith,
      conditions_at a.head.now a.usages.now a.rows.now a.n a.out.now p.rowed p.room l.j l.at l.out
          l.invariant.0 l.invariant.1 l.invariant.2 (omega arith) r.result (rw z at r.ensures.behind),
      conditions_out a.head.now a.usages.now a.rows.now a.n a.out.now p.rowed p.room l.j l.at l.out
          l.invariant.0 l.invariant.1 l.invariant.2 (omega arith) r.new.out (rw z at r.ensures.written),
    )

pub shape_of-out : goal.shape_of-out
shape_of-out c =
    let a = c.args in
    let p = c.requires in
    let l = c.loop-j in
    conditions_length a.head.now a.usages.now a.rows.now a.n a.out.now p.rowed p.room l.j l.at l.out l.invariant.0 l.invariant.1 l.invariant.2

pub returns : goal.returns
returns c =
    let a = c.args in
    let l = c.loop-j in
    let e : l.j ≡ a.n = omega arith in
    l.invariant.2 ∙ ap (λ (i : ℕ). over (conditions_to a.head.now a.usages.now a.rows.now i) a.out.now) e
