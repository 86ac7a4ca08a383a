-- `put_open` meets its contract. Assumes nothing.
use mathlib.Core.Path.{◌≡◌, refl}
use mathlib.Core.List.{[]}
use lib.ListN.{get_or}
use native.Mathlib.Omega.{arith}
use Rattle.classes.specs.Classes.{classes}
use Rattle.classes.specs.Held.{uncovered_at}
use Rattle.witness.proofs.Shown.{open_inside, open_found, open_short, open_shown, given}
use Rattle.witness.proofs.put_open.Goals as goal

pub returns-then-out-k : goal.returns-then-out-k
returns-then-out-k c D a A f v R =
    let back8 = c in
    let args = back8.args in
    let k = c.count_conditions-k in
    open_short (given args.m A
    back8.requires.rowed c.usages_at.ensures.usages) R
    k.result k.ensures.number args.out.now refl (omega arith)

pub returns-in_default : goal.returns-in_default
returns-in_default c D a A f v R =
    let k = c.count_conditions-k in
    let G = given c.args.m A c.requires.rowed c.usages_at.ensures.usages in
    let o = open_found G R k.result k.ensures.number c.args.out.now refl (c.open_component.ensures D a A f R.listed) in
    let u : c.in-Some.u ≡ uncovered_at D a (get_or (classes D a) c.args.j []) c.args.m = cc (o, c.in-Some.is) in
    let l = open_inside G R k.result k.ensures.number c.args.out.now refl in
    let n = A.says.components in
    let e = c.components_in.ensures.number in
    absurd (omega arith)

pub returns-in_default-2 : goal.returns-in_default-2
returns-in_default-2 c D a A f v R =
    let k = c.count_conditions-k in
    let G = given c.args.m A c.requires.rowed c.usages_at.ensures.usages in
    let o = open_found G R k.result k.ensures.number c.args.out.now refl (c.open_component.ensures D a A f R.listed) in
    cc (o, c.in_default.is)

pub class_tuple-tuple-requires : goal.class_tuple-tuple-requires
class_tuple-tuple-requires c = let p = c.requires in record { rowed = omega arith; few = p.few }

pub returns-in-Some : goal.returns-in-Some
returns-in-Some c D a A f v R =
    let args = c.args in
    let k = c.count_conditions-k in
    let G = given args.m A c.requires.rowed c.usages_at.ensures.usages in
    let o = open_found G R k.result k.ensures.number args.out.now refl (c.open_component.ensures D a A f R.listed) in
    let u : c.in-Some.u ≡ uncovered_at D a (get_or (classes D a) args.j []) args.m = cc (o, c.in-Some.is) in
    let t = c.class_tuple-tuple in
    open_shown G R k.result k.ensures.number args.out.now refl (omega arith) t.result args.spare.0 c.in-Some.u
    (t.ensures D a A f R.listed) u v c.put_conditions.new.out c.put_instance.new.out c.put_conditions.ensures c.put_instance.ensures
