use mathlib.Core.Path.{refl, ◌∙◌}
use Prim.Native.Nat.{◌<◌}
use native.Mathlib.Omega.{arith}
use lib.ListN.{length}
use Rattle.templates.proofs.EntryBytes.{relations_next, relations_all}
use Rattle.templates.proofs.entries.put_list.Goals as goal

pub loop-relation-init : goal.loop-relation-init
loop-relation-init c =
    record {
      reach = omega arith;
      few = omega arith;
      same = refl;
      listing = λ D old B L. L;
    }

pub overflow_cast-relation : goal.overflow_cast-relation
overflow_cast-relation c = let m = c.relations_in-relation-end.ensures.few in omega arith

pub put_relation-end-requires : goal.put_relation-end-requires
put_relation-end-requires c =
    let l = c.loop-relation in
    let f = l.invariant.few in
    let s = l.invariant.same in
    let m = c.relations_in-relation-end.ensures.few in
    record { whole = c.requires.whole; room = omega arith }

pub loop-relation-preserved : goal.loop-relation-preserved
loop-relation-preserved c =
    let l = c.loop-relation in
    let n = c.relations_in-relation-end.ensures.number in
    record {
      reach = omega arith;
      few = (let f = l.invariant.few in let e = c.put_relation-end.ensures.few in omega arith);
      same = c.put_relation-end.auto.list ∙ l.invariant.same;
      listing =
          λ D old B L.
          let a = n ∙ B.holds.filled.says.relations in
          let h : l.relation < length D.arities = omega arith in
          relations_next D l.relation h (c.put_relation-end.ensures.entries D _ old B h (l.invariant.listing D old B L));
    }

pub shape_of-list : goal.shape_of-list
shape_of-list c = c.loop-relation.invariant.same

pub returns : goal.returns
returns c =
    let l = c.loop-relation in
    let n = c.relations_in-relation-end.ensures.number in
    let m = c.relations_in-relation-end.ensures.few in record {
      few = (let f = l.invariant.few in let q = l.invariant.reach in omega arith);
      entries = λ D old B L.
          let a = n ∙ B.holds.filled.says.relations in
          relations_all D l.relation (omega arith) (l.invariant.listing D old B L);
    }
