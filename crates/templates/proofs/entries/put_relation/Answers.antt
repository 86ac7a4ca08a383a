use mathlib.Core.Path.{refl, ◌∙◌}
use mathlib.Core.List.{◌++◌, ◌∷◌, []}
use Prim.Native.Nat.{◌<◌}
use native.Mathlib.Omega.{arith}
use Rattle.literals.specs.Domain.{arity}
use Rattle.std.specs.Prelude.{None}
use Rattle.templates.specs.Templates.{shape}
use Rattle.templates.proofs.EntryBytes.{places_none, places_next, places_all}
use Rattle.templates.proofs.entries.put_relation.Goals as goal

pub loop-place-init : goal.loop-place-init
loop-place-init c =
    record {
      reach = omega arith;
      few = omega arith;
      same = refl;
      listing = λ D ss old B h L. places_none ss c.args.relation L;
    }

pub put_entry-end-requires-in-loop-place : goal.put_entry-end-requires-in-loop-place
put_entry-end-requires-in-loop-place c =
    let back8 = c in
    let put-entry = c.put_entry-end in
    let l = c.loop-place in
    let f = l.invariant.few in
    let s = l.invariant.same in
    let k = put-entry.auto.list in
    let e = put-entry.ensures.few in
    let a = c.arity_of-place-end.ensures.few in
    record { whole = back8.requires.whole; room = omega arith }

pub loop-place-preserved : goal.loop-place-preserved
loop-place-preserved c =
    let l = c.loop-place in
    let n = c.arity_of-place-end.ensures.number in
    let m = c.arity_of-place-end.ensures.few in
    record {
      reach = omega arith;
      few = (let f = l.invariant.few in let e = c.put_entry-end-in-loop-place.ensures.few in omega arith);
      same = c.put_entry-end-in-loop-place.auto.list ∙ l.invariant.same;
      listing =
          λ D ss old B h L.
          let turn = c in
          let r = turn.args.relation in
          let a = n ∙ B.holds.filled.says.arities r in
          let p : l.place < arity D r = omega arith in
          places_next ss r l.place
          (c.put_entry-end-in-loop-place.ensures.entry D _ old B h p (l.invariant.listing D ss old B h L));
    }

pub shape_of-list : goal.shape_of-list
shape_of-list c = c.loop-place.invariant.same ∙ c.put_entry-end.auto.list

pub returns : goal.returns
returns c =
    let back8 = c in
    let arity-of = c.arity_of-place-end in
    let l = c.loop-place in
    let n = arity-of.ensures.number in
    let m = arity-of.ensures.few in
    let first = c.put_entry-end in
    let r = back8.args.relation in record {
      few = (let f = l.invariant.few in let e = first.ensures.few in let q = l.invariant.reach in omega arith);
      entries = λ D ss old B h L.
          let a = n ∙ B.holds.filled.says.arities r in
          let q = l.invariant.reach in
          places_all ss r l.place (omega arith)
          (l.invariant.listing D (ss ++ (shape r None ∷ [])) old B h (first.ensures.entry D ss old B h tt L));
    }
