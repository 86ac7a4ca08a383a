use mathlib.Core.Path.{refl, sym, ap, ◌∙◌}
use mathlib.Core.List.{List, ◌++◌}
use Prim.Native.Nat.{ℕ, ◌*◌, ◌≤◌, ◌<◌}
use native.Mathlib.Omega.{arith}
use lib.ListN.{length, set, take}
use borrow.Rule.Slice.PartMut.{Post-is}
use Rattle.literals.specs.Domain.{action}
use Rattle.literals.proofs.Spans.{part_length}
use Rattle.classes.proofs.Tables.{numbers_more_actions}
use Rattle.verdict.proofs.ReadActions.{action_held, same_head}
use Rattle.naming.proofs.NamedRows.{names_room, names_next, names_few, numbered_none, numbered_all, listed_none, listed_action, noted_action, counted_action, naming_done}
use Rattle.naming.proofs.name_all.Goals as goal

pub loop-i-init : goal.loop-i-init
loop-i-init c =
    record {
      reach = omega arith;
      numbers_room = refl;
      words_room = refl;
      numbered = λ D H wf. numbered_none D _;
      room = refl;
      few = λ D H. omega arith;
      listed = λ D H wf. listed_none D _;
      noted = λ D H wf. c.new-notes.ensures;
      counted = λ D H wf z. z;
    }

pub slice_bounds-name_action-start-in-loop-i : goal.slice_bounds-name_action-start-in-loop-i
slice_bounds-name_action-start-in-loop-i c = c.rows_of-span.ensures.fits.order

pub slice_bounds-name_action-end-in-loop-i : goal.slice_bounds-name_action-end-in-loop-i
slice_bounds-name_action-end-in-loop-i c =
    let back8 = c in
    let F = c.rows_of-span.ensures.fits.room in
    let q = c.loop-i.invariant.numbers_room in
    let u = back8.requires.numbers in
    omega arith

pub slice_bounds-name_action-end-in-loop-i-2 : goal.slice_bounds-name_action-end-in-loop-i-2
slice_bounds-name_action-end-in-loop-i-2 c = sym c.loop-i.invariant.words_room

pub name_action-named-requires : goal.name_action-named-requires
name_action-named-requires c =
    let H = c.requires.read.1 in
    let b = c.rows_of-span in
    let F = b.ensures.fits in
    let l = c.loop-i in
    let n = c.actions_in-i-end.ensures in
    let m = H.says.actions in
    let o = F.order in
    let f = F.few in
    let h : l.i < length c.requires.read.0.actions = omega arith in
    let r : length c.args.table.now ≤ 4 * length l.names =
    (let q = l.invariant.room in let u = c.requires.room in omega arith) in
    let q = c.name_action-arg-in-loop-i-1.given.1 in
    let e = part_length c.args.table.now b.result.from b.result.to o F.room in
    let s = names_room H l.i h (b.ensures.rows _ H h) F _ (l.invariant.few _ H) _ r in record { rowed = e ∙ ap (λ (n : ℕ). 8 * n) q; literals = omega arith; words = l.invariant.words_room; room = omega arith }

pub overflow_cast-counts : goal.overflow_cast-counts
overflow_cast-counts c =
    let back8 = c in
    let q = back8.name_action-arg-in-loop-i-1.given.1 in
    let k = c.name_action-named.ensures.classes in
    let f = back8.rows_of-span.ensures.fits.few in
    omega arith

pub bounds-counts-i : goal.bounds-counts-i
bounds-counts-i c =
    let back8 = c in
    let back16 = back8 in
    let back24 = back16 in
    let H = back24.requires.read.1 in
    let n = back16.actions_in-i-end.ensures in
    let m = H.says.actions in
    let f = H.says.bounded.actions in
    let t = back8.loop-i-test.true in
    omega arith

pub overflow_cast-i : goal.overflow_cast-i
overflow_cast-i c =
    let back8 = c in
    let back16 = back8 in
    let n = back16.actions_in-i-end.ensures.few in
    let t = back8.loop-i-test.true in omega arith

pub overflow_step-i : goal.overflow_step-i
overflow_step-i c =
    let back8 = c in
    let back16 = back8 in
    let back24 = back16 in
    let H = back24.requires.read.1 in
    let n = back16.actions_in-i-end.ensures in
    let m = H.says.actions in
    let f = H.says.bounded.actions in
    let t = back16.loop-i-test.true in
    omega arith

pub loop-i-preserved : goal.loop-i-preserved
loop-i-preserved c =
    let back8 = c in
    let back16 = back8 in
    let back24 = back16 in
    let is-lasting = back8.is_lasting in
    let b = back8.rows_of-span in
    let F = b.ensures.fits in
    let l = back16.loop-i in
    let n = back16.actions_in-i-end.ensures in
    let t = back16.loop-i-test.true in
    let w = back8.name_action-named in
    record {
      reach = omega arith;
      numbers_room = c.numbers-1.given.1 ∙ l.invariant.numbers_room;
      words_room = w.auto.words ∙ l.invariant.words_room;
      numbered =
          λ D H wf.
          let m = H.says.actions in
          let h : l.i < length D.actions = omega arith in
          let S = b.ensures.rows D H h in
          let A = same_head back24.of-places.ensures (action_held H wf l.i h S.literals) in
          ap (λ (t : List ℕ). take b.result.from l.numbers ++ (w.new.numbers ++ t))
          (Post-is b.result.from b.result.to l.numbers F.order)
          ∙ numbers_more_actions D l.i h S l.numbers _ _ (l.invariant.numbered D H wf) (w.ensures.numbers D (action D l.i) A);
      room = w.auto.names ∙ l.invariant.room;
      few =
          λ D H.
          let m = H.says.actions in
          let h : l.i < length D.actions = omega arith in
          names_next H l.i h (b.ensures.rows D H h) F _ (l.invariant.few D H) _
          (let q = back8.name_action-arg-in-loop-i-1.given.1 in let u = w.ensures.rows in omega arith);
      listed =
          λ D H wf.
          let m = H.says.actions in
          let h : l.i < length D.actions = omega arith in
          let A = same_head back24.of-places.ensures (action_held H wf l.i h (b.ensures.rows D H h).literals) in
          listed_action D l.i h (w.ensures.named D (action D l.i) A (sym (is-lasting.ensures ∙ H.says.lasting l.i h)) _ _
          l.i (l.invariant.listed D H wf)).2;
      noted =
          λ D H wf.
          let m = H.says.actions in
          let h : l.i < length D.actions = omega arith in
          let A = same_head back24.of-places.ensures (action_held H wf l.i h (b.ensures.rows D H h).literals) in
          let a = w.ensures.named D (action D l.i) A (sym (is-lasting.ensures ∙ H.says.lasting l.i h)) _ _ l.i
          (l.invariant.listed D H wf) in
          noted_action D l.i h (l.invariant.noted D H wf) a.1 c.with-notes.ensures;
      counted =
          λ D H wf z.
          let m = H.says.actions in
          let h : l.i < length D.actions = omega arith in
          let A = same_head back24.of-places.ensures (action_held H wf l.i h (b.ensures.rows D H h).literals) in
          let a = w.ensures.named D (action D l.i) A (sym (is-lasting.ensures ∙ H.says.lasting l.i h)) _ _ l.i
          (l.invariant.listed D H wf) in
          ap (λ (v : ℕ). set l.counts l.i v) a.0
          ∙ counted_action D l.i _ h H.says.bounded.actions (l.invariant.counted D H wf z);
    }

pub shape_of-numbers : goal.shape_of-numbers
shape_of-numbers c = c.loop-i.invariant.numbers_room

pub shape_of-names : goal.shape_of-names
shape_of-names c = c.loop-i.invariant.room

pub returns : goal.returns
returns c =
    let back8 = c in
    let l = c.loop-i in
    let n = c.actions_in-i-end.ensures in
    let H = back8.requires.read.1 in
    let m = H.says.actions in record {
      rows = names_few H l.i _ (omega arith) (l.invariant.few _ H);
      numbers = λ D H wf. let m = H.says.actions in numbered_all D l.i _ (omega arith) (l.invariant.numbered D H wf);
      named = λ D H wf z. let m = H.says.actions in
          naming_done D l.i (omega arith) (l.invariant.listed D H wf) (l.invariant.noted D H wf) (l.invariant.counted D H wf z);
    }
