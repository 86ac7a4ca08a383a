-- `ground_action` meets its contract: the rows of the action's literals are a part of the table. Assumes nothing.
use mathlib.Core.Path.{◌≡◌, refl, ap, subst, ◌∙◌}
use mathlib.Core.List.{List}
use Prim.Native.Nat.{ℕ, ◌-◌, ◌*◌, ◌<◌}
use native.Mathlib.Omega.{arith}
use lib.ListN.{length, get_or, take, drop}
use borrow.Author.Rules.{rules}
use Rattle.literals.specs.Held.{SpanOf}
use Rattle.literals.proofs.Spans.{part_length}
use Rattle.events.specs.Held.{ground_in}
use Rattle.events.proofs.FactRows.{ground_listed}
use Rattle.events.proofs.GroundLiterals.{rows_few, held_ground}
use Rattle.events.proofs.grounding.ground_action.Goals as goal

pub returns-then-actions_in-action : goal.returns-then-actions_in-action
returns-then-actions_in-action c = record {
  few = (omega arith, omega arith);
  literals = λ D g H F f.
      let a = c.args in
      let w = c.from-action.ensures in
      let n = c.actions_in.ensures.number in
      let t = c.if-actions_in-action.true in
      absurd (ground_listed H g F a.act.now f (omega arith));
  counts = refl;
}

pub overflow_mul-from : goal.overflow_mul-from
overflow_mul-from c = let g = c.rows_of-span.ensures.fits.room in let o = c.rows_of-span.ensures.fits.order in search rules

pub overflow_mul-to : goal.overflow_mul-to
overflow_mul-to c = let g = c.rows_of-span.ensures.fits.room in search rules

pub slice_bounds-ground_literals-count : goal.slice_bounds-ground_literals-count
slice_bounds-ground_literals-count c = let g = c.rows_of-span.ensures.fits.order in omega arith

pub slice_bounds-ground_literals-start : goal.slice_bounds-ground_literals-start
slice_bounds-ground_literals-start c = let g = c.rows_of-span.ensures.fits.order in omega arith

pub slice_bounds-ground_literals-end : goal.slice_bounds-ground_literals-end
slice_bounds-ground_literals-end c = let g = c.rows_of-span.ensures.fits.room in omega arith

pub overflow_sub-span : goal.overflow_sub-span
overflow_sub-span c = let g = c.rows_of-span.ensures.fits.order in omega arith

pub ground_literals-requires : goal.ground_literals-requires
ground_literals-requires c =
    let back8 = c in
    let a = back8.args in
    let p = back8.requires in
    let r = c.rows_of-span in
    let l = part_length a.table.now r.result.from r.result.to r.ensures.fits.order r.ensures.fits.room in
    let f = r.ensures.fits.few in
    record { memory = p.memory; room = omega arith; bound = p.bound; literals = omega arith }

pub returns : goal.returns
returns c =
    let back8 = c in
    let back16 = back8 in
    let ground-literals = c.ground_literals in
    let wide = back8.from-action in
    let a = back16.args in
    let s = back8.rows_of-span in
    let m = s.ensures.fits.few in
    let o = s.ensures.fits.order in
    let r = ground-literals.ensures in
    let from = s.result.from in
    let to = s.result.to in
    let part = take (8 * to - 8 * from) (drop (8 * from) a.table.now) in
    let k = rows_few a.time a.head.now a.act.now part (to - from) a.n a.memory.now _
    ground-literals.result r.literals in
    let below = k.0 in
    let few = k.1 in record {
      few = (omega arith, omega arith);
      literals = λ D g H F f.
          let w : wide.result ≡ g.action = wide.ensures
          ∙ ap (λ (x : List ℕ). get_or x 0 0) f in
          let h : g.action < length D.actions = F.listed in
          let S = subst (λ (i : ℕ). SpanOf D i a.table.now s.result) w (s.ensures.rows D H (omega arith)) in
          held_ground H g F a.time a.act.now f s.result S (ground_in a.n a.memory.now) r.literals;
      counts = r.counts;
    }
