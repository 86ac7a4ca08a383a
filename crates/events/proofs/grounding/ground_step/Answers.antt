use mathlib.Core.Path.{refl, ◌∙◌}
use Prim.Native.Nat.{◌+◌, ◌-◌, ◌<◌}
use native.Mathlib.Omega.{arith}
use lib.ListN.{length, get_or, length-set}
use Rattle.events.specs.Held.{counts_at}
use Rattle.events.proofs.FactRows.{no_event, waiting_count, waiting_moment_at}
use Rattle.events.proofs.Listed.{event_fits, event_row_lem}
use Rattle.events.proofs.GroundLiterals.{laid_none, laid_event, laid_all}
use Rattle.events.proofs.grounding.ground_step.Goals as goal

pub returns-then-count-gt-MAX_EVENTS : goal.returns-then-count-gt-MAX_EVENTS
returns-then-count-gt-MAX_EVENTS c = record {
  few = omega arith;
  grounded = λ D es H w F h.
      let q = waiting_count es _ w in
      let t = c.if-count-gt-MAX_EVENTS.true in
      absurd (omega arith);
}

pub loop-i-init : goal.loop-i-init
loop-i-init c = record {
  reach = omega arith;
  few = omega arith;
  sized = refl;
  laid = λ D es H w F. laid_none
      c.args.memory.now;
}

pub ground_event-end-requires : goal.ground_event-end-requires
ground_event-end-requires c =
    let back8 = c in
    let p = back8.requires in
    let v = c.loop-i.invariant in
    let k = v.few in
    let s = v.sized in
    record { moments = p.moments; events = p.events; event = omega arith; memory = omega arith; room = omega arith }

pub overflow_sub-memory : goal.overflow_sub-memory
overflow_sub-memory c = let f = c.ground_event-end.ensures.few.0 in omega arith

pub overflow_cast-memory : goal.overflow_cast-memory
overflow_cast-memory c = let f = c.ground_event-end.ensures.few.1 in omega arith

pub bounds-memory-i : goal.bounds-memory-i
bounds-memory-i c =
    let back8 = c in
    let s = c.loop-i.invariant.sized in
    let k = c.ground_event-end.auto.memory in
    let p = back8.requires in
    omega arith

pub loop-i-preserved : goal.loop-i-preserved
loop-i-preserved c =
    let back8 = c in
    let ground-event = c.ground_event-end in
    let a = back8.args in
    let p = back8.requires in
    let l = c.loop-i in
    let v = l.invariant in
    let r = ground-event.ensures in
    let end = ground-event.result in
    let next = ground-event.new.memory in
    let few = v.few in
    let s = v.sized in
    let k = ground-event.auto.memory in
    let above = r.few.0 in
    let most = r.few.1 in
    record {
      reach = omega arith;
      few = omega arith;
      sized = length-set next (counts_at + l.i) (end - l.n) ∙ k ∙ s;
      laid =
          λ D es H w F.
          let q = waiting_count es _ w in
          let h : l.i < length es = omega arith in
          let e = get_or es l.i no_event in
          let G = event_fits H.says l.i es F h in
          laid_event D es l.i h (v.laid D es H w F) next end (omega arith) (omega arith)
          (r.literals D e H G (waiting_moment_at es _ w l.i) (event_row_lem H.says l.i es F h _ w)) r.counts;
    }

pub shape_of-memory : goal.shape_of-memory
shape_of-memory c = c.loop-i.invariant.sized

pub returns : goal.returns
returns c =
    let l = c.loop-i in
    let k = l.invariant.few in
    let g = l.invariant.reach in record {
      few = omega arith;
      grounded = λ D es H w F h.
          let q = waiting_count es _ w in
          record { says = H.says; fit = F; laid = laid_all D es l.i (omega arith) (l.invariant.laid D es H w F) };
    }
