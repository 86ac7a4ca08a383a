use mathlib.Core.Path.{refl, sym, ap, ◌∙◌}
use mathlib.Core.List.{List}
use native.Mathlib.Omega.{arith}
use Rattle.events.specs.Held.{Open}
use Rattle.events.specs.Held.{EventRow, event_at, close_events}
use Rattle.events.proofs.GroundRows.{events_first, close_fewer, closes_more, closes_end}
use Rattle.events.proofs.openings.close_all.Goals as goal

pub loop-i-init : goal.loop-i-init
loop-i-init c =
    let a = c.args in
    (omega arith, omega arith, refl, ap (λ (es : List EventRow). close_events es (record { count = a.n; rows = a.rows.now })) (events_first a.waiting.now.moments.now a.waiting.now.rows.now a.waiting.now.count))

pub close_event-left-requires : goal.close_event-left-requires
close_event-left-requires c = record { entries = c.loop-i.invariant.2 ∙ c.requires.entries; few = omega arith; event = omega arith }

pub loop-i-preserved : goal.loop-i-preserved
loop-i-preserved c =
    let back8 = c in
    let a = back8.args in
    let l = c.loop-i in
    let o : Open = record { count = l.left; rows = l.rows } in
    let s = c.close_event-left in
    let r : Open = record { count = s.result; rows = s.new.rows } in
    let k = close_fewer o (event_at a.waiting.now.moments.now a.waiting.now.rows.now l.i) r s.ensures in (
      omega arith,
      omega arith,
      s.auto.rows ∙ l.invariant.2,
      sym (closes_more a.waiting.now.moments.now a.waiting.now.rows.now a.waiting.now.count l.i o (omega arith) r s.ensures) ∙ l.invariant.3,
    )

pub shape_of-rows : goal.shape_of-rows
shape_of-rows c = c.loop-i.invariant.2

pub returns : goal.returns
returns c =
    let a = c.args in
    let l = c.loop-i in
    sym (closes_end a.waiting.now.moments.now a.waiting.now.rows.now a.waiting.now.count l.i (record { count = l.left; rows = l.rows }) (omega arith)) ∙ l.invariant.3
