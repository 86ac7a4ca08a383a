use mathlib.Core.Path.{refl, sym, ap, ap₂, ◌∙◌}
use mathlib.Core.List.{List}
use Prim.Native.Nat.{ℕ}
use native.Mathlib.Omega.{arith}
use Rattle.events.specs.Held.{Open, EventRow, event_at, join_event, join_events, OpenAfter, count_after, rows_after}
use Rattle.events.proofs.GroundRows.{events_first, events_behind, fits_not, fits_with, joins_few, joins_more, joins_full, joins_end}
use Rattle.events.proofs.openings.join_all.Goals as goal

pub loop-i-init : goal.loop-i-init
loop-i-init c =
    let a = c.args in
    (omega arith, omega arith, refl, ap (λ (es : List EventRow). join_events a.head.now es (record { count = a.n; rows = a.rows.now })) (events_first a.waiting.now.moments.now a.waiting.now.rows.now a.waiting.now.count))

pub join_event-requires : goal.join_event-requires
join_event-requires c = record { entries = c.loop-i.invariant.2 ∙ c.requires.entries; few = omega arith; event = omega arith }

pub returns-in_err-held : goal.returns-in_err-held
returns-in_err-held c =
    let a = c.args in
    let l = c.loop-i in
    let j = c.join_event in
    let o : Open = record { count = l.held; rows = l.rows } in
    let r : OpenAfter = join_event a.head.now (event_at a.waiting.now.moments.now a.waiting.now.rows.now l.i) o in
    let none = fits_not r (sym j.ensures.count ∙ c.in_err-held.was) in
    let e = sym (joins_full a.waiting.now.moments.now a.waiting.now.rows.now a.waiting.now.count l.i a.head.now o r refl (omega arith) none) ∙ l.invariant.3 in
    record { count = c.from_residual.ensures ∙ sym c.in_err-held.was ∙ j.ensures.count ∙ ap count_after e; rows = j.ensures.rows ∙ ap rows_after e }

pub loop-i-preserved : goal.loop-i-preserved
loop-i-preserved c =
    let a = c.args in
    let l = c.loop-i in
    let j = c.join_event in
    let o : Open = record { count = l.held; rows = l.rows } in
    let r : OpenAfter = join_event a.head.now (event_at a.waiting.now.moments.now a.waiting.now.rows.now l.i) o in
    let some = fits_with r (sym j.ensures.count ∙ c.in_ok-held.was) in
    let few = joins_few a.head.now (event_at a.waiting.now.moments.now a.waiting.now.rows.now l.i) o (omega arith) r refl in
    let held = some.1 in (
      omega arith,
      omega arith,
      j.auto.rows ∙ l.invariant.2,
      ap₂ (λ (n : ℕ) (t : List ℕ). join_events a.head.now (events_behind a.waiting.now.moments.now a.waiting.now.rows.now a.waiting.now.count l.i) (record { count = n; rows = t })) (sym held) j.ensures.rows
          ∙ sym (joins_more a.waiting.now.moments.now a.waiting.now.rows.now a.waiting.now.count l.i a.head.now o r refl (omega arith) some.0) ∙ l.invariant.3,
    )

pub shape_of-rows : goal.shape_of-rows
shape_of-rows c = c.loop-i.invariant.2

pub returns : goal.returns
returns c =
    let a = c.args in
    let l = c.loop-i in
    let e = sym (joins_end a.waiting.now.moments.now a.waiting.now.rows.now a.waiting.now.count l.i a.head.now (record { count = l.held; rows = l.rows }) (omega arith)) ∙ l.invariant.3 in
    record { count = ap count_after e; rows = ap rows_after e }
