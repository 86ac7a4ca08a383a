-- `event_stop` meets its contract. Assumes nothing.
use borrow.Author.Rules.{rules}
use mathlib.Core.Path.{◌≡◌, refl, sym}
use native.Mathlib.Omega.{arith}
use Rattle.events.proofs.FactRows.{waiting_count}
use Rattle.run_semantics.specs.Numbers.{stopped_by}
use Rattle.run_semantics.proofs.Numbers.{err_stops}
use Rattle.run_fields.specs.Held.{objects_or_0}
use Rattle.run_fields.specs.Held.{event_fields}
use Rattle.run_fields.proofs.RunFields.{event_short_row, event_waits, event_stopped, event_twice, event_repeated, event_full, event_room}
use Rattle.run_fields.proofs.event_stop.Goals as goal

pub returns-in_err-event_fields-clause-is : goal.returns-in_err-event_fields-clause-is
returns-in_err-event_fields-clause-is c D es H o w F =
    let a = c.args in
    let e = c.from_residual in
    let s : stopped_by e.result ≡ event_fields a.head.now (objects_or_0 a.objects) a.p.now = search rules in
    event_stopped D es _ H _ _ _ s (err_stops e.result e.ensures.0)

pub returns-then-twice_from-clause-is : goal.returns-then-twice_from-clause-is
returns-then-twice_from-clause-is c D es H o w F = event_twice D es _ H _ _ _ c.in_ok-event_fields.ensures refl _ c.twice_from.ensures c.if-twice_from.true

pub bounds-p-0 : goal.bounds-p-0
bounds-p-0 c = let l = event_short_row _ _ _ (sym c.in_ok-event_fields.ensures) in omega arith

pub ground_row-requires-clause-action : goal.ground_row-requires-clause-action
ground_row-requires-clause-action c = (event_short_row _ _ _ (sym c.in_ok-event_fields.ensures)).0

pub ground_row-requires-clause-objects : goal.ground_row-requires-clause-objects
ground_row-requires-clause-objects c = (event_short_row _ _ _ (sym c.in_ok-event_fields.ensures)).1

pub returns-then-is_waiting-clause-is : goal.returns-then-is_waiting-clause-is
returns-then-is_waiting-clause-is c D es H o w F =
    let f = c.in_ok-event_fields.ensures in
    event_repeated D es _ H _ _ _ f refl _ c.twice_from.ensures c.if-twice_from.false _
    (event_waits _ _ _ (sym f) D H o es F _ w _ c.ground_row.ensures _ c.is_waiting.ensures)
    c.if-is_waiting.true

pub returns-then-count-ge-MAX_EVENTS-clause-is : goal.returns-then-count-ge-MAX_EVENTS-clause-is
returns-then-count-ge-MAX_EVENTS-clause-is c D es H o w F =
    let f = c.in_ok-event_fields.ensures in
    let k = waiting_count es _ w in
    event_full D es _ H _ _ _ f refl _ c.twice_from.ensures c.if-twice_from.false _
    (event_waits _ _ _ (sym f) D H o es F _ w _ c.ground_row.ensures _ c.is_waiting.ensures)
    c.if-is_waiting.false (omega arith)

pub returns-clause-is : goal.returns-clause-is
returns-clause-is c D es H o w F =
    let f = c.in_ok-event_fields.ensures in
    let k = waiting_count es _ w in
    event_room D es _ H _ _ _ f refl _ c.twice_from.ensures c.if-twice_from.false _
    (event_waits _ _ _ (sym f) D H o es F _ w _ c.ground_row.ensures _ c.is_waiting.ensures)
    c.if-is_waiting.false (omega arith)

pub returns-clause-fits : goal.returns-clause-fits
returns-clause-fits c = let l = event_short_row _ _ _ (sym c.in_ok-event_fields.ensures) in (l.0, l.1, c.if-count-ge-MAX_EVENTS.false)
