-- `open_after` meets its contract: what is lent fits, and the rows are those of the entries and events. Assumes nothing.
use mathlib.Core.Path.{refl, ◌∙◌}
use native.Mathlib.Omega.{arith}
use Rattle.events.specs.Held.{events_in}
use Rattle.events.proofs.GroundRows.{closes_fewer}
use Rattle.events.proofs.OpenRows.{events_few, entries_few, after_held, told}
use Rattle.events.proofs.openings.open_after.Goals as goal

pub returns-then-count-gt-MAX_EVENTS : goal.returns-then-count-gt-MAX_EVENTS
returns-then-count-gt-MAX_EVENTS c D gs es h k l few small e f =
    let a = c.args in
    let z = events_few es (record { count = a.count; moments = a.moments.now; rows = a.events.now }) f small in
    let w = entries_few gs (record { count = a.n; rows = a.rows.now }) e few in
    absurd (omega (arith, c.then-count-gt-MAX_EVENTS.either))

pub join_all-requires : goal.join_all-requires
join_all-requires c =
    let a = c.args in
    let p = c.requires in
    let o = c.close_all-left in
    let z = closes_fewer (events_in a.count a.moments.now a.events.now) (record { count = a.n; rows = a.rows.now })
    (record { count = o.result; rows = o.new.rows }) o.ensures in
    record { entries = o.auto.rows ∙ p.entries; few = omega arith }

pub returns : goal.returns
returns c D gs es h k l few small e f =
    let a = c.args in
    let o = c.close_all-left in
    let j = c.join_all in
    told _ _
    (after_held h gs es k l few (record { count = a.n; rows = a.rows.now })
    (record { count = a.count; moments = a.moments.now; rows = a.events.now }) e f
    (record { count = o.result; rows = o.new.rows }) o.ensures _ refl) j.ensures.count j.ensures.rows
