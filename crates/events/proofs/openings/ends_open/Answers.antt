-- `ends_open` meets its contract: what is lent fits, and the rows are those of the entries and events. Assumes nothing.
use native.Mathlib.Omega.{arith}
use Rattle.events.proofs.OpenRows.{events_few, entries_few, ends_held}
use Rattle.events.proofs.openings.ends_open.Goals as goal

pub returns-then-count-gt-MAX_EVENTS : goal.returns-then-count-gt-MAX_EVENTS
returns-then-count-gt-MAX_EVENTS c D gs es B k l few small e f =
    let a = c.args in
    let h = entries_few gs (record { count = a.n; rows = a.rows.now }) e few in
    let g = events_few es (record { count = a.count; moments = a.moments.now; rows = a.events.now }) f small in
    absurd (omega (arith, c.then-count-gt-MAX_EVENTS.either))

pub returns : goal.returns
returns c D gs es B k l few small e f =
    let a = c.args in
    ends_held B gs es k l (record { count = a.n; rows = a.rows.now }) (record { count = a.count; moments = a.moments.now; rows = a.events.now }) e f c.all_open.result c.all_open.ensures
