-- `join_all` meets its contract: the starts before event i have joined, so the answer is that of those from it on. Assumes nothing.
use mathlib.Core.Path.{◌≡◌}
use Prim.Native.Nat.{◌-◌, ◌*◌, ◌≤◌}
use lib.ListN.{length, drop}
use Rattle.events.specs.Held.{events_in, join_events}
use Rattle.events.proofs.openings.join_all.Given as goal

abbrev pub invariant-loop-i : goal.invariant-loop-i
invariant-loop-i l = (l.i ≤ l.waiting.count) × (l.held ≤ 32) × (length l.rows ≡ length l.initial.rows)
    × (join_events l.head (events_in (l.waiting.count - l.i) (drop l.i l.waiting.moments.now) (drop (17 * l.i) l.waiting.rows.now)) (record { count = l.held; rows = l.rows })
    ≡ join_events l.head (events_in l.waiting.count l.waiting.moments.now l.waiting.rows.now) (record { count = l.n; rows = l.initial.rows }))
