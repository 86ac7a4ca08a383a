-- `close_all` meets its contract: the ends before event i have left, so the answer is that of those from it on. Assumes nothing.
use mathlib.Core.Path.{◌≡◌}
use Prim.Native.Nat.{◌-◌, ◌*◌, ◌≤◌}
use lib.ListN.{length, drop}
use Rattle.events.specs.Held.{events_in, close_events}
use Rattle.events.proofs.openings.close_all.Given as goal

abbrev pub invariant-loop-i : goal.invariant-loop-i
invariant-loop-i l = (l.i ≤ l.waiting.count) × (l.left ≤ 32) × (length l.rows ≡ length l.initial.rows)
    × (close_events (events_in (l.waiting.count - l.i) (drop l.i l.waiting.moments.now) (drop (17 * l.i) l.waiting.rows.now)) (record { count = l.left; rows = l.rows }) ≡ close_events (events_in l.waiting.count l.waiting.moments.now l.waiting.rows.now) (record { count = l.n; rows = l.initial.rows }))
