-- `play_records` meets its contract: the loop's invariant is `Loop` of proofs/PlayLoop, for every domain that is lent; the measure is
-- what is left of the file. Assumes nothing.
use mathlib.Core.Path.{◌≡◌}
use mathlib.Core.List.{List, []}
use Prim.Native.Nat.{ℕ, ◌-◌}
use lib.ListN.{length, replicate}
use Rattle.records.specs.Memory.{over}
use Rattle.literals.specs.Domain.{Domain}
use Rattle.literals.specs.Held.{Held}
use Rattle.store.specs.Held.{fact_index}
use Rattle.events.specs.Held.{agenda_bytes}
use Rattle.run_semantics.specs.Play.{held_bytes}
use Rattle.player.specs.Held.{whole_in}
use Rattle.player.proofs.PlayLoop.{Loop}
use Rattle.player.proofs.run.play_records.Given as goal

abbrev pub invariant-loop-next : goal.invariant-loop-next
invariant-loop-next l =
    (length l.work ≡ length l.initial.work) × (length l.agenda ≡ length l.initial.agenda) × (length l.scratch ≡ length l.initial.scratch)
    × ((D : Domain) (old : List ℕ) → Held D l.head l.table → l.initial.work ≡ over (held_bytes []) old → l.initial.index ≡ replicate fact_index 0
    → l.initial.agenda ≡ replicate agenda_bytes 0 → Loop D l.head l.run old (whole_in l.player l.agenda) l.work l.index)

abbrev pub decreases-loop-next : goal.decreases-loop-next
decreases-loop-next l = length l.run - l.player.at
