-- `read_domain` meets its contract. The loop's invariant is `Loop` of proofs/Turns; the measure is what is left of the file. Assumes nothing.
use Prim.Native.Nat.{◌-◌}
use lib.ListN.{length}
use Rattle.reading.proofs.Turns.{Loop}
use Rattle.reading.proofs.read.read_domain.Given as goal

abbrev pub invariant-loop-next : goal.invariant-loop-next
invariant-loop-next l = Loop l.s l.initial.table l.progress l.head l.table

abbrev pub decreases-loop-next : goal.decreases-loop-next
decreases-loop-next l = length l.s - l.progress.at
