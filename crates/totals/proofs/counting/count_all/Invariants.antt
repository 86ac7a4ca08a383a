-- `counting::count_all` meets its contract. The loop's invariant: the files passed are counted, and the report is clear. Assumes nothing.
use lib.ListN.{length}
use Rattle.totals.proofs.Files.{Walked}
use Rattle.totals.proofs.counting.count_all.Given as goal

abbrev pub invariant-loop-file : goal.invariant-loop-file
invariant-loop-file l = Walked l.packed l.initial.report l.initial.witness l.rest l.report l.witness l.counts

abbrev pub decreases-loop-file : goal.decreases-loop-file
decreases-loop-file l = length l.rest
