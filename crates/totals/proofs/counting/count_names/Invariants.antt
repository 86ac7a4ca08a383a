-- `counting::count_names` meets its contract. The loop's invariant: the names in the rows passed are counted. Assumes nothing.
use lib.ListN.{length}
use Rattle.totals.proofs.Walks.{Counted}
use Rattle.totals.proofs.counting.count_names.Given as goal

abbrev pub invariant-loop-row : goal.invariant-loop-row
invariant-loop-row l = Counted l.report l.initial.counts l.rest l.counts

abbrev pub decreases-loop-row : goal.decreases-loop-row
decreases-loop-row l = length l.rest
