-- `open_met` meets its contract: each entry before i is met, so the test is that of the entries from i on. Assumes nothing.
use Rattle.applicability.proofs.Asked.{InEntries}
use Rattle.applicability.proofs.conditions.open_met.Given as goal

abbrev pub invariant-loop-i : goal.invariant-loop-i
invariant-loop-i l =
    InEntries l.head l.table record { count = l.count; rows = l.rows } l.initial.memory l.memory l.index l.work l.n l.i
