-- `decide_alone` meets its contract. The loop's invariant is `Deciding` of proofs/Alone. Assumes nothing.
use Rattle.templates.proofs.Alone.{Deciding}
use Rattle.templates.proofs.deciding.decide_alone.Given as goal

abbrev pub invariant-loop-i : goal.invariant-loop-i
invariant-loop-i l = Deciding l.head l.table l.relation l.notes l.i
