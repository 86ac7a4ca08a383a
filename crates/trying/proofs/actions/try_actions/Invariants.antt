-- `try_actions` meets its contract. The loop's invariant is `InActions` of proofs/Answering. Assumes nothing.
use Rattle.trying.proofs.Answering.{InActions}
use Rattle.trying.proofs.actions.try_actions.Given as goal

abbrev pub invariant-loop-i : goal.invariant-loop-i
invariant-loop-i l = InActions l.head l.table l.initial.made l.made l.end l.i
