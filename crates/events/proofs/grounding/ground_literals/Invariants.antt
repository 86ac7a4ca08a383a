-- `ground_literals` meets its contract: after i turns those of the first i rows are put. Assumes nothing.
use Rattle.events.proofs.GroundLiterals.{InRows}
use Rattle.events.proofs.grounding.ground_literals.Given as goal

abbrev pub invariant-loop-i : goal.invariant-loop-i
invariant-loop-i l = InRows l.time l.head l.act l.rows l.at l.k l.initial.memory l.memory l.n l.i
