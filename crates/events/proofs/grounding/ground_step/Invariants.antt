-- `ground_step` meets its contract: after i turns those of the first i events are put, and how many each has. Assumes nothing.
use Rattle.events.proofs.GroundLiterals.{InStep}
use Rattle.events.proofs.grounding.ground_step.Given as goal

abbrev pub invariant-loop-i : goal.invariant-loop-i
invariant-loop-i l =
    InStep l.head l.table record { count = l.count; moments = l.moments; rows = l.events } l.initial.memory l.memory l.n l.i
