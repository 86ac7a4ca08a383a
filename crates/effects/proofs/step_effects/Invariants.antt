-- `step_effects` meets its contract: after i turns those of the first i ground literals are written. Assumes nothing.
use Rattle.effects.proofs.EffectRows.{Selecting}
use Rattle.effects.proofs.step_effects.Given as goal

abbrev pub invariant-loop-i : goal.invariant-loop-i
invariant-loop-i l = Selecting l.usage l.at l.total l.initial.scratch l.scratch l.n l.i
