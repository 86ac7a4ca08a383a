-- `component_byte` meets its contract. Assumes nothing.
use mathlib.Core.Path.{sym}
use Rattle.literals.proofs.Heads.{part_at}
use Rattle.literals.proofs.head.component_byte.Goals as goal

pub returns : goal.returns
returns c = sym (part_at _ _ _ c.requires.place)
