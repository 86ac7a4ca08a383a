-- `same_ground` meets its contract. Assumes nothing.
use mathlib.Core.Path.{◌∙◌}
use Rattle.events.proofs.GroundRows.{bytes_same}
use Rattle.events.proofs.openings.same_ground.Goals as goal

pub returns : goal.returns
returns c = let a = c.args in let r = c.requires in c.same_bytes.ensures ∙ bytes_same a.act.now a.memory.now a.at r.row r.entry
