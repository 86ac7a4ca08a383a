-- `Naming::new` meets its contract: no row of the action is named. Assumes nothing.
use mathlib.Core.Path.{refl}
use Rattle.naming.proofs.NamedRows.{named_none}
use Rattle.naming.proofs.Naming.new.Goals as goal

pub returns : goal.returns
returns c = record { rows = refl; named = λ before names old L. named_none before L c.new.ensures }
