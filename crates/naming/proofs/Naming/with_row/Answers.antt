-- `Naming::with_row` meets its contract: the name's byte stands at the seam. Assumes nothing.
use mathlib.Core.Path.{refl}
use Rattle.naming.proofs.NamedRows.{named_more}
use Rattle.naming.proofs.Naming.with_row.Goals as goal

pub returns : goal.returns
returns c =
    let start = c.args in record { rows = refl; named = λ before rs old i N. named_more before rs _ start.self start.names.now old _ c.requires N refl (c.with.ensures rs i N.summed) c.from.ensures }
