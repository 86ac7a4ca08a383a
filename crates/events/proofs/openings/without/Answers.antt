-- `without` meets its contract. Assumes nothing.
use mathlib.Core.Path.{sym}
use lib.ListN.{replicate}
use Rattle.events.proofs.GroundRows.{whole_copy, out_is}
use Rattle.events.proofs.openings.without.Goals as goal

pub returns : goal.returns
returns c =
    let a = c.args in
    let p = c.requires in
    let x = c.put_bytes in
    let y = c.put_bytes-2 in
    let z = c.put_zeros in
    out_is a.rows.now x.new.out y.new.out z.new.out a.k p.entries p.entry
    (whole_copy (replicate 544 0) a.rows.now x.new.out (sym p.entries) x.ensures) y.ensures z.ensures
