use mathlib.Core.Path.{◌∙◌}
use Prim.Native.Nat.{◌+◌, ◌*◌}
use native.Mathlib.Omega.{arith}
use lib.ListN.{length-set}
use Rattle.effects.proofs.IndexedRows.{marks_more}
use Rattle.effects.proofs.put_marks.Goals as goal

pub loop-j-preserved : goal.loop-j-preserved
loop-j-preserved c =
    let l = c.loop-j in
    let s = l.invariant.1 in
    let w = c.from.ensures in (
      omega arith,
      length-set l.marks c.from.result 1 ∙ s,
      marks_more c.args.rows.now l.marks l.j c.from.result (omega arith) (omega (arith, c.type_inv.rows (8 * l.j + 2))) w l.invariant.2,
    )
