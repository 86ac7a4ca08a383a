-- `append_row` meets its contract: the row's bytes are written. Assumes nothing.
use mathlib.Core.Path.{◌≡◌, ap, ◌∙◌}
use Prim.Native.Nat.{◌*◌}
use native.Mathlib.Omega.{arith}
use lib.ListN.{length}
use lib.Seq.{paste}
use Rattle.effects.proofs.FilledRows.{append_row}
use Rattle.effects.proofs.append_row.Goals as goal

pub returns : goal.returns
returns c =
    let a = c.args in
    let e : length a.row ≡ 8 = omega arith in
    c.put_bytes.ensures ∙ ap (paste a.out.now (8 * a.n) a.row) e ∙ append_row a.n a.out.now a.row (omega arith) e
