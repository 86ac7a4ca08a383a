-- `join` meets its contract. Assumes nothing.
use mathlib.Core.Path.{refl}
use native.Mathlib.Omega.{arith}
use Prim.Native.Nat.{◌*◌}
use lib.ListN.{length}
use Rattle.std.proofs.lemmas.Slice.{put_mid-paste}
use Rattle.events.proofs.GroundRows.{join_is}
use Rattle.events.proofs.openings.join.Goals as goal

pub returns : goal.returns
returns c =
    let a = c.args in
    join_is (record { count = a.n; rows = a.rows.now }) a.act.now _ (length a.act.now) c.requires.entry
    (put_mid-paste (17 * a.n) _ a.rows.now _ a.act.now (length a.act.now) c.copy_from_slice.ensures.after (omega arith) refl)
