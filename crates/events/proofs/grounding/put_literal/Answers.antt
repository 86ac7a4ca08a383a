-- `put_literal` meets its contract. Assumes nothing.
use native.Mathlib.Omega.{arith}
use Prim.Native.Nat.{◌*◌}
use lib.ListN.{length}
use mathlib.Core.Path.{refl}
use Rattle.std.proofs.lemmas.Slice.{put_mid-paste}
use Rattle.events.proofs.GroundLiterals.{put_ground}
use Rattle.events.proofs.grounding.put_literal.Goals as goal

pub returns : goal.returns
returns c =
    let a = c.args in
    let all = put_ground a.memory.now a.row a.n a.usage (omega arith) (omega arith) (omega arith) _
    (put_mid-paste (8 * a.n) _ a.memory.now _ a.row (length a.row) c.copy_from_slice.ensures.after (omega arith) refl) in
    record { literals = all.0; counts = all.1 }
