-- `wait` meets its contract: the byte and the row go into their sections of the agenda. Assumes nothing.
use mathlib.Core.Path.{refl}
use Prim.Native.Nat.{◌*◌}
use native.Mathlib.Omega.{arith}
use lib.ListN.{length}
use borrow.Rule.Slice.PartMut.{same_len_mid}
use Rattle.std.proofs.lemmas.Slice.{put_mid-paste}
use Rattle.events.proofs.Agenda.{more_entries, more_waits}
use Rattle.events.proofs.waits.wait.Goals as goal

pub returns : goal.returns
returns c =
    let a = c.args in
    let p = c.requires in
    let x = c.copy_from_slice in record {
      entries = more_entries a.agenda.now a.n a.moment p.agenda p.few _ (same_len_mid (17 * a.n) _ _ _ x.ensures.len);
      waits = λ D es e b f w m g.
          more_waits a.agenda.now a.n a.moment p.agenda p.few _ (same_len_mid (17 * a.n) _ _ _ x.ensures.len) b es f w e a.act m g
          (put_mid-paste (17 * a.n) _ _ _ a.act (length a.act) x.ensures.after (omega arith) refl);
    }
