-- The totals read back from memory; boxes counted apart and added. Assumes nothing.
use mathlib.Core.Path.{◌≡◌, refl, sym, ap, ap₂, ◌∙◌}
use mathlib.Core.List.{List, [], ◌∷◌, ◌++◌, flat_map, append_assoc}
use Prim.Native.Nat.{ℕ, zero, suc, ◌+◌, ◌*◌, ◌<◌}
use native.Mathlib.Omega.{arith}
use lib.ListN.{length, get_or, take, drop, length-append}
use lib.Seq.{drop-append-add}
use Rattle.records.specs.Memory.{over}
use Rattle.records.proofs.Lists.{get_d_in}
use Rattle.totals.specs.Totals.{opened, files, totals, low_bytes, total_bytes}
use Rattle.totals.specs.Claims.{joined_boxes, added, from_bytes, TotalRead, CountedApart}
use Rattle.totals.proofs.Joining.{boxes_joined}
use Rattle.totals.proofs.Counts.{totals_joined}
use Rattle.totals.proofs.Bounds.{totals_bounded}
use Rattle.totals.proofs.Answers.{bytes_say, totals_length, totalled_done}

-- the bytes of total n among all
slice : (ts rest : List ℕ) (n : ℕ) → n < length ts → take 8 (drop (8 * n) (total_bytes ts ++ rest)) ≡ low_bytes 8 (get_or ts n 0)
unfolding total_bytes flat_map
slice [] rest n h = absurd (omega arith)
slice (t ∷ ts) rest zero h = refl
slice (t ∷ ts) rest (suc n) h =
    ap (λ (m : ℕ). take 8 (drop m ((low_bytes 8 t ++ total_bytes ts) ++ rest))) (let z : 8 * suc n ≡ 8 + 8 * n = omega arith in z)
    ∙ ap (λ (l : List ℕ). take 8 (drop (8 + 8 * n) l)) (append_assoc (low_bytes 8 t) (total_bytes ts) rest)
    ∙ ap (take 8) (drop-append-add (low_bytes 8 t) (total_bytes ts ++ rest) (8 * n))
    ∙ slice ts rest n (omega arith)

pub total_read : TotalRead
unfolding over
total_read b out fs e small h n l =
    let k = totals_length fs in
    let m = totals_bounded b fs e (get_or (totals fs) n 0) (get_d_in (totals fs) n 0 (omega arith)) in
    ap (λ (o : List ℕ). from_bytes (take 8 (drop (8 * n) o))) (totalled_done b out fs e h).1
    ∙ ap from_bytes (slice (totals fs) (drop (length (total_bytes (totals fs))) out) n (omega arith))
    ∙ bytes_say 8 (get_or (totals fs) n 0) (omega arith)

pub added_at : (ms ns : List ℕ) (n : ℕ) → n < length ms → n < length ns → get_or (added ms ns) n 0 ≡ get_or ms n 0 + get_or ns n 0
added_at [] ns n h l = absurd (omega arith)
added_at (x ∷ xs) [] n h l = absurd (omega arith)
added_at (x ∷ xs) (y ∷ ys) zero h l = refl
added_at (x ∷ xs) (y ∷ ys) (suc n) h l = added_at xs ys n (omega arith) (omega arith)

pub counted_apart : CountedApart
counted_apart b c out fs gs e g small h n l =
    let s = length-append b c in
    let j : opened (b ++ c) ≡ files (fs ++ gs) = boxes_joined b c fs e ∙ ap (joined_boxes (length b) fs) g in
    let p = totals_length fs in
    let q = totals_length gs in
    total_read (b ++ c) out (fs ++ gs) j small h n l
    ∙ ap (λ (t : List ℕ). get_or t n 0) (totals_joined fs gs)
    ∙ added_at (totals fs) (totals gs) n (omega arith) (omega arith)
    ∙ sym (ap₂ ◌+◌ (total_read b out fs e (omega arith) h n l) (total_read c out gs g (omega arith) h n l))
