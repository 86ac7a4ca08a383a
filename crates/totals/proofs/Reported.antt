-- The rows in a report that was clear: their names are read off, and they are cleared again. Assumes nothing.
use mathlib.Core.Path.{◌≡◌, refl, ap, ◌∙◌}
use mathlib.Core.List.{List, [], ◌∷◌, ◌++◌, map}
use Prim.Native.Nat.{ℕ, zero, suc, ◌+◌, ◌-◌, ◌*◌, ◌≤◌, ◌<◌}
use native.Mathlib.Omega.{arith}
use lib.ListN.{length, get_or, drop, replicate, length-replicate, replicate-append-replicate}
use lib.Seq.{drop_at}
use Rattle.records.specs.Memory.{over}
use Rattle.records.proofs.Memory.{drop_replicate}
use Rattle.classes.specs.Classes.{name_number}
use Rattle.verdict.specs.Decision.{Row}
use Rattle.verdict.specs.Judged.{row_bytes}
use Rattle.totals.specs.Held.{names_in}
use Rattle.verdict.proofs.Known.{name_range}

-- ---- the first row

pub front_none : (l : List ℕ) → get_or l 3 0 ≡ 0 → names_in l ≡ []
unfolding names_in
front_none [] e = refl
front_none (a ∷ []) e = refl
front_none (a ∷ c ∷ []) e = refl
front_none (a ∷ c ∷ m ∷ []) e = refl
front_none (a ∷ c ∷ m ∷ zero ∷ l) e = refl
front_none (a ∷ c ∷ m ∷ suc k ∷ l) e = absurd (omega arith)

pub front_some : (l : List ℕ) → (get_or l 3 0 ≡ 0 → ⊥) → names_in l ≡ get_or l 3 0 ∷ names_in (drop 4 l)
unfolding names_in
front_some [] h = absurd (h refl)
front_some (a ∷ []) h = absurd (h refl)
front_some (a ∷ c ∷ []) h = absurd (h refl)
front_some (a ∷ c ∷ m ∷ []) h = absurd (h refl)
front_some (a ∷ c ∷ m ∷ zero ∷ l) h = absurd (h refl)
front_some (a ∷ c ∷ m ∷ suc k ∷ l) h = refl

pub front_short : (l : List ℕ) → length l < 4 → names_in l ≡ []
unfolding names_in
front_short [] h = refl
front_short (a ∷ []) h = refl
front_short (a ∷ c ∷ []) h = refl
front_short (a ∷ c ∷ m ∷ []) h = refl
front_short (a ∷ c ∷ m ∷ k ∷ l) h = absurd (omega arith)

-- ---- all rows

names_clear : (n : ℕ) → names_in (replicate n 0) ≡ []
unfolding names_in
names_clear zero = refl
names_clear (suc zero) = refl
names_clear (suc (suc zero)) = refl
names_clear (suc (suc (suc zero))) = refl
names_clear (suc (suc (suc (suc n)))) = refl

names_before : (rs : List Row) (l : List ℕ) → names_in l ≡ [] → names_in (row_bytes rs ++ l) ≡ map (λ (r : Row). name_number r.name) rs
unfolding row_bytes
names_before [] l e = e
names_before (r ∷ rs) l e =
    front_some (row_bytes (r ∷ rs) ++ l) (λ z. let h = (name_range r.name).0 in omega arith)
    ∙ ap (λ (ns : List ℕ). name_number r.name ∷ ns) (names_before rs l e)

bytes_of_rows : (rs : List Row) → length (row_bytes rs) ≡ 4 * length rs
unfolding row_bytes
bytes_of_rows [] = refl
bytes_of_rows (r ∷ rs) = let h = bytes_of_rows rs in omega arith

module _ (rs : List Row) (n : ℕ) where
  pub names_written : names_in (over (row_bytes rs) (replicate n 0)) ≡ map (λ (r : Row). name_number r.name) rs
  unfolding over
  names_written = names_before rs (drop (length (row_bytes rs)) (replicate n 0)) (ap names_in (drop_replicate (length (row_bytes rs)) n 0) ∙ names_clear (n - length (row_bytes rs)))

  pub cleared_again : (end : ℕ) → end ≡ 4 * length rs → end ≤ n → over (replicate end 0) (over (row_bytes rs) (replicate n 0)) ≡ replicate n 0
  unfolding over
  cleared_again end e h =
      let l = bytes_of_rows rs in
      ap (λ (k : ℕ). replicate end 0 ++ drop k (over (row_bytes rs) (replicate n 0))) (length-replicate end 0)
      ∙ ap (λ (t : List ℕ). replicate end 0 ++ t)
      (drop_at (row_bytes rs) (drop (length (row_bytes rs)) (replicate n 0)) end (omega arith) ∙ drop_replicate (length (row_bytes rs)) n 0)
      ∙ replicate-append-replicate end (n - length (row_bytes rs)) 0
      ∙ ap (λ (k : ℕ). replicate k 0) (let z : end + (n - length (row_bytes rs)) ≡ n = omega arith in z)
