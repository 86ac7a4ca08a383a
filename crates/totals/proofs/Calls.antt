-- The call in the words of its definition: cut, short, done. Assumes nothing.
use mathlib.Core.Path.{◌≡◌, refl, sym, ap, ap₂, ◌∙◌}
use mathlib.Core.Bool.{true, false}
use mathlib.Core.Logic.{◌⊎◌, inl, inr}
use mathlib.Core.List.{List, ◌∷◌, map}
use Prim.Native.Nat.{ℕ, zero, suc, ◌+◌, ◌-◌, ◌^◌, ◌≤◌, ◌<◌}
use native.Mathlib.Omega.{arith}
use lib.Dec.{ltb}
use lib.ListN.{length, get_or}
use borrow.Author.Tests.{ltb-true, ltb-false}
use Rattle.records.specs.Memory.{over}
use Rattle.records.proofs.Lists.{bool_cases}
use Rattle.records.specs.Lists.{numbers_from}
use Rattle.classes.specs.Classes.{name_number}
use Rattle.verdict.specs.Decision.{Row}
use Rattle.verdict.specs.Judged.{Answer, answer_at, decided_file}
use Rattle.std.specs.Prelude.{Ok, Err, ⊤}
use Rattle.totals.specs.declared.Uncounted.{Uncounted}
use Rattle.totals.specs.declared.Uncounted.TheVariants.{Cut}
use Rattle.totals.specs.Totals.{Opened, cut_at, files, opened, all_rows, files_with, moments_with, totals, total_bytes, totalled, totals_after}
use Rattle.totals.specs.Claims.{sum, total_in, CountsFiles, AddsUp}
use Rattle.totals.specs.Held.{opening_of, uncounted, files_of, files_in}
use Rattle.verdict.proofs.Known.{file_range, name_range}
use Rattle.totals.proofs.Sums.{sum_counts}
use Rattle.totals.proofs.Counts.{total_of_number, total_of_name}
use Rattle.totals.proofs.Apart.{total_read}
use Rattle.totals.proofs.Answers.{totalled_cut, totalled_short, totalled_done}

module _ (b out : List ℕ) where
  -- what opening answered, read back
  pub opened_whole : {u : ⊤} → Ok u ≡ opening_of (opened b) → opened b ≡ files (files_in b)
  unfolding files_in
  opened_whole {u} e = go (opened b) e
    where
      go : (o : Opened) → Ok u ≡ opening_of o → o ≡ files (files_of o)
      go (cut_at n) q = absurd (let z : ◌≡◌ {A = ℕ} 0 1 = cc in omega arith)
      go (files fs) q = refl

  pub cut_is : {e : Uncounted} → Err e ≡ opening_of (opened b) → (uncounted e ≡ totalled b out) × (out ≡ totals_after b out)
  cut_is {e} q = go (opened b) refl q
    where
      go : (o : Opened) → opened b ≡ o → Err e ≡ opening_of o → (uncounted e ≡ totalled b out) × (out ≡ totals_after b out)
      go (cut_at n) h q =
          let t = totalled_cut b out n h in
          let i : e ≡ Cut n = cc in (ap uncounted i ∙ sym t.0, sym t.1)
      go (files fs) h q = absurd (let z : ◌≡◌ {A = ℕ} 0 1 = cc in omega arith)

  module _ (w : opened b ≡ files (files_in b)) where
    pub short_is : length out < 568 → (answer_at 30 0 ≡ totalled b out) × (out ≡ totals_after b out)
    short_is h = let t = totalled_short b out (files_in b) w h in (sym t.0, sym t.1)

    pub done_is : 568 ≤ length out → {counts after : List ℕ} → counts ≡ totals (files_in b) → after ≡ over (total_bytes counts) out
        → (answer_at 0 568 ≡ totalled b out) × (after ≡ totals_after b out)
    done_is h c e =
        let t = totalled_done b out (files_in b) w h in
        (sym t.0, e ∙ ap (λ (l : List ℕ). over (total_bytes l) out) c ∙ sym t.1)

-- ---- what the answer means

-- number by number
same_numbers : (f g : ℕ → ℕ) (k m : ℕ) → ((n : ℕ) → k ≤ n → n < k + m → f n ≡ g n) → map f (numbers_from k m) ≡ map g (numbers_from k m)
same_numbers f g k zero h = refl
same_numbers f g k (suc m) h = ap₂ ◌∷◌ (h k (omega arith) (omega arith)) (same_numbers f g (k + 1) m (λ n l u. h n (omega arith) (omega arith)))

module _ (b out : List ℕ) (small : length b < 18446744073709551616) {number : ℕ} {after : List ℕ} (q : number ≡ (totalled b out).number) (s : after ≡ totals_after b out) where
  module _ (fs : List (List ℕ)) (e : opened b ≡ files fs) (z : number ≡ 0) where
    -- 0 is answered with room alone
    roomy : 568 ≤ length out
    roomy = go (bool_cases (ltb (length out) 568))
      where
        go : (ltb (length out) 568 ≡ true) ⊎ (ltb (length out) 568 ≡ false) → 568 ≤ length out
        go (inl t) = let y : ◌≡◌ {A = ℕ} 30 0 = sym (ap (λ (a : Answer). a.number) (totalled_short b out fs e (ltb-true (length out) 568 t)).0) ∙ sym q ∙ z in absurd (omega arith)
        go (inr f) = ltb-false (length out) 568 f

    total_in_lem : (n : ℕ) → n < 71 → total_in after n ≡ get_or (totals fs) n 0
    total_in_lem n l = ap (λ (o : List ℕ). total_in o n) s ∙ total_read b out fs e (let y : ◌≡◌ {A = ℕ} (256 ^ 8) 18446744073709551616 = refl in omega arith) roomy n l

    number_in : (n : ℕ) → n < 64 → total_in after n ≡ files_with n fs
    number_in n l = total_in_lem n (omega arith) ∙ total_of_number fs n l

    name_in : (k : ℕ) → k < 7 → total_in after (64 + k) ≡ moments_with (suc k) fs
    name_in k l = total_in_lem (64 + k) (omega arith) ∙ total_of_name fs k l

    name_at : (k : ℕ) → 1 ≤ k → k < 8 → total_in after (63 + k) ≡ moments_with k fs
    name_at k l u =
        ap (total_in after) (let y : 63 + k ≡ 64 + (k - 1) = omega arith in y) ∙ name_in (k - 1) (omega arith)
        ∙ ap (λ (j : ℕ). moments_with j fs) (let y : suc (k - 1) ≡ k = omega arith in y)

  pub counts_files : CountsFiles b number after
  counts_files fs e z = (number_in fs e z, name_in fs e z)

  pub adds_up : AddsUp b number after
  adds_up fs e z = (
    ap sum (same_numbers (λ n. total_in after n) (λ n. files_with n fs) 0 64 (λ n l u. number_in fs e z n (omega arith)))
        ∙ sum_counts (λ f. (decided_file f).number) 0 64 (λ f. let r = (file_range f).1 in (omega arith, omega arith)) fs,
    ap sum (same_numbers (λ k. total_in after (63 + k)) (λ k. moments_with k fs) 1 7 (λ k l u. name_at fs e z k l (omega arith)))
        ∙ sum_counts (λ (r : Row). name_number r.name) 1 7 (λ r. let n = name_range r.name in let l = n.0 in let u = n.1 in (l, omega arith)) (all_rows fs),
  )
