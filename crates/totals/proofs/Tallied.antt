-- Totals counted one by one are the counts of the definition. Assumes nothing.
use mathlib.Core.Path.{◌≡◌, refl, sym, ap, ◌∙◌}
use mathlib.Core.Bool.{Bool, true, false}
use mathlib.Core.Logic.{◌⊎◌, inl, inr}
use mathlib.Core.List.Memᴰ
use mathlib.Core.List.{List, [], ◌∷◌, ◌++◌, map, flat_map, append-nil}
use Prim.Native.Nat.{ℕ, suc, ◌+◌, ◌-◌, ◌≤◌, ◌<◌}
use native.Mathlib.Omega.{arith}
use lib.Dec.{eqb, ltb}
use lib.ListN.{length, get_or, length-set, get_or-eq_default}
use lib.Seq.{get_or-set_same, get_or-set_other, ext_get_or}
use borrow.Author.Tests.{eqb-true, eqb-false, ne_eqb, eq-eqb, ltb-true, ltb-false}
use Rattle.records.specs.Lists.{add_if, count_by, In}
use Rattle.records.proofs.Lists.{bool_cases, get_d_in, count_map, count_none}
use Rattle.classes.specs.Classes.{name_number}
use Rattle.verdict.specs.Decision.{Row}
use Rattle.verdict.specs.Judged.{decided_file}
use Rattle.totals.specs.Totals.{opened, files, rows_of_file, all_rows, files_with, moments_with, name_mark, totals}
use Rattle.totals.specs.Held.{one_more, one_more_each, marks_of, Room}
use Rattle.verdict.proofs.Known.{file_range, name_range}
use Rattle.totals.proofs.Counts.{total_of_number, total_of_name}
use Rattle.totals.proofs.Answers.{totals_length}
use Rattle.totals.proofs.Apart.{added_at}
use Rattle.totals.proofs.Loops.{totals_more}
use Rattle.totals.proofs.Bounds.{totals_bounded}

-- ---- one total higher

pub more_length : (ts : List ℕ) (n : ℕ) → length (one_more ts n) ≡ length ts
more_length ts n = length-set ts n (get_or ts n 0 + 1)

more_at : (ts : List ℕ) (n i : ℕ) → n < length ts → get_or (one_more ts n) i 0 ≡ add_if (eqb i n) (get_or ts i 0)
more_at ts n i h = go (bool_cases (eqb i n))
  where
    go : (eqb i n ≡ true) ⊎ (eqb i n ≡ false) → get_or (one_more ts n) i 0 ≡ add_if (eqb i n) (get_or ts i 0)
    go (inl t) =
        let e = eqb-true i n t in
        ap (λ (k : ℕ). get_or (one_more ts n) k 0) e ∙ get_or-set_same ts n (get_or ts n 0 + 1) 0 h ∙ (let z : get_or ts n 0 + 1 ≡ suc (get_or ts n 0) = omega arith in z)
        ∙ ap (λ (k : ℕ). suc (get_or ts k 0)) (sym e) ∙ ap (λ (b : Bool). add_if b (get_or ts i 0)) (sym t)
    go (inr f) = get_or-set_other ts n i (get_or ts n 0 + 1) 0 (eqb-false i n f) ∙ ap (λ (b : Bool). add_if b (get_or ts i 0)) (sym f)

pub tally_length : (ts ns : List ℕ) → length (one_more_each ts ns) ≡ length ts
tally_length ts [] = refl
tally_length ts (n ∷ ns) = tally_length (one_more ts n) ns ∙ more_length ts n

add_plus : (b : Bool) (m k : ℕ) → add_if b m + k ≡ m + add_if b k
add_plus true m k = omega arith
add_plus false m k = refl

tally_at : (ts ns : List ℕ) (i : ℕ) → ((n : ℕ) → In n ns → n < length ts) → get_or (one_more_each ts ns) i 0 ≡ get_or ts i 0 + count_by (eqb i) ns
tally_at ts [] i h = omega arith
tally_at ts (n ∷ ns) i h =
    tally_at (one_more ts n) ns i (λ m k. let l = h m (Memᴰ.tail k) in let e = more_length ts n in omega arith)
    ∙ ap (λ (m : ℕ). m + count_by (eqb i) ns) (more_at ts n i (h n (Memᴰ.head refl)))
    ∙ add_plus (eqb i n) (get_or ts i 0) (count_by (eqb i) ns)

-- ---- room

add_bound : (b : Bool) (n : ℕ) → add_if b n ≤ n + 1
add_bound true n = omega arith
add_bound false n = omega arith

pub room_less : (ts : List ℕ) (k m : ℕ) → m ≤ k → Room ts k → Room ts m
room_less ts k m h R n = let r = R n in omega arith

pub room_more : (ts : List ℕ) (n k : ℕ) → n < length ts → Room ts (1 + k) → Room (one_more ts n) k
room_more ts n k h R i = let r = R i in let e = more_at ts n i h in let l = add_bound (eqb i n) (get_or ts i 0) in omega arith

-- what a box says of its totals so far leaves room for what is behind
pub room_box : (b : List ℕ) (fs : List (List ℕ)) (k : ℕ) → opened b ≡ files fs → length b + k < 18446744073709551616 → Room (totals fs) k
room_box b fs k e h n = go (bool_cases (ltb n (length (totals fs))))
  where
    go : (ltb n (length (totals fs)) ≡ true) ⊎ (ltb n (length (totals fs)) ≡ false) → get_or (totals fs) n 0 + k < 18446744073709551616
    go (inl t) = let m = totals_bounded b fs e (get_or (totals fs) n 0) (get_d_in (totals fs) n 0 (ltb-true n (length (totals fs)) t)) in omega arith
    go (inr f) = let z : get_or (totals fs) n 0 ≡ 0 = get_or-eq_default (totals fs) 0 (ltb-false n (length (totals fs)) f) in omega arith

-- ---- one file more

module _ (f : List ℕ) where
  abbrev mark_of : Row → ℕ
  mark_of r = name_mark (name_number r.name)

  number_below : (decided_file f).number < 64
  number_below = (file_range f).1

  -- no moment is counted among the numbers
  number_apart : (i : ℕ) → i < 64 → count_by (eqb i) (map mark_of (rows_of_file f)) ≡ 0
  number_apart i h =
      count_map mark_of (eqb i) (λ (r : Row). eqb i (mark_of r)) (λ r. refl) (rows_of_file f)
      ∙ count_none (λ (r : Row). eqb i (mark_of r)) (rows_of_file f) (λ r m t. let e = eqb-true i (mark_of r) t in let n = (name_range r.name).0 in omega arith)

  -- a moment is counted under its name
  same_name : (k n : ℕ) → eqb (64 + k) (name_mark n) ≡ eqb (suc k) n
  same_name k n = go (bool_cases (eqb (suc k) n))
    where
      go : (eqb (suc k) n ≡ true) ⊎ (eqb (suc k) n ≡ false) → eqb (64 + k) (name_mark n) ≡ eqb (suc k) n
      go (inl t) = eq-eqb (64 + k) (name_mark n) (let e = eqb-true (suc k) n t in omega arith) ∙ sym t
      go (inr z) = ne_eqb (64 + k) (name_mark n) (λ e. eqb-false (suc k) n z (omega arith)) ∙ sym z

  name_marks : (k : ℕ) → count_by (eqb (64 + k)) (marks_of f) ≡ moments_with (suc k) (f ∷ [])
  unfolding marks_of all_rows flat_map
  name_marks k =
      let n = number_below in
      ap (λ (b : Bool). add_if b (count_by (eqb (64 + k)) (map mark_of (rows_of_file f)))) (ne_eqb (64 + k) (decided_file f).number (λ e. omega arith))
      ∙ count_map mark_of (eqb (64 + k)) (λ (r : Row). eqb (suc k) (name_number r.name)) (λ r. same_name k (name_number r.name)) (rows_of_file f)
      ∙ ap (count_by (λ (r : Row). eqb (suc k) (name_number r.name))) (sym (append-nil (rows_of_file f)))

  number_marks : (i : ℕ) → i < 64 → count_by (eqb i) (marks_of f) ≡ files_with i (f ∷ [])
  unfolding marks_of
  number_marks i h = ap (add_if (eqb i (decided_file f).number)) (number_apart i h)

  -- the places of a file, counted
  marks_at : (i : ℕ) → i < 71 → get_or (totals (f ∷ [])) i 0 ≡ count_by (eqb i) (marks_of f)
  marks_at i h = go (bool_cases (ltb i 64))
    where
      go : (ltb i 64 ≡ true) ⊎ (ltb i 64 ≡ false) → get_or (totals (f ∷ [])) i 0 ≡ count_by (eqb i) (marks_of f)
      go (inl t) = let l = ltb-true i 64 t in total_of_number (f ∷ []) i l ∙ sym (number_marks i l)
      go (inr z) =
          let l = ltb-false i 64 z in
          let e : 64 + (i - 64) ≡ i = omega arith in
          ap (λ (n : ℕ). get_or (totals (f ∷ [])) n 0) (sym e)
          ∙ total_of_name (f ∷ []) (i - 64) (omega arith)
          ∙ sym (name_marks (i - 64))
          ∙ ap (λ (n : ℕ). count_by (eqb n) (marks_of f)) e

  marks_below : (n : ℕ) → In n (marks_of f) → n < 71
  unfolding marks_of
  marks_below n m = go (Memᴰ.append_cases ((decided_file f).number ∷ []) m)
    where
      go : In n ((decided_file f).number ∷ []) ⊎ In n (map mark_of (rows_of_file f)) → n < 71
      go (inl i) = let e = Memᴰ.eq_of_singleton i in let b = number_below in omega arith
      go (inr i) =
          let r = Memᴰ.of_map mark_of (rows_of_file f) i in
          let e = r.2 in
          let b = (name_range r.0.name).1 in omega arith

pub tally_file : (fs : List (List ℕ)) (f : List ℕ) → one_more_each (totals fs) (marks_of f) ≡ totals (fs ++ (f ∷ []))
tally_file fs f =
    let k = totals_length fs in
    let j = totals_length (f ∷ []) in
    let l = tally_length (totals fs) (marks_of f) in
    let m = totals_length (fs ++ (f ∷ [])) in
    ext_get_or 0 (one_more_each (totals fs) (marks_of f)) (totals (fs ++ (f ∷ []))) (omega arith)
    (λ i h. tally_at (totals fs) (marks_of f) i (λ n q. let b = marks_below f n q in omega arith)
    ∙ ap (λ (n : ℕ). get_or (totals fs) i 0 + n) (sym (marks_at f i (omega arith)))
    ∙ sym (ap (λ (t : List ℕ). get_or t i 0) (totals_more fs f) ∙ added_at (totals fs) (totals (f ∷ [])) i (omega arith) (omega arith)))
