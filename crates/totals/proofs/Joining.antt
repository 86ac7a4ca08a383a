-- Opening a box file by file; boxes joined. Assumes nothing.
use mathlib.Core.Path.{◌≡◌, refl, sym, ap, ap₂, ◌∙◌}
use mathlib.Core.Bool.{Bool, true, false}
use mathlib.Core.Logic.{◌⊎◌, inl, inr}
use mathlib.Core.List.{List, [], ◌∷◌, ◌++◌}
use Prim.Native.Nat.{ℕ, zero, suc, ◌+◌, ◌-◌, ◌*◌, ◌≤◌, ◌<◌}
use native.Mathlib.Omega.{arith}
use lib.Dec.{leb}
use lib.ListN.{length, take, drop, length-append, length-drop, get_or-append}
use lib.Seq.{length-take-le, take-append-le, drop-append-le}
use borrow.Author.Tests.{leb-true, le-leb}
use Rattle.records.proofs.Lists.{and_l, and_r, and_i, bool_cases}
use Rattle.totals.specs.Totals.{long, whole_file, first_file, behind_file, Opened, cut_at, files, with_file, open_from, opened}
use Rattle.totals.specs.Claims.{joined_boxes, BoxesJoined}

-- ---- one file

pub open_nil : (n at : ℕ) → open_from (suc n) at [] ≡ files []
unfolding open_from
open_nil n at = refl

pub open_whole : (n at : ℕ) (b : List ℕ) → 0 < length b → whole_file b ≡ true → open_from (suc n) at b ≡ with_file (first_file b) (open_from n (at + 4 + long b) (behind_file b))
unfolding open_from
open_whole n at [] h w = absurd (omega arith)
open_whole n at (x ∷ xs) h w =
    ap (λ t. elim t as (λ _. Opened) [ true ↦ with_file (first_file (x ∷ xs)) (open_from n (at + 4 + long (x ∷ xs)) (behind_file (x ∷ xs))) | false ↦ cut_at at ]) w

pub open_cut : (n at : ℕ) (b : List ℕ) → 0 < length b → whole_file b ≡ false → open_from (suc n) at b ≡ cut_at at
unfolding open_from
open_cut n at [] h w = absurd (omega arith)
open_cut n at (x ∷ xs) h w =
    ap (λ t. elim t as (λ _. Opened) [ true ↦ with_file (first_file (x ∷ xs)) (open_from n (at + 4 + long (x ∷ xs)) (behind_file (x ∷ xs))) | false ↦ cut_at at ]) w

module _ (b : List ℕ) (w : whole_file b ≡ true) where
  pub whole_within : 4 + long b ≤ length b
  unfolding whole_file
  whole_within =
      let h = leb-true 4 (length b) (and_l _ _ w) in
      let l = leb-true (long b) (length b - 4) (and_r (leb 4 (length b)) _ w) in omega arith

  pub first_length : length (first_file b) ≡ long b
  unfolding first_file
  first_length = length-take-le (long b) (drop 4 b) (let d = length-drop 4 b in let h = whole_within in omega arith)

  pub behind_length : 4 + long b + length (behind_file b) ≡ length b
  unfolding behind_file
  behind_length = let d = length-drop (4 + long b) b in let h = whole_within in omega arith

  -- ---- a whole file with more behind it

  module _ (c : List ℕ) where
    long_more : long (b ++ c) ≡ long b
    unfolding long
    long_more =
        let h = whole_within in
        ap₂ (λ (m n : ℕ). m + n * 65536)
        (ap₂ (λ (m n : ℕ). m + n * 256) (get_or-append b c 0 0 (omega arith)) (get_or-append b c 0 1 (omega arith)))
        (ap₂ (λ (m n : ℕ). m + n * 256) (get_or-append b c 0 2 (omega arith)) (get_or-append b c 0 3 (omega arith)))

    whole_more : whole_file (b ++ c) ≡ true
    unfolding whole_file
    whole_more =
        let h = whole_within in
        let l = length-append b c in
        let e = long_more in
        and_i (le-leb 4 (length (b ++ c)) (omega arith)) (le-leb (long (b ++ c)) (length (b ++ c) - 4) (omega arith))

    first_more : first_file (b ++ c) ≡ first_file b
    unfolding first_file
    first_more =
        let h = whole_within in
        ap₂ (λ (n : ℕ) (l : List ℕ). take n l) long_more (drop-append-le 4 b c (omega arith))
        ∙ take-append-le (long b) (drop 4 b) c (let d = length-drop 4 b in omega arith)

    behind_more : behind_file (b ++ c) ≡ behind_file b ++ c
    unfolding behind_file
    behind_more = ap (λ (n : ℕ). drop (4 + n) (b ++ c)) long_more ∙ drop-append-le (4 + long b) b c whole_within

-- ---- fuel

pub more_fuel : (n m at : ℕ) (b : List ℕ) → length b < n → length b < m → open_from n at b ≡ open_from m at b
more_fuel zero m at b h g = absurd (omega arith)
more_fuel (suc n) zero at b h g = absurd (omega arith)
more_fuel (suc n) (suc m) at [] h g = open_nil n at ∙ sym (open_nil m at)
more_fuel (suc n) (suc m) at (x ∷ xs) h g = go (bool_cases (whole_file (x ∷ xs))) (λ i j. more_fuel n m (at + 4 + long (x ∷ xs)) (behind_file (x ∷ xs)) i j)
  where
    b : List ℕ
    b = x ∷ xs

    go : (whole_file b ≡ true) ⊎ (whole_file b ≡ false)
        → (length (behind_file b) < n → length (behind_file b) < m → open_from n (at + 4 + long b) (behind_file b) ≡ open_from m (at + 4 + long b) (behind_file b))
        → open_from (suc n) at b ≡ open_from (suc m) at b
    go (inl w) ih =
        let l = behind_length b w in
        open_whole n at b (omega arith) w ∙ ap (with_file (first_file b)) (ih (omega arith) (omega arith)) ∙ sym (open_whole m at b (omega arith) w)
    go (inr w) ih = open_cut n at b (omega arith) w ∙ sym (open_cut m at b (omega arith) w)

-- ---- further on

behind_file_lem : (k : ℕ) (f : List ℕ) (o : Opened) → with_file f (joined_boxes k [] o) ≡ joined_boxes k [] (with_file f o)
behind_file_lem k f (cut_at at) = refl
behind_file_lem k f (files fs) = refl

further : (n k at : ℕ) (b : List ℕ) → open_from n (k + at) b ≡ joined_boxes k [] (open_from n at b)
unfolding open_from
further zero k at b = refl
further (suc n) k at [] = refl
further (suc n) k at (x ∷ xs) = go (whole_file (x ∷ xs))
    (ap (λ (z : ℕ). open_from n z (behind_file (x ∷ xs))) (let z : k + at + 4 + long (x ∷ xs) ≡ k + (at + 4 + long (x ∷ xs)) = omega arith in z)
    ∙ further n k (at + 4 + long (x ∷ xs)) (behind_file (x ∷ xs)))
  where
    go : (w : Bool) → open_from n (k + at + 4 + long (x ∷ xs)) (behind_file (x ∷ xs)) ≡ joined_boxes k [] (open_from n (at + 4 + long (x ∷ xs)) (behind_file (x ∷ xs)))
        → elim w as (λ _. Opened) [ true ↦ with_file (first_file (x ∷ xs)) (open_from n (k + at + 4 + long (x ∷ xs)) (behind_file (x ∷ xs))) | false ↦ cut_at (k + at) ]
        ≡ joined_boxes k [] (elim w as (λ _. Opened) [ true ↦ with_file (first_file (x ∷ xs)) (open_from n (at + 4 + long (x ∷ xs)) (behind_file (x ∷ xs))) | false ↦ cut_at at ])
    go true ih = ap (with_file (first_file (x ∷ xs))) ih ∙ behind_file_lem k (first_file (x ∷ xs)) (open_from n (at + 4 + long (x ∷ xs)) (behind_file (x ∷ xs)))
    go false ih = refl

-- ---- joined

abbrev before : List (List ℕ) → Opened → Opened
before fs (cut_at at) = cut_at at
before fs (files gs) = files (fs ++ gs)

before_none : (o : Opened) → before [] o ≡ o
before_none (cut_at at) = refl
before_none (files gs) = refl

before_file : (f : List ℕ) (fs : List (List ℕ)) (o : Opened) → with_file f (before fs o) ≡ before (f ∷ fs) o
before_file f fs (cut_at at) = refl
before_file f fs (files gs) = refl

before_behind : (k : ℕ) (fs : List (List ℕ)) (o : Opened) → before fs (joined_boxes k [] o) ≡ joined_boxes k fs o
before_behind k fs (cut_at at) = refl
before_behind k fs (files gs) = refl

files_inj : {fs gs : List (List ℕ)} → files fs ≡ files gs → fs ≡ gs
files_inj e = cc

cut_files : {at : ℕ} {fs : List (List ℕ)} → cut_at at ≡ files fs → ⊥
cut_files e = let z : ◌≡◌ {A = ℕ} 0 1 = cc in omega arith

-- a first file and the rest
with_files : (f : List ℕ) (o : Opened) (fs : List (List ℕ)) → with_file f o ≡ files fs → (gs : List (List ℕ)) × (o ≡ files gs) × (fs ≡ f ∷ gs)
with_files f (cut_at at) fs e = absurd (cut_files e)
with_files f (files gs) fs e = (gs, refl, sym (files_inj e))

join : (n at : ℕ) (b c : List ℕ) (fs : List (List ℕ)) → length b < n → open_from n at b ≡ files fs
    → (m k : ℕ) → length b + length c < m → length c < k → open_from m at (b ++ c) ≡ before fs (open_from k (at + length b) c)
join zero at b c fs h e m k g l = absurd (omega arith)
join (suc n) at [] c fs h e m k g l =
    more_fuel m k at c (omega arith) l
    ∙ sym (before_none (open_from k at c))
    ∙ ap₂ (λ (gs : List (List ℕ)) (z : ℕ). before gs (open_from k z c)) (files_inj (sym (open_nil n at) ∙ e)) (let z : at ≡ at + 0 = omega arith in z)
join (suc n) at (x ∷ xs) c fs h e zero k g l = absurd (omega arith)
join (suc n) at (x ∷ xs) c fs h e (suc m) k g l =
    go (bool_cases (whole_file (x ∷ xs))) (λ gs i q j. join n (at + 4 + long (x ∷ xs)) (behind_file (x ∷ xs)) c gs i q m k j l)
  where
    b : List ℕ
    b = x ∷ xs

    go : (whole_file b ≡ true) ⊎ (whole_file b ≡ false)
        → ((gs : List (List ℕ)) → length (behind_file b) < n → open_from n (at + 4 + long b) (behind_file b) ≡ files gs → length (behind_file b) + length c < m
        → open_from m (at + 4 + long b) (behind_file b ++ c) ≡ before gs (open_from k (at + 4 + long b + length (behind_file b)) c))
        → open_from (suc m) at (b ++ c) ≡ before fs (open_from k (at + length b) c)
    go (inr w) ih = absurd (cut_files (sym (open_cut n at b (omega arith) w) ∙ e))
    go (inl w) ih = by (with_files (first_file b) (open_from n (at + 4 + long b) (behind_file b)) fs (sym (open_whole n at b (omega arith) w) ∙ e))
      where
        by : (gs : List (List ℕ)) × (open_from n (at + 4 + long b) (behind_file b) ≡ files gs) × (fs ≡ first_file b ∷ gs) → open_from (suc m) at (b ++ c) ≡ before fs (open_from k (at + length b) c)
        by (gs, q, r) =
            let s = behind_length b w in
            open_whole m at (b ++ c) (let z = length-append b c in omega arith) (whole_more b w c)
            ∙ ap₂ with_file (first_more b w c) (ap₂ (λ (z : ℕ) (l : List ℕ). open_from m (at + 4 + z) l) (long_more b w c) (behind_more b w c) ∙ ih gs (omega arith) q (omega arith))
            ∙ before_file (first_file b) gs (open_from k (at + 4 + long b + length (behind_file b)) c)
            ∙ ap₂ (λ (hs : List (List ℕ)) (z : ℕ). before hs (open_from k z c)) (sym r) (let z : at + 4 + long b + length (behind_file b) ≡ at + length b = omega arith in z)

pub boxes_joined : BoxesJoined
unfolding opened
boxes_joined b c fs e =
    let l = length-append b c in
    join (suc (length b)) 0 b c fs (omega arith) e (suc (length (b ++ c))) (suc (length c)) (omega arith) (omega arith)
    ∙ ap (λ (z : ℕ). before fs (open_from (suc (length c)) z c)) (let z : 0 + length b ≡ length b + 0 = omega arith in z)
    ∙ ap (before fs) (further (suc (length c)) (length b) 0 c)
    ∙ before_behind (length b) fs (open_from (suc (length c)) 0 c)

-- ---- the files lie in the box

-- all bytes of the files, and four more for each
abbrev pub boxed : List (List ℕ) → ℕ
boxed [] = 0
boxed (f ∷ fs) = 4 + length f + boxed fs

boxed_from : (n at : ℕ) (b : List ℕ) (fs : List (List ℕ)) → open_from n at b ≡ files fs → boxed fs ≡ length b
unfolding open_from
boxed_from zero at b fs e = absurd (cut_files e)
boxed_from (suc n) at [] fs e = ap boxed (sym (files_inj (sym (open_nil n at) ∙ e)))
boxed_from (suc n) at (x ∷ xs) fs e = go (bool_cases (whole_file (x ∷ xs))) (λ gs q. boxed_from n (at + 4 + long (x ∷ xs)) (behind_file (x ∷ xs)) gs q)
  where
    b : List ℕ
    b = x ∷ xs

    go : (whole_file b ≡ true) ⊎ (whole_file b ≡ false) → ((gs : List (List ℕ)) → open_from n (at + 4 + long b) (behind_file b) ≡ files gs → boxed gs ≡ length (behind_file b)) → boxed fs ≡ length b
    go (inr w) ih = absurd (cut_files (sym (open_cut n at b (omega arith) w) ∙ e))
    go (inl w) ih = by (with_files (first_file b) (open_from n (at + 4 + long b) (behind_file b)) fs (sym (open_whole n at b (omega arith) w) ∙ e))
      where
        by : (gs : List (List ℕ)) × (open_from n (at + 4 + long b) (behind_file b) ≡ files gs) × (fs ≡ first_file b ∷ gs) → boxed fs ≡ length b
        by (gs, q, r) = let s = behind_length b w in let f = first_length b w in let i = ih gs q in ap boxed r ∙ omega arith

pub boxed_length : (b : List ℕ) (fs : List (List ℕ)) → opened b ≡ files fs → boxed fs ≡ length b
unfolding opened
boxed_length b fs e = boxed_from (suc (length b)) 0 b fs e
