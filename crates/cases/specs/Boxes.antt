-- Cases of the figures for a whole term. Assumes nothing.
use Rattle.std.specs.Prelude.{◌≡◌, refl, List, [], ◌∷◌, ◌++◌, ℕ, length, take, drop, replicate}
use Rattle.verdict.specs.Judged.{answer_at}
use Rattle.totals.specs.Totals.{files, opened, totals, totalled, totals_after}
use Rattle.cases.specs.Written.{lent}
use Rattle.cases.specs.Samples.{m1, m3, m5, m11}

-- a file of fewer than 256 bytes with its length before it
abbrev pub packed : List ℕ → List ℕ
packed f = length f ∷ 0 ∷ 0 ∷ 0 ∷ f

-- M1, M3, the empty file, M5, M3: numbers 1, 41, 10, 42, 41
abbrev pub box : List ℕ
box = packed m1 ++ packed m3 ++ packed m11 ++ packed m5 ++ packed m3

pub record Boxes : Type 0 where
  pub box_files : opened box ≡ files (m1 ∷ m3 ∷ m11 ∷ m5 ∷ m3 ∷ [])
  -- numbers 1, 10, 41, 42; then irrelevant 1, balanced 1, unbalanced 2, unbounded 2
  pub box_totals : totals (m1 ∷ m3 ∷ m11 ∷ m5 ∷ m3 ∷ [])
      ≡ 0 ∷ 1 ∷ replicate 8 0 ++ 1 ∷ replicate 30 0 ++ 2 ∷ 1 ∷ replicate 21 0 ++ 0 ∷ 1 ∷ 0 ∷ 1 ∷ 2 ∷ 0 ∷ 2 ∷ []
  pub box_answer : totalled box (lent 570) ≡ answer_at 0 568
  -- number 0 and 1, each in 8 bytes; the last name, and the two bytes behind
  pub box_front : take 16 (totals_after box (lent 570)) ≡ replicate 8 0 ++ 1 ∷ replicate 7 0
  pub box_back : drop 560 (totals_after box (lent 570)) ≡ 2 ∷ replicate 7 0 ++ lent 2
  pub empty_box : opened [] ≡ files []
  -- cut inside the second file, inside its length, and short memory, which comes after
  pub file_cut : totalled (take 140 box) (lent 3) ≡ answer_at 33 92
  pub length_cut : totalled (packed m11 ++ 5 ∷ 0 ∷ 0 ∷ []) (lent 3) ≡ answer_at 33 4
  -- a length that goes far beyond the box
  pub length_beyond : totalled (packed m11 ++ 255 ∷ 255 ∷ 255 ∷ 255 ∷ []) (lent 600) ≡ answer_at 33 4
  pub cut_untouched : totals_after (take 140 box) (lent 600) ≡ lent 600
  pub box_short : totalled box (lent 567) ≡ answer_at 30 0
  pub short_untouched : totals_after box (lent 567) ≡ lent 567

pub boxes : Boxes
unfolding opened totals totalled totals_after
boxes =
    record {
      box_files = refl;
      box_totals = refl;
      box_answer = refl;
      box_front = refl;
      box_back = refl;
      empty_box = refl;
      file_cut = refl;
      length_cut = refl;
      length_beyond = refl;
      cut_untouched = refl;
      box_short = refl;
      short_untouched = refl;
    }
