-- Cases of trying the facts themselves: the paper's samples, and places that a hasty engine misses. Assumes nothing.
use Rattle.std.specs.Prelude.{◌≡◌, refl, List, [], ◌∷◌, ◌++◌, ℕ}
use Rattle.verdict.specs.Judged.{Answer, answer_at}
use Rattle.trying.specs.Trying.{tried_file, tried_after}
use Rattle.cases.specs.Written.{FF, relation, at_once, holds, lacks, adds, deletes, component, closing, lent}
use Rattle.cases.specs.Samples.{at, relations, template, move, lend, m1, m3, m4, m5, m6, m7, m8, m9, m10, m11}

-- what a call answers, and the memory that it leaves
pub record Tried : Type 0 where
  pub answer : Answer
  pub memory : List ℕ

-- with four bytes
abbrev pub try : List ℕ → Tried
try f = record { answer = tried_file f (lent 4); memory = tried_after f (lent 4) }

-- the bytes, and lent ones behind them
abbrev pub says : ℕ → List ℕ → Tried
says n bytes = record { answer = answer_at 0 n; memory = bytes }

-- one variable, add at(0,0): the one object does not give a second fact, the spare one does
abbrev pub needs_spare : List ℕ
needs_spare = relation 2 ++ at_once 1 ++ adds (0 ∷ 0 ∷ 0 ∷ []) ++ component (at 0 FF) ++ closing

-- false at(0,1), add at(0,1): at(0,0) and at(0,2) are left to try
abbrev pub lacks_one : List ℕ
lacks_one = relation 2 ++ at_once 2 ++ lacks (at 0 1) ++ adds (at 0 1) ++ component (at 0 FF) ++ closing

-- two classes, of 0 and of 2: the first is left alone
abbrev pub two_classes : List ℕ
two_classes = relation 2 ++ at_once 4 ++ holds (at 0 1) ++ adds (at 2 3) ++ component (at 0 FF) ++ closing

-- clearing: strike every place of the volume and enter one, which does no harm; a clearing false condition of another place does not help
abbrev pub clears : List ℕ
clears = relation 2 ++ at_once 2 ++ deletes (at 0 FF) ++ adds (at 0 1) ++ component (at 0 FF) ++ closing

abbrev pub clears_other : List ℕ
clears_other = relation 2 ++ relation 2 ++ at_once 2 ++ lacks (1 ∷ 0 ∷ FF ∷ []) ++ adds (at 0 1) ++ component (at 0 FF) ++ closing

-- a lasting action first
abbrev pub lasting_first : List ℕ
lasting_first = relations ++ lend ++ move ++ template ++ closing

pub record TriedCases : Type 0 where
  pub m1_tried : try m1 ≡ says 1 (0 ∷ lent 3)
  pub m3_tried : try m3 ≡ says 1 (1 ∷ lent 3)
  pub m4_tried : try m4 ≡ says 1 (1 ∷ lent 3)
  pub m5_tried : try m5 ≡ says 1 (1 ∷ lent 3)
  pub m6_tried : try m6 ≡ says 1 (0 ∷ lent 3)
  pub m7_tried : try m7 ≡ says 1 (1 ∷ lent 3)
  pub m8_tried : try m8 ≡ says 1 (0 ∷ lent 3)
  pub m9_tried : try m9 ≡ says 1 (0 ∷ lent 3)
  -- 43 is no matter here: the lasting action is passed over, and the bounded class does no harm by itself
  pub m10_tried : try m10 ≡ says 1 (0 ∷ lent 3)
  pub m11_tried : try m11 ≡ record { answer = answer_at 10 0; memory = lent 4 }
  pub spare_tried : try needs_spare ≡ says 1 (1 ∷ lent 3)
  pub lacks_tried : try lacks_one ≡ says 1 (1 ∷ lent 3)
  pub classes_tried : try two_classes ≡ says 2 (0 ∷ 1 ∷ lent 2)
  pub lasting_tried : try lasting_first ≡ says 1 (0 ∷ lent 3)
  pub clears_tried : try clears ≡ says 1 (0 ∷ lent 3)
  pub other_tried : try clears_other ≡ says 1 (1 ∷ lent 3)
  pub short_tried : tried_file two_classes (lent 1) ≡ answer_at 30 0
  pub short_untouched : tried_after two_classes (lent 1) ≡ lent 1

pub tried_cases : TriedCases
unfolding tried_file tried_after
tried_cases =
    record {
      m1_tried = refl;
      m3_tried = refl;
      m4_tried = refl;
      m5_tried = refl;
      m6_tried = refl;
      m7_tried = refl;
      m8_tried = refl;
      m9_tried = refl;
      m10_tried = refl;
      m11_tried = refl;
      spare_tried = refl;
      lacks_tried = refl;
      classes_tried = refl;
      lasting_tried = refl;
      clears_tried = refl;
      other_tried = refl;
      short_tried = refl;
      short_untouched = refl;
    }
