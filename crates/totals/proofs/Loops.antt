-- Laws for code: a box read from left to right, and the totals with one file more. Assumes nothing.
use mathlib.Core.Path.{◌≡◌, refl, sym, ap, ap₂, ◌∙◌}
use mathlib.Core.Bool.{Bool, true, false, ◌&&◌}
use mathlib.Core.List.{List, [], ◌∷◌, ◌++◌}
use Prim.Native.Nat.{ℕ, suc, ◌+◌, ◌-◌, ◌*◌, ◌≤◌, ◌<◌}
use native.Mathlib.Omega.{arith}
use Rattle.std.specs.Int.{w32, from_le_bytes}
use Rattle.std.specs.Prelude.{Option, Some, None, MatchOption}
use Rattle.std.specs.List.{IsSplitAt}
use Rattle.std.proofs.Common.{Bor}
use lib.ListN.{length, take, drop, take-append-drop, length-drop, drop_of_length-le}
use lib.Seq.{length-take-le, take-add, take-take, take_all, get_or-take, drop-drop, drop_at}
use borrow.Author.Tests.{le-leb, lt-leb}
use lib.Dec.{leb}
use Rattle.records.proofs.Lists.{and_i}
use Rattle.totals.specs.Totals.{long, whole_file, first_file, behind_file, cut_at, files, with_file, open_from, opened, totals}
use Rattle.totals.specs.Claims.{joined_boxes, added}
use Rattle.totals.proofs.Joining.{open_nil, open_whole, open_cut, whole_within, boxes_joined}
use Rattle.totals.proofs.Counts.{totals_joined}

-- ---- the file in front

-- its length, as the library reads four bytes
pub long_is : (b : List ℕ) → from_le_bytes w32 (take 4 b) ≡ long b
unfolding long
long_is b =
    let a = get_or-take 4 b 0 0 (omega arith) in
    let c = get_or-take 4 b 1 0 (omega arith) in
    let d = get_or-take 4 b 2 0 (omega arith) in
    let e = get_or-take 4 b 3 0 (omega arith) in omega arith

-- no length fits there
pub none_left : (b : List ℕ) → length b < 4 → whole_file b ≡ false
unfolding whole_file
none_left b h = ap (λ (t : Bool). t && leb (long b) (length b - 4)) (lt-leb 4 (length b) h)

-- one fits: its file is compared with what is left
pub one_left : (b : List ℕ) → 4 ≤ length b → whole_file b ≡ leb (long b) (length b - 4)
unfolding whole_file
one_left b h = ap (λ (t : Bool). t && leb (long b) (length b - 4)) (le-leb 4 (length b) h)

module _ (b : List ℕ) (h : 4 ≤ length b) where
  pub file_cut : length (drop 4 b) < long b → whole_file b ≡ false
  file_cut l = let d = length-drop 4 b in one_left b h ∙ lt-leb (long b) (length b - 4) (omega arith)

  pub file_whole : long b ≤ length (drop 4 b) → whole_file b ≡ true
  file_whole l = let d = length-drop 4 b in one_left b h ∙ le-leb (long b) (length b - 4) (omega arith)

pub front_is : (b : List ℕ) → take (long b) (drop 4 b) ≡ first_file b
unfolding first_file
front_is b = refl

pub behind_is : (b : List ℕ) → drop (long b) (drop 4 b) ≡ behind_file b
unfolding behind_file
behind_is b = drop-drop (long b) 4 b

-- what splitting behind the length comes to
pub split_is : (b : List ℕ) → 4 ≤ length b → (size : ℕ) → size ≡ long b → (o : Option (Bor (List ℕ) × Bor (List ℕ)))
    → MatchOption o (length (drop 4 b) < size) (λ p. IsSplitAt (drop 4 b) size p.0.now p.1.now)
    → MatchOption o (whole_file b ≡ false) (λ p. (whole_file b ≡ true) × (p.0.now ≡ first_file b) × (p.1.now ≡ behind_file b))
split_is b h size e None l = file_cut b h (omega arith)
split_is b h size e (Some p) s = (
  file_whole b h (let l = s.0 in omega arith),
  s.1 ∙ ap (λ (n : ℕ). take n (drop 4 b)) e ∙ front_is b,
  s.2 ∙ ap (λ (n : ℕ). drop n (drop 4 b)) e ∙ behind_is b,
)

-- a whole file, and nothing behind it
module _ (b : List ℕ) (w : whole_file b ≡ true) where
  front_length : length (take (4 + long b) b) ≡ 4 + long b
  front_length = length-take-le (4 + long b) b (whole_within b w)

  front_long : long (take (4 + long b) b) ≡ long b
  unfolding long
  front_long =
      ap₂ (λ (m n : ℕ). m + n * 65536)
      (ap₂ (λ (m n : ℕ). m + n * 256) (get_or-take (4 + long b) b 0 0 (omega arith)) (get_or-take (4 + long b) b 1 0 (omega arith)))
      (ap₂ (λ (m n : ℕ). m + n * 256) (get_or-take (4 + long b) b 2 0 (omega arith)) (get_or-take (4 + long b) b 3 0 (omega arith)))

  front_whole : whole_file (take (4 + long b) b) ≡ true
  unfolding whole_file
  front_whole =
      let l = front_length in
      let e = front_long in
      and_i (le-leb 4 (length (take (4 + long b) b)) (omega arith)) (le-leb (long (take (4 + long b) b)) (length (take (4 + long b) b) - 4) (omega arith))

  front_first : first_file (take (4 + long b) b) ≡ first_file b
  unfolding first_file
  front_first =
      ap₂ (λ (n : ℕ) (l : List ℕ). take n l) front_long
      (ap (drop 4) (take-add 4 (long b) b) ∙ drop_four)
      ∙ take-take (long b) (long b) (drop 4 b) (omega arith)
    where
      drop_four : drop 4 (take 4 b ++ take (long b) (drop 4 b)) ≡ take (long b) (drop 4 b)
      drop_four = drop_at (take 4 b) (take (long b) (drop 4 b)) 4 (length-take-le 4 b (let h = whole_within b w in omega arith))

  front_behind : behind_file (take (4 + long b) b) ≡ []
  unfolding behind_file
  front_behind = drop_of_length-le (take (4 + long b) b) {i = 4 + long (take (4 + long b) b)} (let l = front_length in let e = front_long in omega arith)

  front_opened : opened (take (4 + long b) b) ≡ files (first_file b ∷ [])
  unfolding opened
  front_opened =
      let l = front_length in
      ap (λ n. open_from (suc n) 0 (take (4 + long b) b)) l
      ∙ open_whole (4 + long b) 0 (take (4 + long b) b) (omega arith) front_whole
      ∙ ap₂ with_file front_first (ap (open_from (4 + long b) (0 + 4 + long (take (4 + long b) b))) front_behind ∙ ap (λ n. open_from n (0 + 4 + long (take (4 + long b) b)) []) (let z : 4 + long b ≡ suc (3 + long b) = omega arith in z) ∙ open_nil (3 + long b) (0 + 4 + long (take (4 + long b) b)))

-- the bytes before an offset are whole files
module _ (b : List ℕ) (at : ℕ) (fs : List (List ℕ)) (h : at ≤ length b) (e : opened (take at b) ≡ files fs) where
  rest : opened b ≡ joined_boxes at fs (opened (drop at b))
  rest =
      ap opened (sym (take-append-drop at b)) ∙ boxes_joined (take at b) (drop at b) fs e
      ∙ ap (λ n. joined_boxes n fs (opened (drop at b))) (length-take-le at b h)

  -- a whole file there: one file more
  pub box_more : whole_file (drop at b) ≡ true → opened (take (at + (4 + long (drop at b))) b) ≡ files (fs ++ (first_file (drop at b) ∷ []))
  box_more w =
      ap opened (take-add at (4 + long (drop at b)) b)
      ∙ boxes_joined (take at b) (take (4 + long (drop at b)) (drop at b)) fs e
      ∙ ap (joined_boxes (length (take at b)) fs) (front_opened (drop at b) w)

  -- none: the box is cut
  pub box_cut : at < length b → whole_file (drop at b) ≡ false → opened b ≡ cut_at at
  unfolding opened
  box_cut l w =
      rest
      ∙ ap (joined_boxes at fs) (open_cut (length (drop at b)) 0 (drop at b) (let d = length-drop at b in omega arith) w)
      ∙ ap cut_at (let z : at + 0 ≡ at = omega arith in z)

  -- nothing is left: these are the files
  pub box_end : length b ≤ at → opened b ≡ files fs
  box_end l = ap opened (sym (take_all at b l)) ∙ e

-- one file more
pub totals_more : (fs : List (List ℕ)) (f : List ℕ) → totals (fs ++ (f ∷ [])) ≡ added (totals fs) (totals (f ∷ []))
totals_more fs f = totals_joined fs (f ∷ [])

-- ---- the walk from length to length

-- the bytes before an offset are whole files: these
pub record Passed (b : List ℕ) (at : ℕ) : Type 0 where
  pub within : at ≤ length b
  pub passed : List (List ℕ)
  pub whole : opened (take at b) ≡ files passed

pub pass_none : (b : List ℕ) → Passed b 0
unfolding opened open_from
pass_none b = record { within = omega arith; passed = []; whole = refl }

pub none_passed : (b : List ℕ) → (pass_none b).passed ≡ []
unfolding pass_none
none_passed b = refl

module _ {b : List ℕ} {at : ℕ} (P : Passed b at) where
  -- a length of a whole file
  pub file_within : whole_file (drop at b) ≡ true → at + 4 + long (drop at b) ≤ length b
  file_within w = let h = whole_within (drop at b) w in let l = length-drop at b in let i = P.within in omega arith

  pub pass_file : (next : ℕ) → whole_file (drop at b) ≡ true → next ≡ at + 4 + long (drop at b) → Passed b next
  pass_file next w e =
      record {
        within = let h = file_within w in omega arith;
        passed = P.passed ++ (first_file (drop at b) ∷ []);
        whole = ap (λ (n : ℕ). opened (take n b)) (let z : next ≡ at + (4 + long (drop at b)) = omega arith in z) ∙ box_more b at P.passed P.within P.whole w;
      }

  -- one file more
  pub pass_passed : (next : ℕ) (w : whole_file (drop at b) ≡ true) (e : next ≡ at + 4 + long (drop at b)) → (pass_file next w e).passed ≡ P.passed ++ (first_file (drop at b) ∷ [])
  unfolding pass_file
  pass_passed next w e = refl

-- what is left of a box, behind whole files
pub record Left (b rest : List ℕ) : Type 0 where
  pub at : ℕ
  pub place : Passed b at
  pub left : rest ≡ drop at b

pub left_all : (b : List ℕ) → Left b b
left_all b = record { at = 0; place = pass_none b; left = refl }

pub all_passed : (b : List ℕ) → (left_all b).place.passed ≡ []
unfolding left_all
all_passed b = none_passed b

module _ {b rest : List ℕ} (L : Left b rest) where
  pub left_length : L.at + length rest ≡ length b
  left_length = let e = ap length L.left ∙ length-drop L.at b in let w = L.place.within in omega arith

  -- no whole file there: the box is cut, or these are all
  pub left_cut : 0 < length rest → whole_file rest ≡ false → opened b ≡ cut_at L.at
  left_cut l w = let e = left_length in box_cut b L.at L.place.passed L.place.within L.place.whole (omega arith) (ap whole_file (sym L.left) ∙ w)

  pub left_end : length rest ≡ 0 → opened b ≡ files L.place.passed
  left_end z = let e = left_length in box_end b L.at L.place.passed L.place.within L.place.whole (omega arith)

  module _ (w : whole_file rest ≡ true) where
    stands : whole_file (drop L.at b) ≡ true
    stands = ap whole_file (sym L.left) ∙ w

    -- one file more
    pub left_more : {behind : List ℕ} → behind ≡ behind_file rest → Left b behind
    left_more e =
        record {
          at = L.at + 4 + long (drop L.at b);
          place = pass_file L.place (L.at + 4 + long (drop L.at b)) stands refl;
          left = e ∙ ap behind_file L.left ∙ sym (behind_is (drop L.at b)) ∙ drop-drop (long (drop L.at b)) 4 (drop L.at b)
              ∙ drop-drop (4 + long (drop L.at b)) L.at b
              ∙ ap (λ (n : ℕ). drop n b) (let z : L.at + (4 + long (drop L.at b)) ≡ L.at + 4 + long (drop L.at b) = omega arith in z);
        }

    pub more_passed : {behind : List ℕ} (e : behind ≡ behind_file rest) → (left_more e).place.passed ≡ L.place.passed ++ (first_file rest ∷ [])
    unfolding left_more
    more_passed e =
        pass_passed L.place (L.at + 4 + long (drop L.at b)) stands refl
        ∙ ap (λ (f : List ℕ). L.place.passed ++ (f ∷ [])) (ap first_file (sym L.left))

-- the file in front takes its length, and four bytes for it
module _ (rest : List ℕ) (w : whole_file rest ≡ true) where
  pub first_length : length (first_file rest) ≡ long rest
  first_length =
      let h = whole_within rest w in
      let d = length-drop 4 rest in
      ap length (sym (front_is rest)) ∙ length-take-le (long rest) (drop 4 rest) (omega arith)

  pub behind_length : length (behind_file rest) + (4 + long rest) ≡ length rest
  behind_length =
      let h = whole_within rest w in
      let d = length-drop 4 rest in
      let e = ap length (sym (behind_is rest)) ∙ length-drop (long rest) (drop 4 rest) in omega arith
