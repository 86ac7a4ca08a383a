-- One file of a box: judged with memory enough, counted, and the report cleared; and the files in a row. Assumes nothing.
use mathlib.Core.Path.{◌≡◌, refl, sym, ap, ap₂, ◌∙◌, subst}
use mathlib.Core.Bool.{true, false}
use mathlib.Core.Logic.{◌⊎◌, inl, inr}
use mathlib.Core.List.Memᴰ
use mathlib.Core.List.{List, [], ◌∷◌, ◌++◌, map}
use Prim.Native.Nat.{ℕ, ◌+◌, ◌*◌, ◌≤◌, ◌<◌}
use native.Mathlib.Omega.{arith}
use lib.ListN.{length, take, drop, replicate, length-map, length-replicate}
use lib.Seq.{length-take-le}
use lib.Dec.{ltb}
use borrow.Author.Tests.{ltb-true, ltb-false}
use Rattle.records.specs.Lists.{In}
use Rattle.records.specs.Memory.{over}
use Rattle.records.proofs.Lists.{bool_cases}
use Rattle.classes.specs.Classes.{name_number}
use Rattle.verdict.specs.declared.Judgement.{Judgement}
use Rattle.verdict.specs.Decision.{Row}
use Rattle.verdict.specs.Judged.{row_bytes, Answer, decided_file, judged, report_after}
use Rattle.verdict.specs.Held.{judgement_of}
use Rattle.totals.specs.Totals.{whole_file, first_file, behind_file, cut_at, files, opened, rows_of_file, name_mark, totals}
use Rattle.totals.specs.Held.{files_of, files_in, one_more, one_more_each, marks_of, names_in, Room}
use Rattle.verdict.proofs.Known.{file_range, name_range}
use Rattle.totals.proofs.Enough.{judged_enough}
use Rattle.totals.proofs.Bounds.{rows_few, rows_most, witness_most}
use Rattle.totals.proofs.Reported.{names_written, cleared_again}
use Rattle.totals.proofs.Loops.{Left, left_all, all_passed, left_length, left_cut, left_end, left_more, more_passed, first_length, behind_length}
use Rattle.totals.proofs.Tallied.{tally_file, room_box, room_less, room_more}

-- ---- a file, judged with a clear report

module _ (f report wit : List ℕ) (h : 32768 ≤ length report) (g : 520 ≤ length wit) (z : report ≡ replicate (length report) 0) where
  enough : (judged f report wit ≡ decided_file f) × (report_after f report wit ≡ over (row_bytes (rows_of_file f)) report)
  enough = judged_enough f report wit (let r = rows_most f in omega arith) (λ D e. let w = witness_most f D e in omega arith)

  module _ {q : Judgement} (a : q ≡ judgement_of (judged f report wit)) where
    pub number_is : q.number ≡ (decided_file f).number
    number_is = ap (λ (j : Judgement). j.number) a ∙ ap (λ (x : Answer). x.number) enough.0

    pub number_below : q.number < 71
    number_below = let e = number_is in let r = (file_range f).1 in omega arith

  module _ {after : List ℕ} (e : after ≡ report_after f report wit) where
    written : after ≡ over (row_bytes (rows_of_file f)) (replicate (length report) 0)
    written = e ∙ enough.1 ∙ ap (over (row_bytes (rows_of_file f))) z

    names_are : names_in after ≡ map (λ (r : Row). name_number r.name) (rows_of_file f)
    names_are = ap names_in written ∙ names_written (rows_of_file f) (length report)

    names_length : length (names_in after) ≡ length (rows_of_file f)
    names_length = ap length names_are ∙ length-map (rows_of_file f) (λ (r : Row). name_number r.name)

    pub names_few : length (names_in after) ≤ length f
    names_few = let l = names_length in let r = rows_few f in omega arith

    pub names_known : (k : ℕ) → In k (names_in after) → k ≤ 7
    names_known k m =
        let r = Memᴰ.of_map (λ (r : Row). name_number r.name) (rows_of_file f) (subst (In k) names_are m) in
        let x = r.2 in
        let b = (name_range r.0.name).1 in omega arith

    module _ {end : ℕ} (n : end ≡ 4 * length (names_in after)) where
      pub end_within : end ≤ length report
      end_within = let l = names_length in let r = rows_most f in omega arith

      pub cleared : over (replicate end 0) after ≡ replicate (length report) 0
      cleared = ap (over (replicate end 0)) written ∙ cleared_again (rows_of_file f) (length report) end (let l = names_length in omega arith) end_within

      -- as a fill of the first bytes leaves the report
      pub filled : length after ≡ length report → {part : List ℕ} → part ≡ replicate (length (take end after)) 0 → part ++ drop end after ≡ replicate (length report) 0
      unfolding over
      filled s {part} f =
          ap (λ (p : List ℕ). p ++ drop end after) (f ∙ ap (λ (k : ℕ). replicate k 0) (length-take-le end after (let h = end_within in omega arith)))
          ∙ ap (λ (k : ℕ). replicate end 0 ++ drop k after) (sym (length-replicate end 0))
          ∙ cleared

    pub names_room : {q : Judgement} → q ≡ judgement_of (judged f report wit) → (counts : List ℕ) {counts₁ : List ℕ} → length counts ≡ 71 → counts₁ ≡ one_more counts q.number
        → Room counts (1 + length f) → Room counts₁ (length (names_in after))
    names_room {q} a counts {counts₁} s i R =
        let b = number_below {q = q} a in
        let k = names_few in
        subst (λ (l : List ℕ). Room l (length (names_in after))) (sym i)
        (room_more counts q.number (length (names_in after)) (omega arith) (room_less counts (1 + length f) (1 + length (names_in after)) (omega arith) R))

    pub marks_counted : {q : Judgement} → q ≡ judgement_of (judged f report wit) → (counts counts₁ counts₂ : List ℕ) → counts₁ ≡ one_more counts q.number
        → counts₂ ≡ one_more_each counts₁ (map name_mark (names_in after)) → counts₂ ≡ one_more_each counts (marks_of f)
    unfolding marks_of
    marks_counted {q} a counts counts₁ counts₂ i j =
        j ∙ ap₂ one_more_each (i ∙ ap (one_more counts) (number_is {q = q} a)) (ap (map name_mark) names_are ∙ map_twice (rows_of_file f))
      where
        map_twice : (rs : List Row) → map name_mark (map (λ (r : Row). name_number r.name) rs) ≡ map (λ (r : Row). name_mark (name_number r.name)) rs
        map_twice [] = refl
        map_twice (r ∷ rs) = ap (λ (l : List ℕ). name_mark (name_number r.name) ∷ l) (map_twice rs)

-- ---- the files of a whole box

-- the files before what is left are counted, and the report is clear
pub record Walked (b report₀ wit₀ rest report wit counts : List ℕ) : Type 0 where
  pub place : Left b rest
  pub counted : counts ≡ totals place.place.passed
  pub clear : report ≡ replicate (length report) 0
  pub rows : length report ≡ length report₀
  pub facts : length wit ≡ length wit₀

module _ {b report₀ wit₀ rest report wit counts : List ℕ} (W : Walked b report₀ wit₀ rest report wit counts) where
  -- no file is in front
  pub walked_end : opened b ≡ files (files_in b) → whole_file rest ≡ false → counts ≡ totals (files_in b)
  unfolding files_in
  walked_end whole w = W.counted ∙ ap totals (sym (ap files_of (left_end W.place none)))
    where
      apart : {fs : List (List ℕ)} {n : ℕ} → files fs ≡ cut_at n → ⊥
      apart e = let y : ◌≡◌ {A = ℕ} 0 1 = cc in omega arith

      none : length rest ≡ 0
      none = go (bool_cases (ltb 0 (length rest)))
        where
          go : (ltb 0 (length rest) ≡ true) ⊎ (ltb 0 (length rest) ≡ false) → length rest ≡ 0
          go (inl t) = absurd (apart (sym whole ∙ left_cut W.place (ltb-true 0 (length rest) t) w))
          go (inr f) = let l = ltb-false 0 (length rest) f in omega arith

  module _ (w : whole_file rest ≡ true) {file : List ℕ} (f : file ≡ first_file rest) where
    pub file_room : length b < 18446744073709551616 → Room counts (1 + length file)
    file_room fits =
        let l = ap length f ∙ first_length rest w in
        let e = behind_length rest w in
        let p = left_length W.place in
        let t = length-take-le W.place.at b W.place.place.within in
        subst (λ (c : List ℕ). Room c (1 + length file)) (sym W.counted)
        (room_box (take W.place.at b) W.place.place.passed (1 + length file) W.place.place.whole (omega arith))

    pub walked_more : {behind report₁ wit₁ counts₁ : List ℕ} → behind ≡ behind_file rest → counts₁ ≡ one_more_each counts (marks_of file)
        → report₁ ≡ replicate (length report) 0 → length report₁ ≡ length report → length wit₁ ≡ length wit
        → Walked b report₀ wit₀ behind report₁ wit₁ counts₁
    walked_more e c q m n =
        record {
          place = left_more W.place w e;
          counted = c ∙ ap₂ (λ (t p : List ℕ). one_more_each t (marks_of p)) W.counted f ∙ tally_file W.place.place.passed (first_file rest)
              ∙ sym (ap totals (more_passed W.place w e));
          clear = q ∙ ap (λ (k : ℕ). replicate k 0) (sym m);
          rows = m ∙ W.rows;
          facts = n ∙ W.facts;
        }

pub walked_none : (b report wit counts : List ℕ) → counts ≡ replicate 71 0 → report ≡ replicate (length report) 0 → Walked b report wit b report wit counts
unfolding totals
walked_none b report wit counts c q =
    record { place = left_all b; counted = c ∙ sym (ap totals (all_passed b)); clear = q; rows = refl; facts = refl }
