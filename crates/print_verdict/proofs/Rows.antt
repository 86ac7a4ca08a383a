-- The rows of a report, printed one by one, and the whole listing. Assumes nothing.
use Rattle.std.proofs.Common.{◌≡◌, ℕ, List, [], ◌∷◌, ◌++◌, ◌<◌, length, Option, Some, None, Result, Ok, Err, OnOk, refl, sym, ap, ap₂, subst, ◌∙◌, append_assoc, arith, if◌then◌else◌, ◌==◌, Bool}
use borrow.Author.Tests.{ne_eqb}
use Rattle.std.specs.Io.KnownBytes.{Appends}
use Rattle.literals.specs.Decode.{byte}
use Rattle.verdict.specs.declared.Judgement.{Judgement}
use Rattle.verdict.specs.Judged.{judged, report_after}
use Rattle.verdict.specs.Held.{judgement_of}
use Rattle.print_verdict.specs.Lines.{row_line, row_lines, verdict_line}

-- what is printed so far, and what the rest will add
pub record Printed (old new : Option (List ℕ)) (rest all : List ℕ) : Type 0 where
  pub text : List ℕ
  pub appended : Appends old new text
  pub whole : text ++ rest ≡ all

-- a row in front
pub row_more : (row report : List ℕ) → length row ≡ 4 → row_lines (row ++ report) ≡ (if byte row 3 == 255 then [] else (row_line row ++ row_lines report))
row_more (a ∷ m ∷ c ∷ n ∷ []) report h = refl
row_more (a ∷ m ∷ c ∷ n ∷ x ∷ xs) report h = absurd (omega arith)
row_more (a ∷ m ∷ c ∷ []) report h = absurd (omega arith)
row_more (a ∷ m ∷ []) report h = absurd (omega arith)
row_more (a ∷ []) report h = absurd (omega arith)
row_more [] report h = absurd (omega arith)

-- less than a row
pub row_none : (report : List ℕ) → length report < 4 → row_lines report ≡ []
row_none (a ∷ m ∷ c ∷ n ∷ xs) h = absurd (omega arith)
row_none (a ∷ m ∷ c ∷ []) h = refl
row_none (a ∷ m ∷ []) h = refl
row_none (a ∷ []) h = refl
row_none [] h = refl

-- one text behind another
appends_more : (old mid new : Option (List ℕ)) (t u : List ℕ) → Appends old mid t → Appends mid new u → Appends old new (t ++ u)
appends_more None mid new t u a b = tt
appends_more (Some xs) None new t u a b = absurd a
appends_more (Some xs) (Some ys) None t u a b = absurd b
appends_more (Some xs) (Some ys) (Some zs) t u a b = b ∙ ap (λ (l : List ℕ). l ++ u) a ∙ append_assoc xs t u

-- a row is printed
pub printed_more : (old mid new : Option (List ℕ)) (all rest row next : List ℕ) → Printed old mid (row_lines rest) all → rest ≡ row ++ next → length row ≡ 4
    → (byte row 3 ≡ 255 → ⊥) → Appends mid new (row_line row) → Printed old new (row_lines next) all
printed_more old mid new all rest row next P e h filled a =
    record {
      text = P.text ++ row_line row;
      appended = appends_more old mid new P.text (row_line row) P.appended a;
      whole =
          append_assoc P.text (row_line row) (row_lines next)
          ∙ ap (λ (l : List ℕ). P.text ++ l)
          (sym (ap row_lines e ∙ row_more row next h ∙ ap (λ (b : Bool). if b then [] else (row_line row ++ row_lines next)) (ne_eqb (byte row 3) 255 filled)))
          ∙ P.whole;
    }

-- ---- the listing: the verdict line, and the rows behind it

pub rows_behind : {A E : Type 0} (r : Result A E) (old mid new : Option (List ℕ)) (t u w : List ℕ) → Appends old mid t → OnOk r (Appends mid new u) → t ++ u ≡ w
    → OnOk r (Appends old new w)
rows_behind (Ok x) old mid new t u w a b e = subst (Appends old new) e (appends_more old mid new t u a b)
rows_behind (Err x) old mid new t u w a b e = tt

pub listed : (file report witness filled : List ℕ) (v : Judgement) → v ≡ judgement_of (judged file report witness) → filled ≡ report_after file report witness
    → verdict_line (record { number = v.number; first = v.first; second = v.second; third = v.third }) ++ row_lines filled
    ≡ verdict_line (judged file report witness) ++ row_lines (report_after file report witness)
listed file report witness filled v e f =
    ap₂ (λ (j : Judgement) (r : List ℕ). verdict_line (record { number = j.number; first = j.first; second = j.second; third = j.third }) ++ row_lines r) e f
