-- Judging a file: the answer, and what the lent report and witness hold afterwards. Assumes nothing.
use Rattle.std.specs.Prelude.{Bool, ◌&&◌, ◌||◌, cond, List, [], ◌∷◌, ◌++◌, map, ℕ, ◌-◌, ◌*◌, ltb, leb, length, replicate}
use Rattle.std.proofs.Math.Option.{Option, none, some}
use Rattle.records.specs.Memory.{over}
use Rattle.literals.specs.declared.Object.{Object}
use Rattle.literals.specs.Domain.{Fact, Domain}
use Rattle.literals.specs.Decode.{max_arguments, Refusal, Decoded, refused, domain, decode}
use Rattle.literals.specs.Matching.{moment_number}
use Rattle.classes.specs.Classes.{name_number}
use Rattle.verdict.specs.Decision.{Row, rows, decision, witness, is_shown}

-- ---- bytes

-- "per moment 4 bytes (action, class, moment, name number 1 to 7)"
unfoldable pub row_bytes : List Row → List ℕ
row_bytes [] = []
row_bytes (r ∷ rs) = r.action ∷ r.class ∷ moment_number r.moment ∷ name_number r.name ∷ row_bytes rs

abbrev pub object_numbers : List Object → List ℕ
object_numbers os = map (λ (o : Object). o.0) os

-- "8 bytes a fact (relation, arity, arguments, FF to fill)"
unfoldable pub fact_bytes : List Fact → List ℕ
fact_bytes [] = []
fact_bytes (f ∷ fs) =
    f.rel ∷ length f.args ∷ (object_numbers f.args ++ (replicate (max_arguments - length f.args) 255 ++ fact_bytes fs))

-- ---- the answer: a number and three places

pub record Answer : Type 0 where
  pub number : ℕ
  pub first : ℕ
  pub second : ℕ
  pub third : ℕ

-- "unused places are 0"
abbrev pub answer_at : ℕ → ℕ → Answer
answer_at n at = record { number = n; first = at; second = 0; third = 0 }

-- "9 to 23 (and 26, 27) .. give the record's offset as first place"
abbrev pub answer_refusal : Refusal → Answer
answer_refusal r = answer_at r.number r.place

-- "40 to 43 action, class, moment"
abbrev pub answer_row : ℕ → Option Row → Answer
answer_row n none = answer_at n 0
answer_row n (some r) = record { number = n; first = r.action; second = r.class; third = moment_number r.moment }

-- the decision's number and places
unfoldable pub decided : Domain → Answer
unfolding decision
decided D = answer_row (decision D).number (decision D).place

abbrev pub decided_by : Decoded → Answer
decided_by (refused r) = answer_refusal r
decided_by (domain D) = decided D

-- "decided as above for the file alone, whatever memory is lent"; 9 to 27 for a file that isn't well-formed
unfoldable pub decided_file : List ℕ → Answer
unfolding decode decided
decided_file f = decided_by (decode f)

-- ---- with lent memory

-- "40 to 42 write a witness", but for an end whose class has an over-all literal
unfoldable pub writes_witness : Domain → ℕ → Bool
unfolding is_shown
writes_witness D n = leb 40 n && leb n 42 && is_shown D

-- "30 report under 4 bytes a moment; then 40 to 43 decided; 31 witness under 8 bytes a fact", which isn't tested where none is written
unfoldable pub judged_domain : Domain → List ℕ → List ℕ → Answer
unfolding rows decided witness writes_witness
judged_domain D report wit =
    cond (ltb (length report) (4 * length (rows D))) (answer_at 30 0)
    (cond (writes_witness D (decided D).number && ltb (length wit) (8 * length (witness D))) (answer_at 31 0)
    (decided D))

abbrev pub judged_by : Decoded → List ℕ → List ℕ → Answer
judged_by (refused r) report wit = answer_refusal r
judged_by (domain D) report wit = judged_domain D report wit

-- "judging answers this decision unless 30 or 31 comes in its place": of a file, a lent report and a lent witness
unfoldable pub judged : List ℕ → List ℕ → List ℕ → Answer
unfolding decode judged_domain
judged f report wit = judged_by (decode f) report wit

-- "9 to 31 .. leave lent memory untouched": the numbers that don't are 0, 1 and 40 to 43
abbrev pub fills_report : ℕ → Bool
fills_report n = leb n 1 || leb 40 n

abbrev pub report_by : Decoded → List ℕ → List ℕ → List ℕ
report_by (refused r) report wit = report
report_by (domain D) report wit = cond (fills_report (judged_domain D report wit).number) (over (row_bytes (rows D)) report) report

-- the report afterwards: "40 to 42 fill report and witness, 0, 1 and 43 the report only; bytes beyond are untouched"
unfoldable pub report_after : List ℕ → List ℕ → List ℕ → List ℕ
unfolding decode judged_domain row_bytes rows over
report_after f report wit = report_by (decode f) report wit

abbrev pub witness_memory_by : Decoded → List ℕ → List ℕ → List ℕ
witness_memory_by (refused r) report wit = wit
witness_memory_by (domain D) report wit = cond (writes_witness D (judged_domain D report wit).number) (over (fact_bytes (witness D)) wit) wit

-- the witness memory afterwards
unfoldable pub witness_after : List ℕ → List ℕ → List ℕ → List ℕ
unfolding decode judged_domain fact_bytes witness writes_witness over
witness_after f report wit = witness_memory_by (decode f) report wit
