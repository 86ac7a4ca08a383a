-- How the code reads a domain file: what one record leads to, where reading stands, the answer. Assumes nothing.
use Rattle.std.specs.Prelude.{◌≡◌, true, false, cond, ◌⊎◌, Option, IsSomeAnd, IsNone, Result, IsOkAnd, IsErrAnd, ⊤, List, ℕ, zero, suc, ◌+◌, ◌-◌, ◌*◌, ◌≤◌, ◌<◌, eqb, ltb, length, drop}
use Rattle.std.proofs.Math.Seq.{paste}
use Rattle.records.specs.Memory.{over}
use Rattle.reading.specs.declared.Progress.{Progress}
use Rattle.reading.specs.declared.Refusal.{Refusal as FileRefusal}
use Rattle.literals.specs.declared.span.Span.{Span}
use Rattle.literals.specs.Domain.{Domain}
use Rattle.literals.specs.Decode.{max_file, max_actions, max_literals, latest, RecordKind, literal_record, stop_of, extend, Decoded, refused}
use Rattle.literals.specs.Decode.{domain, Refusal, Reading, ReadTurn, go_on, finish, read_step, no_domain, from_start}
use Rattle.literals.specs.Faults.{fault_number}
use Rattle.literals.specs.Held.{row_of, rows_in, rows_stop, all_literals, table_bytes, Filled, Held, Adds, head_bytes}

-- ---- what one record leads to

-- the domain behind a record, or the domain before it where a number stops it
unfoldable pub domain_after : Domain → RecordKind → List ℕ → Domain
unfolding stop_of extend
domain_after D k p = cond (eqb (stop_of D k p) 0) (extend D k p) D

-- of a head that holds a domain: the number that stops the record, or 0, and the head then
abbrev pub Takes : RecordKind → List ℕ → ℕ → List ℕ → List ℕ → Type 0
Takes k p n head after = (D : Domain) → Filled D head → (n ≡ stop_of D k p) × Filled (domain_after D k p) after

-- head and table hold the domain so far; behind its rows the table is as before
pub record HeldOver (old : List ℕ) (D : Domain) (head table : List ℕ) : Type 0 where
  pub filled : Filled D head
  pub rows : table ≡ over (table_bytes D) old

-- of both: the number that stops the record, or 0, and head and table then
abbrev pub TakesRow : RecordKind → List ℕ → ℕ → List ℕ → List ℕ → List ℕ → List ℕ → Type 0
TakesRow k p n head table after rows = (D : Domain) (old : List ℕ) → HeldOver old D head table → (n ≡ stop_of D k p)
    × HeldOver old (domain_after D k p) after rows

-- the rows of a span of the table
abbrev pub rows_of : Span → List ℕ → List (List ℕ)
rows_of span table = rows_in (span.to - span.from) (drop (8 * span.from) table)

-- a literal whose fields pass, beside these rows: the number that stops it, or 0; head and table are as before where one does, else they
-- have it, behind the rows
pub record Placed (span : Span) (p : List ℕ) (n : ℕ) (head table after rows : List ℕ) : Type 0 where
  pub number : n ≡ rows_stop (row_of p) (rows_of span table)
  pub stopped : (n ≡ 0 → ⊥) → (after ≡ head) × (rows ≡ table)
  pub added : n ≡ 0 → Adds literal_record p head after
  pub written : n ≡ 0 → rows ≡ paste table (8 * span.to) (row_of p) 8

-- what taking a record asks of them: where it is long enough for a literal and the latest action is not full, there is room for its row
pub record RecordReady (head table p : List ℕ) : Type 0 where
  pub sofar : Domain
  pub old : List ℕ
  pub holds : HeldOver old sofar head table
  pub room : 2 ≤ length p → length (latest sofar.actions).lits < max_literals
      → 8 * (length (all_literals sofar.actions) + 1) ≤ length table

-- ---- where reading stands

abbrev pub at_start : Progress
at_start = record { at = 0; closed = false }

-- the code stands where reading stands, and head and table hold the domain so far
pub record Standing (old : List ℕ) (q : Reading) (p : Progress) (head table : List ℕ) : Type 0 where
  pub at : p.at ≡ q.at
  pub closed : p.closed ≡ q.closed
  pub holds : HeldOver old q.sofar head table

-- what the code's refusal tells: the number with its place, and the offset of the record
abbrev pub refusal_of : FileRefusal → Refusal
refusal_of r = record { number = fault_number r.fault; place = r.place; start = r.start }

-- what a turn of reading leads to: where it stands then, or that the file is read, or its refusal; where it ends, the table has the
-- literals so far
abbrev pub ReadLeadsTo : List ℕ → Reading → ReadTurn → Result (Option Progress) FileRefusal → List ℕ → List ℕ → Type 0
ReadLeadsTo old p (go_on q) r head table = IsOkAnd r (λ o. IsSomeAnd o (λ next. Standing old q next head table))
ReadLeadsTo old p (finish (refused x)) r head table = IsErrAnd r (λ f. refusal_of f ≡ x) × (table ≡ over (table_bytes p.sofar) old)
ReadLeadsTo old p (finish (domain D)) r head table = IsOkAnd r IsNone × Held D head table × (table ≡ over (table_bytes p.sofar) old)
    × (length head ≡ head_bytes)

-- a table that is large enough for a file: for all literals that a domain can have, or for those of the file, in which a literal takes at
-- least 6 bytes, against 8 in the table
abbrev pub EnoughTable : List ℕ → List ℕ → Type 0
EnoughTable file table = (8 * (max_literals * max_actions) ≤ length table) ⊎ (4 * length file ≤ 3 * length table)

-- what a turn asks of where reading stands, of the file, of the head and of the table
pub record StepReady (p : Progress) (file head table : List ℕ) : Type 0 where
  pub reading : Reading
  pub old : List ℕ
  pub stands : Standing old reading p head table
  pub short : length file ≤ max_file
  pub enough : EnoughTable file table
  pub read : 6 * length (all_literals reading.sofar.actions) ≤ reading.at

-- ---- the answer

-- the domain that is read before reading ends, and that of a file
unfoldable pub read_until : ℕ → List ℕ → Reading → Domain
unfolding read_step
read_until zero s r = r.sofar
read_until (suc fuel) s r = elim (read_step s r) [ go_on next ↦ read_until fuel s next | finish d ↦ r.sofar ]

unfoldable pub read_of : List ℕ → Domain
unfolding read_until
read_of f = elim (ltb max_file (length f)) [ true ↦ no_domain | false ↦ read_until (suc (length f)) f from_start ]

-- the table afterwards: the literals that were read, the rest untouched
unfoldable pub table_after : List ℕ → List ℕ → List ℕ
unfolding read_of table_bytes over
table_after f table = over (table_bytes (read_of f)) table

-- 9 to 27 as the definition has it, or the domain
abbrev pub ReadAs : Decoded → Result ⊤ FileRefusal → List ℕ → List ℕ → Type 0
ReadAs (refused x) r head table = IsErrAnd r (λ f. refusal_of f ≡ x)
ReadAs (domain D) r head table = IsOkAnd r (λ u. Held D head table × (length head ≡ head_bytes))
