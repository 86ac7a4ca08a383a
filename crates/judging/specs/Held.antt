-- What judging leaves, and where writing the report stands. Assumes nothing.
use Rattle.std.specs.Prelude.{◌≡◌, List, ◌++◌, ℕ, ◌*◌, ◌≤◌, length}
use Rattle.records.specs.Memory.{over}
use Rattle.literals.specs.Decode.{Decoded}
use Rattle.verdict.specs.declared.Judgement.{Judgement}
use Rattle.verdict.specs.Decision.{Row}
use Rattle.verdict.specs.Judged.{row_bytes, judged_by, report_by, witness_memory_by}
use Rattle.verdict.specs.Held.{judgement_of}
use Rattle.naming.specs.Held.{name_bytes}

-- of a file that reads as d: the answer, the report and the witness afterwards
pub record JudgedAs (d : Decoded) (report wit : List ℕ) (r : Judgement) (report₁ wit₁ : List ℕ) : Type 0 where
  pub answer : r ≡ judgement_of (judged_by d report wit)
  pub reported : report₁ ≡ report_by d report wit
  pub witnessed : wit₁ ≡ witness_memory_by d report wit

-- where reporting stands: the rows rs are written, the rest is still to come, and the names of both are given
pub record Reporting (rs rest : List Row) (at : ℕ) (report names old given : List ℕ) : Type 0 where
  pub written : at ≡ length rs
  pub bytes : report ≡ over (row_bytes rs) old
  pub named : names ≡ over (name_bytes (rs ++ rest)) given
  pub room : 4 * length (rs ++ rest) ≤ length old
