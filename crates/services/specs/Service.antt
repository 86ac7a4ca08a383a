-- A service on one file that writes bytes to lent memory. Assumes nothing.
use Rattle.std.specs.Prelude.{◌≡◌, cond, List, ℕ, ltb, length}
use Rattle.records.specs.Memory.{over}
use Rattle.literals.specs.Domain.{Domain}
use Rattle.literals.specs.Decode.{Decoded, refused, domain, decode}
use Rattle.verdict.specs.Judged.{Answer, answer_at, answer_refusal}

-- ---- once the bytes are made

-- "A list buffer too short for the whole gives 30"; "a new service, once done, answers 0 with the number of bytes written as first place"
abbrev pub delivered : List ℕ → List ℕ → Answer
delivered bytes out = cond (ltb (length out) (length bytes)) (answer_at 30 0) (answer_at 0 (length bytes))

-- the memory afterwards: short memory "is untouched", and so are bytes beyond
abbrev pub delivered_to : List ℕ → List ℕ → List ℕ
delivered_to bytes out = cond (ltb (length out) (length bytes)) out (over bytes out)

-- the number, the first place and the memory afterwards are these
pub record DeliveredAs (bytes out : List ℕ) (number first : ℕ) (after : List ℕ) : Type 0 where
  pub numbered : number ≡ (delivered bytes out).number
  pub placed : first ≡ (delivered bytes out).first
  pub memory : after ≡ delivered_to bytes out

-- ---- on a file: "every later service on one file gives that file's refusal first"

-- of what it writes for a domain
module _ (bytes_of : Domain → List ℕ) where
  abbrev pub served_by : Decoded → List ℕ → Answer
  served_by (refused r) out = answer_refusal r
  served_by (domain D) out = delivered (bytes_of D) out

  -- the answer to a file, with lent memory
  unfoldable pub served : List ℕ → List ℕ → Answer
  unfolding decode
  served f out = served_by (decode f) out

  abbrev pub served_memory_by : Decoded → List ℕ → List ℕ
  served_memory_by (refused r) out = out
  served_memory_by (domain D) out = delivered_to (bytes_of D) out

  -- the memory afterwards
  unfoldable pub served_after : List ℕ → List ℕ → List ℕ
  unfolding decode over
  served_after f out = served_memory_by (decode f) out

  -- the number, the first place and the memory afterwards are these
  pub record ServedAs (f out : List ℕ) (number first : ℕ) (after : List ℕ) : Type 0 where
    pub numbered : number ≡ (served f out).number
    pub placed : first ≡ (served f out).first
    pub memory : after ≡ served_after f out
