-- The samples' vocabulary: files written record by record, lent memory, and all that a call leaves. Assumes nothing.
use Rattle.std.specs.Prelude.{List, [], ◌∷◌, ◌++◌, ℕ, zero, suc, ◌-◌, length, replicate}
use Rattle.records.specs.Memory.{over}
use Rattle.verdict.specs.Judged.{Answer, judged, report_after, witness_after}
use Rattle.run_semantics.specs.Play.{Played, Returned, of_run, played, work_after, returned, returned_bytes}

-- ---- records: "payload length (2 bytes, little-endian), kind (2 bytes), payload"

abbrev pub FF : ℕ
FF = 255

-- of a kind below 256 and fewer than 256 bytes
abbrev pub rec : ℕ → List ℕ → List ℕ
rec kind payload = length payload ∷ 0 ∷ kind ∷ 0 ∷ payload

-- the first n of a row of records
abbrev pub each : ℕ → (ℕ → List ℕ) → List ℕ
each zero f = []
each (suc n) f = each n f ++ f n

-- ---- the domain file. An atom is a relation and its arguments: variables in a literal, labels in a component, objects in a fact

abbrev pub relation : ℕ → List ℕ
relation arity = rec 1 (arity ∷ [])

-- an action at once, of so many variables
abbrev pub at_once : ℕ → List ℕ
at_once variables = rec 2 (variables ∷ 0 ∷ [])

abbrev pub lasting : ℕ → List ℕ
lasting variables = rec 2 (variables ∷ 1 ∷ [])

-- a literal by its role byte
abbrev pub literal : ℕ → List ℕ → List ℕ
literal role atom = rec 3 (role ∷ atom)

-- "0 true condition, 1 false condition, 2 add, 3 delete (at once, or at the start)"
abbrev pub holds : List ℕ → List ℕ
holds = literal 0

abbrev pub lacks : List ℕ → List ℕ
lacks = literal 1

abbrev pub adds : List ℕ → List ℕ
adds = literal 2

abbrev pub deletes : List ℕ → List ℕ
deletes = literal 3

-- "4 and 5 true and false over all"
abbrev pub holds_over_all : List ℕ → List ℕ
holds_over_all = literal 4

abbrev pub lacks_over_all : List ℕ → List ℕ
lacks_over_all = literal 5

-- "6 to 9 the same as 0 to 3, at the end"
abbrev pub holds_at_end : List ℕ → List ℕ
holds_at_end = literal 6

abbrev pub lacks_at_end : List ℕ → List ℕ
lacks_at_end = literal 7

abbrev pub adds_at_end : List ℕ → List ℕ
adds_at_end = literal 8

abbrev pub deletes_at_end : List ℕ → List ℕ
deletes_at_end = literal 9

abbrev pub component : List ℕ → List ℕ
component = rec 4

abbrev pub closing : List ℕ
closing = rec 5 []

-- ---- the run file

abbrev pub objects : ℕ → List ℕ
objects count = rec 16 (count ∷ [])

-- a start fact
abbrev pub fact : List ℕ → List ℕ
fact = rec 17

-- moment, action, objects
abbrev pub event : ℕ → ℕ → List ℕ → List ℕ
event moment action bound = rec 18 (moment ∷ action ∷ bound)

abbrev pub close_step : List ℕ
close_step = rec 19 []

abbrev pub close_run : List ℕ
close_run = rec 20 []

-- ---- lent memory, and what calls write to it

-- each byte is 9 before a call
abbrev pub lent : ℕ → List ℕ
lent n = replicate n 9

-- a row of the report: action, class, moment, name number
abbrev pub row : ℕ → ℕ → ℕ → ℕ → List ℕ
row action class moment name = action ∷ class ∷ moment ∷ name ∷ []

-- the name numbers, 1 to 7
abbrev pub unreachable : ℕ
unreachable = 1

abbrev pub irrelevant : ℕ
irrelevant = 2

abbrev pub heavy : ℕ
heavy = 3

abbrev pub balanced : ℕ
balanced = 4

abbrev pub unbalanced : ℕ
unbalanced = 5

abbrev pub bounded : ℕ
bounded = 6

abbrev pub unbounded : ℕ
unbounded = 7

-- "8 bytes a fact (relation, arity, arguments, FF to fill)"
abbrev pub held : List ℕ → List ℕ
held [] = []
held (rel ∷ args) = rel ∷ length args ∷ (args ++ replicate (6 - length args) FF)

-- ---- judging: the answer, and both lent memories afterwards

pub record AfterJudging : Type 0 where
  pub answer : Answer
  pub report : List ℕ
  pub witness : List ℕ

-- of a file, a lent report and a lent witness
abbrev pub judging : List ℕ → List ℕ → List ℕ → AfterJudging
judging f report wit =
    record { answer = judged f report wit; report = report_after f report wit; witness = witness_after f report wit }

-- a number with its three places, and the memories
abbrev pub leaves : ℕ → ℕ → ℕ → ℕ → List ℕ → List ℕ → AfterJudging
leaves n first second third report wit =
    record { answer = record { number = n; first = first; second = second; third = third }; report = report; witness = wit }

-- 24 bytes of each memory are lent
abbrev pub judge : List ℕ → AfterJudging
judge f = judging f (lent 24) (lent 24)

-- those bytes are written, and the rest of 24 is untouched
abbrev pub written : List ℕ → List ℕ
written b = b ++ lent (24 - length b)

-- 0, 1 and 40 to 43: a number with its three places, the report's rows and the witness's facts
abbrev pub answers : ℕ → ℕ → ℕ → ℕ → List ℕ → List ℕ → AfterJudging
answers n action class moment rows facts = leaves n action class moment (written rows) (written facts)

-- 9 to 27: a number with the offset of the record, or of the label, at fault, and nothing is written
abbrev pub refuses : ℕ → ℕ → AfterJudging
refuses n offset = leaves n offset 0 0 (lent 24) (lent 24)

-- ---- playing: the answer, the work memory afterwards, and the part that comes back with its bytes

pub record AfterPlaying : Type 0 where
  pub answer : Played
  pub memory : List ℕ
  pub part : Returned
  pub bytes : List ℕ

-- of a domain file, a run file and a lent work memory
abbrev pub playing : List ℕ → List ℕ → List ℕ → AfterPlaying
playing d r work =
    record {
      answer = played d r work;
      memory = work_after d r work;
      part = returned d r work;
      bytes = returned_bytes d r (returned d r work);
    }

-- 8,200 bytes of work memory are lent
abbrev pub play : List ℕ → List ℕ → AfterPlaying
play d r = playing d r (lent 8200)

-- n bytes: these, and zeros after them
abbrev pub zeroed : ℕ → List ℕ → List ℕ
zeroed n [] = replicate n 0
zeroed n (b ∷ bs) = b ∷ zeroed (n - 1) bs

-- the facts, zeros up to 8,192 bytes, and the rest of 8,200 is untouched
abbrev pub worked : List ℕ → List ℕ
worked facts = over (zeroed 8192 facts) (lent 8200)

-- number, first place, steps, weight
abbrev pub reply : ℕ → ℕ → ℕ → ℕ → Played
reply n first steps weight = record { number = n; first = first; steps = steps; weight = weight }

-- 2: steps and weight, the facts, and the run file's length, at which its empty end stands
abbrev pub plays : ℕ → ℕ → List ℕ → ℕ → AfterPlaying
plays steps weight facts end = record { answer = reply 2 0 steps weight; memory = worked facts; part = of_run end; bytes = [] }

-- 50 to 57: a number with the record's offset, steps and weight, the facts, and the run file from that record on
abbrev pub stops : ℕ → ℕ → ℕ → ℕ → List ℕ → List ℕ → AfterPlaying
stops n offset steps weight facts rest =
    record { answer = reply n offset steps weight; memory = worked facts; part = of_run offset; bytes = rest }
