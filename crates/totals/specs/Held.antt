-- How the code holds a box and its totals: what opening a box answers, and totals that are counted one by one. Assumes nothing.
use Rattle.std.specs.Prelude.{Result, Ok, Err, ⊤, List, [], ◌∷◌, map, ℕ, zero, suc, ◌+◌, ◌*◌, ◌<◌, get_or, set}
use Rattle.literals.specs.Decode.{max_actions, max_literals}
use Rattle.classes.specs.Classes.{name_number}
use Rattle.verdict.specs.Decision.{Row}
use Rattle.verdict.specs.Judged.{Answer, answer_at, decided_file}
use Rattle.totals.specs.declared.Uncounted.{Uncounted}
use Rattle.totals.specs.declared.Uncounted.TheVariants.{Cut, Short}
use Rattle.totals.specs.Totals.{Opened, cut_at, files, opened, rows_of_file, name_mark, totals_size}

-- ---- the box

abbrev pub opening_of : Opened → Result ⊤ Uncounted
opening_of (cut_at at) = Err (Cut at)
opening_of (files fs) = Ok tt

-- the answer to a box that is not counted, and to any
abbrev pub uncounted : Uncounted → Answer
uncounted (Cut at) = answer_at 33 at
uncounted Short = answer_at 30 0

abbrev pub answer_to : Result ⊤ Uncounted → Answer
answer_to (Ok u) = answer_at 0 totals_size
answer_to (Err e) = uncounted e

abbrev pub files_of : Opened → List (List ℕ)
files_of (cut_at at) = []
files_of (files fs) = fs

-- the files of a box that is whole
unfoldable pub files_in : List ℕ → List (List ℕ)
unfolding opened
files_in b = files_of (opened b)

-- ---- the totals, one by one

-- the total at a place is one higher
abbrev pub one_more : List ℕ → ℕ → List ℕ
one_more ts n = set ts n (get_or ts n 0 + 1)

-- each of these places once
abbrev pub one_more_each : List ℕ → List ℕ → List ℕ
one_more_each ts [] = ts
one_more_each ts (n ∷ ns) = one_more_each (one_more ts n) ns

-- the places of a file: its number's, and one for each moment
unfoldable pub marks_of : List ℕ → List ℕ
unfolding decided_file rows_of_file
marks_of f = (decided_file f).number ∷ map (λ (r : Row). name_mark (name_number r.name)) (rows_of_file f)

-- so many more fit into 64 bits
abbrev pub Room : List ℕ → ℕ → Type 0
Room ts k = (n : ℕ) → get_or ts n 0 + k < 18446744073709551616

-- the names in a report, up to the first row without a name
unfoldable pub names_in : List ℕ → List ℕ
names_in [] = []
names_in (a ∷ []) = []
names_in (a ∷ c ∷ []) = []
names_in (a ∷ c ∷ m ∷ []) = []
names_in (a ∷ c ∷ m ∷ zero ∷ l) = []
names_in (a ∷ c ∷ m ∷ suc k ∷ l) = suc k ∷ names_in l

-- memory that is enough for every file: a report of 4 bytes for each moment; a witness of 8 for each true condition of an action and for
-- one fact more
abbrev pub enough_report : ℕ
enough_report = 4 * (2 * max_literals * max_actions)

abbrev pub enough_witness : ℕ
enough_witness = 8 * (max_literals + 1)
