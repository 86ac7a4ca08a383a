-- What is claimed of the totals of a box, each proved in proofs/. Assumes nothing.
use Rattle.std.specs.Prelude.{◌≡◌, ℕ, suc, ◌+◌, ◌*◌, ◌^◌, ◌≤◌, ◌<◌, length, get_or, take, drop}
use mathlib.Core.List.{List, [], ◌∷◌, ◌++◌, map, foldr}
use Rattle.records.specs.Lists.{In, numbers_from}
use Rattle.records.specs.Memory.{over}
use Rattle.literals.specs.Domain.{Domain}
use Rattle.literals.specs.Decode.{domain, decode}
use Rattle.verdict.specs.Decision.{witness}
use Rattle.verdict.specs.Judged.{row_bytes, answer_at, decided_file, judged, report_after}
use Rattle.totals.specs.Totals.{Opened, cut_at, files, opened, rows_of_file, files_with, all_rows, moments_with, totals, low_bytes}
use Rattle.totals.specs.Totals.{counted_numbers, counted_names, total_count, name_mark, totals_size, total_bytes, totalled, totals_after}

-- ---- "Every total equals a count over the list of files by definition."

abbrev pub TotalOfNumber : Type 0
TotalOfNumber = (fs : List (List ℕ)) (n : ℕ) → n < counted_numbers → get_or (totals fs) n 0 ≡ files_with n fs

-- the name numbers 1 to 7 stand behind the 64 numbers
abbrev pub TotalOfName : Type 0
TotalOfName = (fs : List (List ℕ)) (k : ℕ) → k < counted_names → get_or (totals fs) (counted_numbers + k) 0 ≡ moments_with (suc k) fs

-- "Each file is judged as if with memory enough": what judging answers, and the rows that it writes, where the report and the witness fit
abbrev pub JudgedEnough : Type 0
JudgedEnough =
    (f report wit : List ℕ) → 4 * length (rows_of_file f) ≤ length report
    → ((D : Domain) → decode f ≡ domain D → 8 * length (witness D) ≤ length wit)
    → (judged f report wit ≡ decided_file f) × (report_after f report wit ≡ over (row_bytes (rows_of_file f)) report)

abbrev pub sum : List ℕ → ℕ
sum ns = foldr ◌+◌ 0 ns

-- "The totals of verdicts and refusals together add up to the number of files."
abbrev pub NumbersAddUp : Type 0
NumbersAddUp = (fs : List (List ℕ)) → sum (take counted_numbers (totals fs)) ≡ length fs

-- and those of names to the number of moments
abbrev pub NamesAddUp : Type 0
NamesAddUp = (fs : List (List ℕ)) → sum (drop counted_numbers (totals fs)) ≡ length (all_rows fs)

-- a file's number is 0, 1, 9 to 27 or 40 to 43: "so 30 and 31 are never counted"
abbrev pub RoomNeverCounted : Type 0
RoomNeverCounted = (fs : List (List ℕ)) (n : ℕ) → 28 ≤ n → n < 40 → files_with n fs ≡ 0

-- ---- boxes joined

-- number by number
abbrev pub added : List ℕ → List ℕ → List ℕ
added [] ns = []
added (m ∷ ms) [] = []
added (m ∷ ms) (n ∷ ns) = (m + n) ∷ added ms ns

abbrev pub TotalsJoined : Type 0
TotalsJoined = (fs gs : List (List ℕ)) → totals (fs ++ gs) ≡ added (totals fs) (totals gs)

-- the files of one box before those of another, which stands k bytes further on
abbrev pub joined_boxes : ℕ → List (List ℕ) → Opened → Opened
joined_boxes k fs (cut_at at) = cut_at (k + at)
joined_boxes k fs (files gs) = files (fs ++ gs)

-- a whole box and any other, joined: their files, or the other's cut, further on
abbrev pub BoxesJoined : Type 0
BoxesJoined = (b c : List ℕ) (fs : List (List ℕ)) → opened b ≡ files fs → opened (b ++ c) ≡ joined_boxes (length b) fs (opened c)

-- ---- 8 bytes are enough: no total is above the number of the box's bytes

abbrev pub TotalsBounded : Type 0
TotalsBounded = (b : List ℕ) (fs : List (List ℕ)) → opened b ≡ files fs → (t : ℕ) → In t (totals fs) → t ≤ length b

-- the number that bytes say, lowest first
abbrev pub from_bytes : List ℕ → ℕ
from_bytes [] = 0
from_bytes (a ∷ as') = a + 256 * from_bytes as'

abbrev pub BytesSay : Type 0
BytesSay = (k n : ℕ) → n < 256 ^ k → from_bytes (low_bytes k n) ≡ n

-- ---- the answer

abbrev pub TotalledCut : Type 0
TotalledCut = (b out : List ℕ) (at : ℕ) → opened b ≡ cut_at at → (totalled b out ≡ answer_at 33 at) × (totals_after b out ≡ out)

abbrev pub TotalledShort : Type 0
TotalledShort =
    (b out : List ℕ) (fs : List (List ℕ)) → opened b ≡ files fs → length out < totals_size
    → (totalled b out ≡ answer_at 30 0) × (totals_after b out ≡ out)

abbrev pub TotalledDone : Type 0
TotalledDone =
    (b out : List ℕ) (fs : List (List ℕ)) → opened b ≡ files fs → totals_size ≤ length out
    → (totalled b out ≡ answer_at 0 totals_size) × (totals_after b out ≡ over (total_bytes (totals fs)) out)
    × (length (total_bytes (totals fs)) ≡ totals_size)

-- ---- read back from the memory

-- the number in the 8 bytes of total n
abbrev pub total_in : List ℕ → ℕ → ℕ
total_in out n = from_bytes (take 8 (drop (8 * n) out))

-- of a box of fewer than 2^64 bytes
abbrev pub TotalRead : Type 0
TotalRead =
    (b out : List ℕ) (fs : List (List ℕ)) → opened b ≡ files fs → length b < 256 ^ 8 → totals_size ≤ length out
    → (n : ℕ) → n < total_count → total_in (totals_after b out) n ≡ get_or (totals fs) n 0

-- boxes counted apart and added: what is written for two boxes joined is the sum of what is written for each
abbrev pub CountedApart : Type 0
CountedApart =
    (b c out : List ℕ) (fs gs : List (List ℕ)) → opened b ≡ files fs → opened c ≡ files gs → length (b ++ c) < 256 ^ 8
    → totals_size ≤ length out → (n : ℕ) → n < total_count
    → total_in (totals_after (b ++ c) out) n ≡ total_in (totals_after b out) n + total_in (totals_after c out) n

-- ---- of a call: the box, the number answered, and the memory afterwards

-- done: every total in the memory is the count over the files of the box
abbrev pub CountsFiles : List ℕ → ℕ → List ℕ → Type 0
CountsFiles b number after =
    (fs : List (List ℕ)) → opened b ≡ files fs → number ≡ 0
    → ((n : ℕ) → n < counted_numbers → total_in after n ≡ files_with n fs) × ((k : ℕ) → k < counted_names
    → total_in after (counted_numbers + k) ≡ moments_with (suc k) fs)

-- and they add up: those of numbers to the files, those of names to the moments of the files that were read
abbrev pub AddsUp : List ℕ → ℕ → List ℕ → Type 0
AddsUp b number after =
    (fs : List (List ℕ)) → opened b ≡ files fs → number ≡ 0
    → (sum (map (λ n. total_in after n) (numbers_from 0 counted_numbers)) ≡ length fs)
    × (sum (map (λ k. total_in after (name_mark k)) (numbers_from 1 counted_names)) ≡ length (all_rows fs))
