-- "Figures for a whole term": a box of domain files, and how many met each number and how many moments had each name. Assumes nothing.
use Rattle.std.specs.Prelude.{Bool, true, false, ◌&&◌, cond, ℕ, zero, suc, ◌+◌, ◌-◌, ◌*◌, ◌/◌, ◌%◌, eqb, ltb, leb, length, take, drop}
use mathlib.Core.List.{List, [], ◌∷◌, ◌++◌, map, flat_map}
use Rattle.records.specs.Lists.{count_by, numbers_from}
use Rattle.records.specs.Memory.{over}
use Rattle.records.specs.Record.{word}
use Rattle.literals.specs.Decode.{Decoded, refused, domain, decode}
use Rattle.classes.specs.Classes.{name_number}
use Rattle.verdict.specs.Decision.{Row, rows}
use Rattle.verdict.specs.Judged.{Answer, answer_at, decided_file}

-- ---- the box: "a row of files, each preceded by its length in 4 bytes, little-endian"

-- the length in the first four bytes
unfoldable pub long : List ℕ → ℕ
unfolding word
long b = word b 0 + word b 2 * 65536

-- a length and its file stand whole at the front
unfoldable pub whole_file : List ℕ → Bool
unfolding long
whole_file b = leb 4 (length b) && leb (long b) (length b - 4)

-- that file, and what is behind it
unfoldable pub first_file : List ℕ → List ℕ
unfolding long
first_file b = take (long b) (drop 4 b)

unfoldable pub behind_file : List ℕ → List ℕ
unfolding long
behind_file b = drop (4 + long b) b

-- the files, or the offset of the length that is cut short itself or whose file is
pub data Opened : Type 0 where
  cut_at : ℕ → Opened
  files : List (List ℕ) → Opened

abbrev pub with_file : List ℕ → Opened → Opened
with_file f (cut_at at) = cut_at at
with_file f (files fs) = files (f ∷ fs)

-- of what is left of a box from an offset on. More fuel than its length changes nothing: `more_fuel` of proofs/Joining
unfoldable pub open_from : ℕ → ℕ → List ℕ → Opened
unfolding whole_file first_file behind_file
open_from zero at b = cut_at at
open_from (suc fuel) at [] = files []
open_from (suc fuel) at (x ∷ xs) =
    elim (whole_file (x ∷ xs)) [
      | true ↦ with_file (first_file (x ∷ xs))
          (open_from fuel (at + 4 + long (x ∷ xs)) (behind_file (x ∷ xs)))
      | false ↦ cut_at at
    ]

unfoldable pub opened : List ℕ → Opened
unfolding open_from
opened b = open_from (suc (length b)) 0 b

-- ---- the totals

-- "A file refused before judging is counted under its number and its moments are not."
abbrev pub rows_of_decoded : Decoded → List Row
rows_of_decoded (refused r) = []
rows_of_decoded (domain D) = rows D

unfoldable pub rows_of_file : List ℕ → List Row
unfolding decode rows
rows_of_file f = rows_of_decoded (decode f)

-- how many files met this number: "Each file is judged as if with memory enough"
abbrev pub files_with : ℕ → List (List ℕ) → ℕ
files_with n fs = count_by (λ f. eqb n (decided_file f).number) fs

-- the rows of all files
unfoldable pub all_rows : List (List ℕ) → List Row
unfolding rows_of_file flat_map
all_rows fs = flat_map rows_of_file fs

-- how many moments had the name of this number
abbrev pub moments_with : ℕ → List (List ℕ) → ℕ
moments_with k fs = count_by (λ (r : Row). eqb k (name_number r.name)) (all_rows fs)

-- "numbers 0 to 63, then the seven names": how many numbers, how many names, and of all
abbrev pub counted_numbers : ℕ
counted_numbers = 64

abbrev pub counted_names : ℕ
counted_names = 7

abbrev pub total_count : ℕ
total_count = counted_numbers + counted_names

-- the place of a name's total: the names, of which the first is 1, stand behind the numbers
abbrev pub name_mark : ℕ → ℕ
name_mark k = (counted_numbers - 1) + k

unfoldable pub totals : List (List ℕ) → List ℕ
unfolding decided_file all_rows
totals fs = map (λ n. files_with n fs) (numbers_from 0 counted_numbers) ++ map (λ k. moments_with k fs) (numbers_from 1 counted_names)

-- ---- the bytes: "Totals are 8 bytes, little-endian"

-- the k lowest bytes of a number
abbrev pub low_bytes : ℕ → ℕ → List ℕ
low_bytes zero n = []
low_bytes (suc k) n = n % 256 ∷ low_bytes k (n / 256)

unfoldable pub total_bytes : List ℕ → List ℕ
unfolding flat_map
total_bytes ts = flat_map (low_bytes 8) ts

-- the bytes of all totals: 568
abbrev pub totals_size : ℕ
totals_size = 8 * total_count

-- "under 568 bytes gives 30, after 33"; "33 .. with the offset of that length"
abbrev pub totalled_by : Opened → List ℕ → Answer
totalled_by (cut_at at) out = answer_at 33 at
totalled_by (files fs) out = cond (ltb (length out) totals_size) (answer_at 30 0) (answer_at 0 totals_size)

-- the answer to a box with lent memory
unfoldable pub totalled : List ℕ → List ℕ → Answer
unfolding opened
totalled b out = totalled_by (opened b) out

abbrev pub totals_memory_by : Opened → List ℕ → List ℕ
totals_memory_by (cut_at at) out = out
totals_memory_by (files fs) out = cond (ltb (length out) totals_size) out (over (total_bytes (totals fs)) out)

-- the memory afterwards
unfoldable pub totals_after : List ℕ → List ℕ → List ℕ
unfolding opened total_bytes totals over
totals_after b out = totals_memory_by (opened b) out
