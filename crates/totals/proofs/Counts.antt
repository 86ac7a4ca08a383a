-- Every total is a count; they add up; and totals of files joined are sums. Assumes nothing.
use mathlib.Core.Path.{◌≡◌, sym, ap, ap₂, ◌∙◌}
use mathlib.Core.Logic.{inl, inr}
use mathlib.Core.List.{List, ◌++◌, map}
use Prim.Native.Nat.{ℕ, suc, ◌+◌}
use native.Mathlib.Omega.{arith}
use lib.Dec.{eqb}
use lib.ListN.{length, get_or, get_or-append}
use lib.Seq.{get_or-append-add, take_at, drop_at}
use borrow.Author.Tests.{eqb-true}
use Rattle.std.proofs.lemmas.List.FromFn.{length-map-range_with_len, get_or-map-range_with_len}
use Rattle.records.specs.Lists.{count_by, numbers_from}
use Rattle.records.proofs.Lists.{count_append, count_none, flat_map_append}
use Rattle.classes.specs.Classes.{name_number}
use Rattle.verdict.specs.Decision.{Row}
use Rattle.verdict.specs.Judged.{decided_file}
use Rattle.verdict.proofs.Known.{Known, known_file, file_range, name_range}
use Rattle.totals.specs.Totals.{rows_of_file, all_rows, files_with, moments_with, totals}
use Rattle.totals.specs.Claims.{sum, TotalOfNumber, TotalOfName, NumbersAddUp, NamesAddUp, RoomNeverCounted, TotalsJoined}
use Rattle.totals.proofs.Sums.{sum_counts, added_append, added_map}

abbrev of_numbers : List (List ℕ) → List ℕ
of_numbers fs = map (λ n. files_with n fs) (numbers_from 0 64)

abbrev of_names : List (List ℕ) → List ℕ
of_names fs = map (λ k. moments_with k fs) (numbers_from 1 7)

-- 64 of them
number_count : (fs : List (List ℕ)) → length (of_numbers fs) ≡ 64
number_count fs = length-map-range_with_len (λ n. files_with n fs) 0 64

pub total_of_number : TotalOfNumber
unfolding totals
total_of_number fs n h =
    let l = number_count fs in
    get_or-append (of_numbers fs) (of_names fs) 0 n (omega arith) ∙ get_or-map-range_with_len (λ n. files_with n fs) 0 64 n n 0 h (omega arith)

pub total_of_name : TotalOfName
unfolding totals
total_of_name fs k h =
    ap (λ m. get_or (of_numbers fs ++ of_names fs) (m + k) 0) (sym (number_count fs))
    ∙ get_or-append-add (of_numbers fs) (of_names fs) k 0
    ∙ get_or-map-range_with_len (λ k. moments_with k fs) 1 7 k (suc k) 0 h (omega arith)

pub numbers_add_up : NumbersAddUp
unfolding totals
numbers_add_up fs =
    ap sum (take_at (of_numbers fs) (of_names fs) 64 (number_count fs))
    ∙ sum_counts (λ f. (decided_file f).number) 0 64 (λ f. let r = (file_range f).1 in (omega arith, omega arith)) fs

pub names_add_up : NamesAddUp
unfolding totals
names_add_up fs =
    ap sum (drop_at (of_numbers fs) (of_names fs) 64 (number_count fs))
    ∙ sum_counts (λ (r : Row). name_number r.name) 1 7 (λ r. let n = name_range r.name in let a = n.0 in let b = n.1 in (a, omega arith)) (all_rows fs)

pub room_never_counted : RoomNeverCounted
room_never_counted fs n l h =
    count_none (λ f. eqb n (decided_file f).number) fs (λ f m t. go f (eqb-true n (decided_file f).number t) (known_file f))
  where
    go : (f : List ℕ) → n ≡ (decided_file f).number → Known (decided_file f).number → ⊥
    go f e (inl k) = omega arith
    go f e (inr (j, k)) = omega arith

-- ---- joined

all_joined : (fs gs : List (List ℕ)) → all_rows (fs ++ gs) ≡ all_rows fs ++ all_rows gs
unfolding all_rows
all_joined fs gs = flat_map_append rows_of_file fs gs

pub totals_joined : TotalsJoined
unfolding totals
totals_joined fs gs =
    ap₂ ◌++◌
    (added_map (λ n. files_with n fs) (λ n. files_with n gs) (λ n. files_with n (fs ++ gs)) (λ n. count_append (λ f. eqb n (decided_file f).number) fs gs) (numbers_from 0 64))
    (added_map (λ k. moments_with k fs) (λ k. moments_with k gs) (λ k. moments_with k (fs ++ gs))
    (λ k. ap (count_by (λ (r : Row). eqb k (name_number r.name))) (all_joined fs gs) ∙ count_append (λ (r : Row). eqb k (name_number r.name)) (all_rows fs) (all_rows gs)) (numbers_from 1 7))
    ∙ sym (added_append (of_numbers fs) (of_numbers gs) (of_names fs) (of_names gs) (number_count fs ∙ sym (number_count gs)))
