-- The bytes of the totals, and the answer. Assumes nothing.
use mathlib.Core.Path.{◌≡◌, refl, sym, ap, ap₂, ◌∙◌}
use Rattle.std.specs.Int.{w64, byte_at, bytes_low_first, to_le_bytes}
use mathlib.Core.Bool.{Bool, cond}
use mathlib.Core.List.{List, [], ◌∷◌, map, flat_map}
use Prim.Native.Nat.{ℕ, zero, suc, ◌+◌, ◌*◌, ◌/◌, ◌%◌, ◌^◌, ◌<◌}
use native.Mathlib.Nat.{div-add-mod', div-lt_iff_lt-mul, div-div-eq-div-mul, div-one, pow-suc}
use native.Mathlib.Omega.{arith}
use lib.ListN.{length, length-append}
use borrow.Author.Tests.{lt-ltb, le-ltb}
use Rattle.std.proofs.lemmas.List.FromFn.{length-map-range_with_len}
use Rattle.records.specs.Memory.{over}
use Rattle.records.specs.Lists.{numbers_from}
use Rattle.verdict.specs.Judged.{answer_at}
use Rattle.totals.specs.Totals.{files_with, moments_with, totals, low_bytes, total_bytes, totalled_by, totalled, totals_memory_by, totals_after}
use Rattle.totals.specs.Claims.{BytesSay, TotalledCut, TotalledShort, TotalledDone}

-- ---- little-endian

pub bytes_say : BytesSay
bytes_say zero n h = let z : 256 ^ 0 ≡ 1 = refl in omega arith
bytes_say (suc k) n h =
    let p : 256 ^ suc k ≡ 256 ^ k * 256 = pow-suc 256 k in
    let q : n / 256 < 256 ^ k = (div-lt_iff_lt-mul {k = 256} (let z : 0 < 256 = omega arith in z)).1 (rw p at h) in
    ap (λ m. n % 256 + 256 * m) (bytes_say k (n / 256) q) ∙ (let d = div-add-mod' n 256 in omega arith)

pub low_length : (k n : ℕ) → length (low_bytes k n) ≡ k
low_length zero n = refl
low_length (suc k) n = ap suc (low_length k (n / 256))

-- as the library writes a number
byte_is : (i n : ℕ) → byte_at i n ≡ n / 256 ^ i % 256
byte_is zero n = ap (λ m. m % 256) (sym (div-one n))
byte_is (suc i) n = refl

low_first : (i k n : ℕ) → bytes_low_first i k n ≡ low_bytes k (n / 256 ^ i)
low_first i zero n = refl
low_first i (suc k) n =
    ap₂ ◌∷◌ (byte_is i n)
    (low_first (suc i) k n
    ∙ ap (λ m. low_bytes k (n / m)) (pow-suc 256 i)
    ∙ ap (low_bytes k) (sym (div-div-eq-div-mul n (256 ^ i) 256)))

pub bytes_are : (n : ℕ) → to_le_bytes w64 n ≡ low_bytes 8 n
bytes_are n = low_first 0 8 n ∙ ap (low_bytes 8) (div-one n)

pub bytes_length : (ts : List ℕ) → length (total_bytes ts) ≡ 8 * length ts
unfolding total_bytes flat_map
bytes_length [] = refl
bytes_length (t ∷ ts) =
    let h = length-append (low_bytes 8 t) (total_bytes ts) in
    let l = low_length 8 t in
    let r = bytes_length ts in omega arith

pub totals_length : (fs : List (List ℕ)) → length (totals fs) ≡ 71
unfolding totals
totals_length fs =
    let h = length-append (map (λ n. files_with n fs) (numbers_from 0 64)) (map (λ k. moments_with k fs) (numbers_from 1 7)) in
    let a = length-map-range_with_len (λ n. files_with n fs) 0 64 in
    let b = length-map-range_with_len (λ k. moments_with k fs) 1 7 in omega arith

pub written_length : (fs : List (List ℕ)) → length (total_bytes (totals fs)) ≡ 568
written_length fs = let h = bytes_length (totals fs) in let l = totals_length fs in omega arith

-- ---- the answer

pub totalled_cut : TotalledCut
unfolding totalled totals_after
totalled_cut b out at e = (ap (λ o. totalled_by o out) e, ap (λ o. totals_memory_by o out) e)

pub totalled_short : TotalledShort
unfolding totalled totals_after
totalled_short b out fs e h =
    let t = lt-ltb (length out) 568 h in (
      ap (λ o. totalled_by o out) e ∙ ap (λ (t : Bool). cond t (answer_at 30 0) (answer_at 0 568)) t,
      ap (λ o. totals_memory_by o out) e ∙ ap (λ (t : Bool). cond t out (over (total_bytes (totals fs)) out)) t,
    )

pub totalled_done : TotalledDone
unfolding totalled totals_after
totalled_done b out fs e h =
    let t = le-ltb (length out) 568 h in (
      ap (λ o. totalled_by o out) e ∙ ap (λ (t : Bool). cond t (answer_at 30 0) (answer_at 0 568)) t,
      ap (λ o. totals_memory_by o out) e ∙ ap (λ (t : Bool). cond t out (over (total_bytes (totals fs)) out)) t,
      written_length fs,
    )
