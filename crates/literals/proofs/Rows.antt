-- Rows of 8 bytes: a payload's row by its bytes, and the loops that write rows, compare them and go through them. Assumes nothing.
use mathlib.Core.Path.{◌≡◌, refl, sym, ap, ap₂, ◌∙◌}
use mathlib.Core.Bool.{Bool, true, false, ◌&&◌, ◌||◌, or-true}
use mathlib.Core.Logic.{◌⊎◌, inl, inr}
use mathlib.Core.List.Memᴰ
use mathlib.Core.List.{List, [], ◌∷◌, ◌++◌, append_assoc}
use Prim.Native.Nat.{ℕ, zero, suc, ◌+◌, ◌-◌, ◌*◌, ◌%◌, ◌≤◌, ◌<◌}
use native.Mathlib.Numerals.{add-one}
use native.Mathlib.Nat.{sub-zero, mul-suc}
use native.Mathlib.Omega.{arith}
use lib.Dec.{eqb}
use lib.ListN.{length, get_or, take, drop, replicate, length-append, length-replicate, length-drop, get_or-replicate, replicate-append-replicate, get_or-append, drop_of_length-le}
use lib.Seq.{drop-cons, get_or-drop, get_or-take, get_or-append-add, drop-drop, length-take-le, take_all, drop_at}
use borrow.Author.Tests.{eq-eqb, ne_eqb, eqb-true}
use Rattle.records.specs.Lists.{In, any, all, same_list}
use Rattle.records.proofs.Lists.{and_l, and_r, and_i, or_l, bool_cases, clash, off, eqb_same, same_list_eq, same_list_self, any_same}
use Rattle.literals.specs.Decode.{byte}
use Rattle.literals.specs.Held.{row_of, FourAt, EightAt, WordOf, meet_byte, rows_meet}
use Rattle.literals.specs.Held.{opposed_roles, contradicts_row, rows_by, rows_in}

-- ---- a payload's row

pub length_row : (p : List ℕ) → length p ≤ 8 → length (row_of p) ≡ 8
length_row p h = simp (length-append, length-replicate) (omega arith)

pub row_inside : (p : List ℕ) (i : ℕ) → i < length p → get_or p i 0 ≡ get_or (row_of p) i 0
row_inside p i h = sym (get_or-append p (replicate (8 - length p) 255) 0 i h)

-- behind a payload there is nothing but FF, as far as eight bytes behind its row
pub row_filled : (p : List ℕ) (i : ℕ) → length p ≤ 8 → i < 8 → get_or (row_of p ++ replicate 8 255) (length p + i) 0 ≡ 255
row_filled p i h g =
    ap (λ (s : List ℕ). get_or s (length p + i) 0)
    (append_assoc p (replicate (8 - length p) 255) (replicate 8 255) ∙ ap (λ (s : List ℕ). p ++ s) (replicate-append-replicate (8 - length p) 8 255))
    ∙ get_or-append-add p (replicate (8 - length p + 8) 255) i 0
    ∙ get_or-replicate (8 - length p + 8) i 255 0 (omega arith)

-- ---- comparing two lists from an index on

module _ (test : ℕ → ℕ → Bool) (x y : List ℕ) (i : ℕ) where
  pub test_miss : i < length x → i < length y → test (get_or x i 0) (get_or y i 0) ≡ false → same_list test (drop i x) (drop i y) ≡ false
  test_miss h g e = rw (drop-cons x i 0 h, drop-cons y i 0 g, e)

  pub test_hit : i < length x → i < length y → test (get_or x i 0) (get_or y i 0) ≡ true
      → same_list test (drop i x) (drop i y) ≡ same_list test (drop (i + 1) x) (drop (i + 1) y)
  test_hit h g e = rw (drop-cons x i 0 h, drop-cons y i 0 g, e, add-one)

  pub test_end : length x ≤ i → length y ≤ i → same_list test (drop i x) (drop i y) ≡ true
  test_end h g = rw (drop_of_length-le x h, drop_of_length-le y g)

module _ (x y : List ℕ) (i : ℕ) where
  pub same_miss : i < length x → i < length y → (get_or x i 0 ≡ get_or y i 0 → ⊥) → same_list eqb (drop i x) (drop i y) ≡ false
  same_miss h g n = test_miss eqb x y i h g (ne_eqb (get_or x i 0) (get_or y i 0) n)

  pub same_hit : i < length x → i < length y → get_or x i 0 ≡ get_or y i 0 → same_list eqb (drop i x) (drop i y) ≡ same_list eqb (drop (i + 1) x) (drop (i + 1) y)
  same_hit h g e = test_hit eqb x y i h g (eq-eqb (get_or x i 0) (get_or y i 0) e)

  pub same_end : length x ≤ i → length y ≤ i → same_list eqb (drop i x) (drop i y) ≡ true
  same_end h g = test_end eqb x y i h g

-- ---- four bytes at a time

-- the byte k, where n is the next place
next : (x : List ℕ) (k n : ℕ) → n ≡ k + 1 → k < length x → drop k x ≡ get_or x k 0 ∷ drop n x
next x k n e h = drop-cons x k 0 h ∙ ap (λ (m : ℕ). get_or x k 0 ∷ drop m x) (let z : suc k ≡ n = omega arith in z)

-- the four bytes from i on, whose places are i, j, k and l
four_listed : (x : List ℕ) (i j k l : ℕ) → j ≡ i + 1 → k ≡ i + 2 → l ≡ i + 3 → i + 4 ≤ length x → (r : List ℕ) → r ≡ drop (i + 4) x → drop i x ≡ get_or x i 0 ∷ get_or x j 0 ∷ get_or x k 0 ∷ get_or x l 0 ∷ r
four_listed x i j k l a b c h r e =
    next x i j a (omega arith)
    ∙ ap (λ (m : List ℕ). get_or x i 0 ∷ m)
    (next x j k (omega arith) (omega arith)
    ∙ ap (λ (m : List ℕ). get_or x j 0 ∷ m)
    (next x k l (omega arith) (omega arith) ∙ ap (λ (m : List ℕ). get_or x k 0 ∷ m) (next x l (i + 4) (omega arith) (omega arith) ∙ ap (λ (m : List ℕ). get_or x l 0 ∷ m) (sym e))))

four_cons : (x : List ℕ) (i j k l : ℕ) → j ≡ i + 1 → k ≡ i + 2 → l ≡ i + 3 → i + 4 ≤ length x → take 4 (drop i x) ≡ get_or x i 0 ∷ get_or x j 0 ∷ get_or x k 0 ∷ get_or x l 0 ∷ []
four_cons x i j k l a b c h = ap (take 4) (four_listed x i j k l a b c h (drop (i + 4) x) refl)

pub eight_cons : (x : List ℕ) (i : ℕ) → i + 8 ≤ length x
    → take 8 (drop i x) ≡ get_or x i 0 ∷ get_or x (i + 1) 0 ∷ get_or x (i + 2) 0 ∷ get_or x (i + 3) 0 ∷ get_or x (i + 4) 0 ∷ get_or x (i + 5) 0 ∷ get_or x (i + 6) 0 ∷ get_or x (i + 7) 0 ∷ []
eight_cons x i h =
    ap (take 8)
    (four_listed x i (i + 1) (i + 2) (i + 3) refl refl refl (omega arith) _
    (sym (four_listed x (i + 4) (i + 5) (i + 6) (i + 7) (omega arith) (omega arith) (omega arith) (omega arith) (drop (i + 4 + 4) x) refl)))

-- two numbers of four bytes are the same where the bytes are
module _ (x y : List ℕ) (i j : ℕ) (h : i + 4 ≤ length x) (g : j + 4 ≤ length y) {a b : ℕ} (A : FourAt x i a) (B : FourAt y j b) where
  pub four_same : a ≡ b → true ≡ same_list eqb (take 4 (drop i x)) (take 4 (drop j y))
  four_same e =
      let p = A.is in
      let q = B.is in
      let a0 = A.first in
      let a1 = A.second in
      let a2 = A.third in
      let b0 = B.first in
      let b1 = B.second in
      let b2 = B.third in
      let e3 : get_or x (i + 3) 0 ≡ get_or y (j + 3) 0 = omega arith in
      let e2 : get_or x (i + 2) 0 ≡ get_or y (j + 2) 0 = omega arith in
      let e1 : get_or x (i + 1) 0 ≡ get_or y (j + 1) 0 = omega arith in
      let e0 : get_or x i 0 ≡ get_or y j 0 = omega arith in
      sym
      (rw (four_cons x i (i + 1) (i + 2) (i + 3) refl refl refl h, four_cons y j (j + 1) (j + 2) (j + 3) refl refl refl g, eq-eqb (get_or x i 0) (get_or y j 0) e0, eq-eqb (get_or x (i + 1) 0) (get_or y (j + 1) 0) e1, eq-eqb (get_or x (i + 2) 0) (get_or y (j + 2) 0) e2, eq-eqb (get_or x (i + 3) 0) (get_or y (j + 3) 0) e3))

  pub four_number : same_list eqb (take 4 (drop i x)) (take 4 (drop j y)) ≡ true → a ≡ b
  four_number t =
      let l = sym (four_cons x i (i + 1) (i + 2) (i + 3) refl refl refl h) ∙ same_list_eq eqb eqb-true (take 4 (drop i x)) (take 4 (drop j y)) t ∙ four_cons y j (j + 1) (j + 2) (j + 3) refl refl refl g in
      let e0 : get_or x i 0 ≡ get_or y j 0 = ap (λ (m : List ℕ). get_or m 0 0) l in
      let e1 : get_or x (i + 1) 0 ≡ get_or y (j + 1) 0 = ap (λ (m : List ℕ). get_or m 1 0) l in
      let e2 : get_or x (i + 2) 0 ≡ get_or y (j + 2) 0 = ap (λ (m : List ℕ). get_or m 2 0) l in
      let e3 : get_or x (i + 3) 0 ≡ get_or y (j + 3) 0 = ap (λ (m : List ℕ). get_or m 3 0) l in
      let p = A.is in
      let q = B.is in
      omega arith

-- rows of eight bytes, by their bytes 0 to 3 and 4 to 7; and all but their first byte, by the bytes 1 to 4 and 4 to 7
join_eight : (a b c d r : Bool) → a && (b && (c && (d && r))) ≡ (a && (b && (c && (d && true)))) && r
join_eight false b c d r = refl
join_eight true false c d r = refl
join_eight true true false d r = refl
join_eight true true true false r = refl
join_eight true true true true r = refl

join_seven : (a b c d r : Bool) → a && (b && (c && (d && r))) ≡ (a && (b && (c && (d && true)))) && (d && r)
join_seven false b c d r = refl
join_seven true false c d r = refl
join_seven true true false d r = refl
join_seven true true true false r = refl
join_seven true true true true r = refl

module _ (x y : List ℕ) (i j : ℕ) (h : i + 8 ≤ length x) (g : j + 8 ≤ length y) where
  pub eight_by_four : same_list eqb (take 8 (drop i x)) (take 8 (drop j y)) ≡ same_list eqb (take 4 (drop i x)) (take 4 (drop j y)) && same_list eqb (take 4 (drop (i + 4) x)) (take 4 (drop (j + 4) y))
  eight_by_four =
      ap₂ (same_list eqb) (eight_cons x i h) (eight_cons y j g)
      ∙ join_eight (eqb (get_or x i 0) (get_or y j 0)) (eqb (get_or x (i + 1) 0) (get_or y (j + 1) 0)) (eqb (get_or x (i + 2) 0) (get_or y (j + 2) 0)) (eqb (get_or x (i + 3) 0) (get_or y (j + 3) 0)) _
      ∙ ap₂ ◌&&◌
      (ap₂ (same_list eqb) (sym (four_cons x i (i + 1) (i + 2) (i + 3) refl refl refl (omega arith))) (sym (four_cons y j (j + 1) (j + 2) (j + 3) refl refl refl (omega arith))))
      (ap₂ (same_list eqb) (sym (four_cons x (i + 4) (i + 5) (i + 6) (i + 7) (omega arith) (omega arith) (omega arith) (omega arith))) (sym (four_cons y (j + 4) (j + 5) (j + 6) (j + 7) (omega arith) (omega arith) (omega arith) (omega arith))))

  pub seven_by_four : same_list eqb (drop 1 (take 8 (drop i x))) (drop 1 (take 8 (drop j y)))
      ≡ same_list eqb (take 4 (drop (i + 1) x)) (take 4 (drop (j + 1) y)) && same_list eqb (take 4 (drop (i + 4) x)) (take 4 (drop (j + 4) y))
  seven_by_four =
      ap₂ (λ (p q : List ℕ). same_list eqb (drop 1 p) (drop 1 q)) (eight_cons x i h) (eight_cons y j g)
      ∙ join_seven (eqb (get_or x (i + 1) 0) (get_or y (j + 1) 0)) (eqb (get_or x (i + 2) 0) (get_or y (j + 2) 0)) (eqb (get_or x (i + 3) 0) (get_or y (j + 3) 0)) (eqb (get_or x (i + 4) 0) (get_or y (j + 4) 0)) _
      ∙ ap₂ ◌&&◌
      (ap₂ (same_list eqb) (sym (four_cons x (i + 1) (i + 2) (i + 3) (i + 4) (omega arith) (omega arith) (omega arith) (omega arith))) (sym (four_cons y (j + 1) (j + 2) (j + 3) (j + 4) (omega arith) (omega arith) (omega arith) (omega arith))))
      (ap₂ (same_list eqb) (sym (four_cons x (i + 4) (i + 5) (i + 6) (i + 7) (omega arith) (omega arith) (omega arith) (omega arith))) (sym (four_cons y (j + 4) (j + 5) (j + 6) (j + 7) (omega arith) (omega arith) (omega arith) (omega arith))))

-- a row, and the row at an offset
module _ (row t : List ℕ) (at : ℕ) (g : length row ≡ 8) (h : at + 8 ≤ length t) where
  atom_by_four : same_list eqb (drop 1 row) (drop 1 (take 8 (drop at t))) ≡ same_list eqb (take 4 (drop 1 row)) (take 4 (drop (at + 1) t)) && same_list eqb (take 4 (drop 4 row)) (take 4 (drop (at + 4) t))
  atom_by_four = ap (λ (r : List ℕ). same_list eqb (drop 1 r) (drop 1 (take 8 (drop at t)))) (sym (take_all 8 row (omega arith))) ∙ seven_by_four row t 0 at (omega arith) h

  pub atom_same : {r : Bool} → same_list eqb (take 4 (drop 1 row)) (take 4 (drop (at + 1) t)) ≡ true → r ≡ same_list eqb (take 4 (drop 4 row)) (take 4 (drop (at + 4) t))
      → r ≡ same_list eqb (drop 1 row) (drop 1 (take 8 (drop at t)))
  atom_same e f = f ∙ sym (atom_by_four ∙ ap (λ (b : Bool). b && same_list eqb (take 4 (drop 4 row)) (take 4 (drop (at + 4) t))) e)

  pub atom_other : same_list eqb (take 4 (drop 1 row)) (take 4 (drop (at + 1) t)) ≡ false → false ≡ same_list eqb (drop 1 row) (drop 1 (take 8 (drop at t)))
  atom_other e = sym (atom_by_four ∙ ap (λ (b : Bool). b && same_list eqb (take 4 (drop 4 row)) (take 4 (drop (at + 4) t))) e)

-- ---- eight bytes at a time

four_small : {s : List ℕ} {at r : ℕ} → FourAt s at r → r < 4294967296
four_small A =
    let p = A.is in
    let a = A.first in
    let b = A.second in
    let c = A.third in
    let d = A.fourth in
    omega arith

-- the number of a payload's row, by its bytes
abbrev IsByte : List ℕ → ℕ → ℕ → Type 0
IsByte s i b = (b ≡ get_or s i 0) × (b < 256)

pub four_of : (s : List ℕ) (i j k l : ℕ) {a b c d : ℕ} → j ≡ i + 1 → k ≡ i + 2 → l ≡ i + 3 → IsByte s i a → IsByte s j b → IsByte s k c → IsByte s l d
    → FourAt s i (a + 256 * b + 65536 * c + 16777216 * d)
four_of s i j k l {a} {b} {c} {d} e f g w x y z =
    let a' : a ≡ get_or s i 0 = w.0 in
    let b' : b ≡ get_or s (i + 1) 0 = x.0 ∙ ap (λ (n : ℕ). get_or s n 0) e in
    let c' : c ≡ get_or s (i + 2) 0 = y.0 ∙ ap (λ (n : ℕ). get_or s n 0) f in
    let d' : d ≡ get_or s (i + 3) 0 = z.0 ∙ ap (λ (n : ℕ). get_or s n 0) g in
    let p = w.1 in
    let q = x.1 in
    let r = y.1 in
    let t = z.1 in
    record { is = omega arith; first = omega arith; second = omega arith; third = omega arith; fourth = omega arith }

-- the number of eight bytes, where that of the eight from the next one on is known: a byte comes in below, and the highest falls out
lowered : (low h y w : ℕ) → low < 4294967296 → h < 16777216 → w ≡ low + 4294967296 * (h + 16777216 * y) → w % 72057594037927936 ≡ low + 4294967296 * h
lowered low h y w l g e = omega arith

pub eight_before : (s : List ℕ) (k m : ℕ) {b w : ℕ} → m ≡ k + 1 → IsByte s k b → EightAt s m w → EightAt s k (256 * (w % 72057594037927936) + b)
eight_before s k m {b} {w} e i A =
    let L = A.lows in
    let H = A.highs in
    let three : m + 3 ≡ k + 4 = omega arith in
    let l = L.is in
    let h = H.is in
    let a = A.is in
    let h0 = H.first in
    let h1 = H.second in
    let h2 = H.third in
    let kept =
    lowered A.low (get_or s (m + 4) 0 + 256 * get_or s (m + 4 + 1) 0 + 65536 * get_or s (m + 4 + 2) 0) (get_or s (m + 4 + 3) 0) w (four_small L) (omega arith) (omega arith)
    in
    record {
      low = b + 256 * get_or s m 0 + 65536 * get_or s (m + 1) 0 + 16777216 * get_or s (m + 2) 0;
      high = get_or s (m + 3) 0 + 256 * get_or s (m + 4) 0 + 65536 * get_or s (m + 4 + 1) 0 + 16777216 * get_or s (m + 4 + 2) 0;
      lows = four_of s k m (m + 1) (m + 2) e (omega arith) (omega arith) i (refl, L.first) (refl, L.second) (refl, L.third);
      highs =
          four_of s (k + 4) (m + 4) (m + 4 + 1) (m + 4 + 2) (omega arith) (omega arith) (omega arith) (ap (λ (n : ℕ). get_or s n 0) three, L.fourth) (refl, H.first)
          (refl, H.second) (refl, H.third);
      is = omega arith;
    }

-- that of eight bytes that are FF
pub eight_filled : (s : List ℕ) (k : ℕ) → ((i : ℕ) → i < 8 → get_or s (k + i) 0 ≡ 255) → EightAt s k 18446744073709551615
eight_filled s k f =
    let z : k ≡ k + 0 = omega arith in
    record {
      low = 4294967295;
      high = 4294967295;
      lows =
          four_of s k (k + 1) (k + 2) (k + 3) refl refl refl (sym (ap (λ (n : ℕ). get_or s n 0) z ∙ f 0 (omega arith)), omega arith) (sym (f 1 (omega arith)), omega arith)
          (sym (f 2 (omega arith)), omega arith) (sym (f 3 (omega arith)), omega arith);
      highs =
          four_of s (k + 4) (k + 5) (k + 6) (k + 7) (omega arith) (omega arith) (omega arith) (sym (f 4 (omega arith)), omega arith) (sym (f 5 (omega arith)), omega arith)
          (sym (f 6 (omega arith)), omega arith) (sym (f 7 (omega arith)), omega arith);
      is = omega arith;
    }

-- that of a row, whatever stands behind it
four_front : (row t : List ℕ) (i : ℕ) {r : ℕ} → i + 4 ≤ length row → FourAt (row ++ t) i r → FourAt row i r
four_front row t i h A =
    let a = get_or-append row t 0 i (omega arith) in
    let b = get_or-append row t 0 (i + 1) (omega arith) in
    let c = get_or-append row t 0 (i + 2) (omega arith) in
    let d = get_or-append row t 0 (i + 3) (omega arith) in
    let e = A.is in
    let p = A.first in
    let q = A.second in
    let s = A.third in
    let u = A.fourth in
    record { is = omega arith; first = omega arith; second = omega arith; third = omega arith; fourth = omega arith }

pub word_front : (row t : List ℕ) {w : ℕ} → length row ≡ 8 → EightAt (row ++ t) 0 w → WordOf row w
word_front row t n A =
    record {
      long = n;
      bytes =
          record {
            low = A.low;
            high = A.high;
            lows = four_front row t 0 (omega arith) A.lows;
            highs = four_front row t 4 (omega arith) A.highs;
            is = A.is;
          };
    }

-- the number of a payload's row, from its end to its front
pub row_none : (p : List ℕ) (k : ℕ) → length p ≤ 8 → k ≡ length p → EightAt (row_of p ++ replicate 8 255) k 18446744073709551615
row_none p k h e =
    eight_filled (row_of p ++ replicate 8 255) k (λ i g. ap (λ (j : ℕ). get_or (row_of p ++ replicate 8 255) (j + i) 0) e ∙ row_filled p i h g)

pub row_more : (p : List ℕ) (k m : ℕ) {b w : ℕ} → length p ≤ 8 → k < length p → m ≡ k + 1 → IsByte (row_of p) k b
    → EightAt (row_of p ++ replicate 8 255) m w → EightAt (row_of p ++ replicate 8 255) k (256 * (w % 72057594037927936) + b)
row_more p k m h g e i A =
    let r = length_row p h in
    eight_before (row_of p ++ replicate 8 255) k m e (i.0 ∙ sym (get_or-append (row_of p) (replicate 8 255) 0 k (omega arith)), i.1) A

pub row_all : (p : List ℕ) (k : ℕ) {w : ℕ} → length p ≤ 8 → k ≤ 0 → EightAt (row_of p ++ replicate 8 255) k w → WordOf (row_of p) w
row_all p zero h e A = word_front (row_of p) (replicate 8 255) (length_row p h) A
row_all p (suc k) h e A = absurd (omega arith)

-- two numbers of eight bytes are the same where the bytes are
module _ (x y : List ℕ) (i j : ℕ) (h : i + 8 ≤ length x) (g : j + 8 ≤ length y) {a b : ℕ} (A : EightAt x i a) (B : EightAt y j b) where
  eight_same : a ≡ b → same_list eqb (take 8 (drop i x)) (take 8 (drop j y)) ≡ true
  eight_same e =
      let p = A.is in
      let q = B.is in
      let la = four_small A.lows in
      let lb = four_small B.lows in
      let high : A.high ≡ B.high = omega arith in
      let low : A.low ≡ B.low = omega arith in
      eight_by_four x y i j h g
      ∙ ap₂ ◌&&◌ (sym (four_same x y i j (omega arith) (omega arith) A.lows B.lows low))
      (sym (four_same x y (i + 4) (j + 4) (omega arith) (omega arith) A.highs B.highs high))

  eight_other : (a ≡ b → ⊥) → same_list eqb (take 8 (drop i x)) (take 8 (drop j y)) ≡ false
  eight_other n =
      off (same_list eqb (take 8 (drop i x)) (take 8 (drop j y)))
      (λ t.
      let both = sym (eight_by_four x y i j h g) ∙ t in
      let p = A.is in
      let q = B.is in
      let low : A.low ≡ B.low = four_number x y i j (omega arith) (omega arith) A.lows B.lows (and_l (same_list eqb (take 4 (drop i x)) (take 4 (drop j y))) _ both) in
      let high : A.high ≡ B.high = four_number x y (i + 4) (j + 4) (omega arith) (omega arith) A.highs B.highs (and_r (same_list eqb (take 4 (drop i x)) (take 4 (drop j y))) _ both) in
      n (omega arith))

-- the row of a number, and the row at an offset
module _ (row t : List ℕ) (at : ℕ) {word r : ℕ} (W : WordOf row word) (h : at + 8 ≤ length t) (A : EightAt t at r) where
  whole : same_list eqb row (take 8 (drop at t)) ≡ same_list eqb (take 8 (drop 0 row)) (take 8 (drop at t))
  whole = ap (λ (l : List ℕ). same_list eqb l (take 8 (drop at t))) (sym (take_all 8 row (let n = W.long in omega arith)))

  word_same : r ≡ word → same_list eqb row (take 8 (drop at t)) ≡ true
  word_same e = whole ∙ eight_same row t 0 at (let n = W.long in omega arith) h W.bytes A (sym e)

  word_other : (r ≡ word → ⊥) → same_list eqb row (take 8 (drop at t)) ≡ false
  word_other n = whole ∙ eight_other row t 0 at (let n = W.long in omega arith) h W.bytes A (λ e. n (sym e))

  pub word_is : same_list eqb row (take 8 (drop at t)) ≡ eqb r word
  word_is = go (bool_cases (eqb r word))
    where
      go : (eqb r word ≡ true) ⊎ (eqb r word ≡ false) → same_list eqb row (take 8 (drop at t)) ≡ eqb r word
      go (inl e) = word_same (eqb-true r word e) ∙ sym e
      go (inr e) = word_other (λ s. clash (eq-eqb r word s) e) ∙ sym e

-- ---- the row of w bytes at an offset of a memory

-- its first byte
pub first_at_lem : (w : ℕ) (t : List ℕ) (at : ℕ) → 0 < w → get_or (take w (drop at t)) 0 0 ≡ get_or t at 0
first_at_lem w t at h = get_or-take w (drop at t) 0 0 h ∙ get_or-drop at t 0 0 ∙ ap (λ (k : ℕ). get_or t k 0) (omega arith)

pub part_first : (t : List ℕ) (at : ℕ) → byte (take 8 (drop at t)) 0 ≡ get_or t at 0
part_first t at = first_at_lem 8 t at (omega arith)

module _ (w : ℕ) (t : List ℕ) (at : ℕ) (h : at + w ≤ length t) where
  pub length_part : length (take w (drop at t)) ≡ w
  length_part = length-take-le w (drop at t) (simp length-drop (omega arith))

  pub part_at : (i : ℕ) → i < w → get_or (take w (drop at t)) i 0 ≡ get_or t (at + i) 0
  part_at i g = get_or-take w (drop at t) i 0 g ∙ get_or-drop at t i 0

-- ---- whether two rows of literals meet

-- rows that are the same but for their first byte
tail_same : (p q : List ℕ) → drop 1 p ≡ drop 1 q → rows_meet p q ≡ true
tail_same [] [] e = refl
tail_same [] (b ∷ q) e = rw (← e)
tail_same (a ∷ p) [] e = rw e
tail_same (a ∷ p) (b ∷ q) e =
    rw e (and_i (eqb_same (get_or q 0 0)) (same_list_self meet_byte (λ c. or_l (eqb c 255 || eqb c 255) (eqb_same c)) (drop 1 q)))

-- two rows of literals, by their relations
module _ (x y : List ℕ) (i j : ℕ) (h : i + 8 ≤ length x) (g : j + 8 ≤ length y) where
  relations_at : eqb (byte (take 8 (drop i x)) 1) (byte (take 8 (drop j y)) 1) ≡ eqb (get_or x (i + 1) 0) (get_or y (j + 1) 0)
  relations_at = ap₂ eqb (part_at 8 x i h 1 (omega arith)) (part_at 8 y j g 1 (omega arith))

  -- all but the first byte the same: by the bytes 1 to 4 and 4 to 7
  pub rows_same : same_list eqb (take 4 (drop (i + 1) x)) (take 4 (drop (j + 1) y)) ≡ true → same_list eqb (take 4 (drop (i + 4) x)) (take 4 (drop (j + 4) y)) ≡ true
      → true ≡ rows_meet (take 8 (drop i x)) (take 8 (drop j y))
  rows_same e f =
      sym
      (tail_same (take 8 (drop i x)) (take 8 (drop j y))
      (same_list_eq eqb eqb-true _ _ (seven_by_four x y i j h g ∙ ap₂ ◌&&◌ e f)))

-- ---- the rows of w bytes of a memory from row i on

pub rows_more : (w : ℕ) (t : List ℕ) (n i : ℕ) → i < n → rows_by w (n - i) (drop (w * i) t) ≡ take w (drop (w * i) t) ∷ rows_by w (n - (i + 1)) (drop (w * (i + 1)) t)
rows_more w t n i h =
    let e : n - i ≡ suc (n - (i + 1)) = omega arith in
    let f : w * i + w ≡ w * (i + 1) = sym (mul-suc w i) ∙ ap (λ (k : ℕ). w * k) (sym (add-one i)) in
    rw (e, drop-drop, f)

pub rows_end : (w : ℕ) (t : List ℕ) (n i : ℕ) → n ≤ i → rows_by w (n - i) t ≡ []
rows_end w t n i h = let e : n - i ≡ 0 = omega arith in rw e

-- a test on the rows of 8 bytes from row i on
module _ (p : List ℕ → Bool) (t : List ℕ) (n i : ℕ) where
  pub any_end : n ≤ i → any p (rows_in (n - i) (drop (8 * i) t)) ≡ false
  any_end h = rw (rows_end 8 (drop (8 * i) t) n i h)

  pub all_end : n ≤ i → all p (rows_in (n - i) (drop (8 * i) t)) ≡ true
  all_end h = rw (rows_end 8 (drop (8 * i) t) n i h)

  module _ (h : i < n) where
    pub any_hit : p (take 8 (drop (8 * i) t)) ≡ true → any p (rows_in (n - i) (drop (8 * i) t)) ≡ true
    any_hit e = rw (rows_more 8 t n i h, e)

    pub any_miss : p (take 8 (drop (8 * i) t)) ≡ false → any p (rows_in (n - i) (drop (8 * i) t)) ≡ any p (rows_in (n - (i + 1)) (drop (8 * (i + 1)) t))
    any_miss e = rw (rows_more 8 t n i h, e)

    pub all_miss : p (take 8 (drop (8 * i) t)) ≡ false → all p (rows_in (n - i) (drop (8 * i) t)) ≡ false
    all_miss e = rw (rows_more 8 t n i h, e)

    pub all_hit : p (take 8 (drop (8 * i) t)) ≡ true → all p (rows_in (n - i) (drop (8 * i) t)) ≡ all p (rows_in (n - (i + 1)) (drop (8 * (i + 1)) t))
    all_hit e = rw (rows_more 8 t n i h, e)

pub any_first : (p : List ℕ → Bool) (t : List ℕ) (n : ℕ) → any p (rows_in (n - 0) (drop (8 * 0) t)) ≡ any p (rows_in n t)
any_first p t n = ap (λ (k : ℕ). any p (rows_in k t)) (sub-zero n)

-- ---- a payload beside the row at an offset

-- what fills a row meets everything
fill_meets : (n : ℕ) (q : List ℕ) → length q ≡ n → same_list meet_byte (replicate n 255) q ≡ true
fill_meets zero [] e = refl
fill_meets zero (b ∷ q) e = absurd (omega arith)
fill_meets (suc n) [] e = absurd (omega arith)
fill_meets (suc n) (b ∷ q) e = rw (or-true (eqb 255 b)) (fill_meets n q (omega arith))

module _ (p t : List ℕ) (at : ℕ) (a : length p ≤ 8) (h : at + 8 ≤ length t) where
  -- the arguments from the byte i on
  abbrev pub meeting : ℕ → Bool
  meeting i = same_list meet_byte (drop i (row_of p)) (drop i (take 8 (drop at t)))

  module _ (i : ℕ) (l : i < length p) where
    beside_byte : meet_byte (get_or (row_of p) i 0) (get_or (take 8 (drop at t)) i 0) ≡ meet_byte (get_or p i 0) (get_or t (at + i) 0)
    beside_byte = ap₂ meet_byte (sym (row_inside p i l)) (part_at 8 t at h i (omega arith))

    pub payload_miss : meet_byte (get_or p i 0) (get_or t (at + i) 0) ≡ false → meeting i ≡ false
    payload_miss e =
        test_miss meet_byte (row_of p) (take 8 (drop at t)) i (omega (arith, length_row p a)) (omega (arith, length_part 8 t at h))
        (beside_byte ∙ e)

    pub payload_hit : meet_byte (get_or p i 0) (get_or t (at + i) 0) ≡ true → meeting i ≡ meeting (i + 1)
    payload_hit e =
        test_hit meet_byte (row_of p) (take 8 (drop at t)) i (omega (arith, length_row p a)) (omega (arith, length_part 8 t at h))
        (beside_byte ∙ e)

  pub payload_end : (i : ℕ) → i ≡ length p → meeting i ≡ true
  payload_end i e =
      ap (λ (l : List ℕ). same_list meet_byte l (drop i (take 8 (drop at t)))) (drop_at p (replicate (8 - length p) 255) i (sym e))
      ∙ fill_meets (8 - length p) (drop i (take 8 (drop at t)))
      (length-drop i (take 8 (drop at t)) ∙ (let n = length_part 8 t at h in omega arith))

none_of : {A : Type 0} (l : List A) → false ≡ any (λ a. false) l
none_of [] = refl
none_of (x ∷ l) = none_of l

-- none stands against an effect
pub against_none : (p : List ℕ) (rows : List (List ℕ)) → 0 < length p → (get_or p 0 0 ≡ 0 → ⊥) → (get_or p 0 0 ≡ 1 → ⊥) → (get_or p 0 0 ≡ 4 → ⊥)
    → (get_or p 0 0 ≡ 5 → ⊥) → (get_or p 0 0 ≡ 6 → ⊥) → (get_or p 0 0 ≡ 7 → ⊥) → false ≡ any (contradicts_row (row_of p)) rows
against_none p rows h n0 n1 n4 n5 n6 n7 =
    none_of rows
    ∙ sym (any_same (contradicts_row (row_of p)) (λ row. false) rows
    (λ row. ap (λ (b : Bool). b && rows_meet (row_of p) row)
    (ap (λ (x : ℕ). opposed_roles x (byte row 0)) (sym (row_inside p 0 h)) ∙ none (byte row 0))))
  where
    none : (b : ℕ) → opposed_roles (get_or p 0 0) b ≡ false
    none b =
        let r = get_or p 0 0 in
        rw (ne_eqb r 0 n0, ne_eqb r 1 n1, ne_eqb r 4 n4, ne_eqb r 5 n5, ne_eqb r 6 n6, ne_eqb r 7 n7)

-- ---- the first rows of a memory

pub rows_last : (j : ℕ) (t : List ℕ) → rows_in (suc j) t ≡ rows_in j t ++ (take 8 (drop (8 * j) t) ∷ [])
rows_last zero t = refl
rows_last (suc j) t =
    let e : 8 + 8 * j ≡ 8 * suc j = omega arith in
    ap {B = List (List ℕ)} (λ l. take 8 t ∷ l)
    (rows_last j (drop 8 t) ∙ ap (λ (r : List ℕ). rows_in j (drop 8 t) ++ (take 8 r ∷ [])) (drop-drop (8 * j) 8 t ∙ ap (λ (n : ℕ). drop n t) e))

-- one row more
pub rows_snoc : (j : ℕ) (t : List ℕ) → rows_in (j + 1) t ≡ rows_in j t ++ (take 8 (drop (8 * j) t) ∷ [])
rows_snoc j t = ap (λ (n : ℕ). rows_in n t) (add-one j) ∙ rows_last j t

-- each has 8 bytes
pub rows_whole : (j : ℕ) (t : List ℕ) → 8 * j ≤ length t → (row : List ℕ) → In row (rows_in j t) → length row ≡ 8
rows_whole zero t h row m = absurd (Memᴰ.not-nil m)
rows_whole (suc j) t h row (Memᴰ.head e) = ap length e ∙ length-take-le 8 t (omega arith)
rows_whole (suc j) t h row (Memᴰ.tail m) = rows_whole j (drop 8 t) (simp length-drop (omega arith)) row m
