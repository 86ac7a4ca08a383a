-- Laws of lent memory whose first bytes are new, and of what fills it. Assumes nothing.
use mathlib.Core.Path.{◌≡◌, refl, sym, ap, ap₂, ◌∙◌}
use mathlib.Core.List.{List, [], ◌∷◌, ◌++◌, append_assoc}
use Prim.Native.Nat.{ℕ, zero, suc, ◌+◌, ◌-◌, ◌≤◌, ◌<◌}
use native.Mathlib.Nat.{sub-zero, zero-sub, suc-sub-suc}
use native.Mathlib.Numerals.{add-one}
use native.Mathlib.Omega.{arith}
use lib.ListN.{length, get_or, set, drop, replicate, length-append, length-drop}
use lib.Seq.{set_at, take_at, take_all, drop-cons, drop-drop, drop-append-add, paste, paste-suc, length-paste}
use Rattle.records.specs.Memory.{over}

pub length_over : (new old : List ℕ) → length new ≤ length old → length (over new old) ≡ length old
unfolding over
length_over new old h = simp (length-append, length-drop) (omega arith)

-- a store at the seam is one byte more of what is new
pub over_more : (new old : List ℕ) (k a : ℕ) → length new ≡ k → k < length old → set (over new old) k a ≡ over (new ++ (a ∷ [])) old
unfolding over
over_more new old k a e h =
    let g : length new < length old = omega arith in
    ap (λ (l : List ℕ). set (new ++ l) k a) (drop-cons old (length new) 0 g)
    ∙ set_at new _ (drop (suc (length new)) old) a k e
    ∙ simp (length-append, append_assoc, add-one)

-- a copy to the seam is more of what is new
pub over_paste : (new old s : List ℕ) (at n : ℕ) → length new ≡ at → length s ≡ n → paste (over new old) at s n ≡ over (new ++ s) old
unfolding over
over_paste new old s at n e f =
    ap₂ ◌++◌ (ap₂ ◌++◌ (take_at new (drop (length new) old) at e) (take_all n s (omega arith))) behind
  where
    behind : drop (at + n) (new ++ drop (length new) old) ≡ drop (length (new ++ s)) old
    behind = rw (← e, ← f, drop-append-add, drop-drop, length-append)

-- a copy to the front
pub paste_front : (new old : List ℕ) (n : ℕ) → n ≡ length new → paste old 0 new n ≡ over new old
unfolding over
paste_front new old n e = over_paste [] old new 0 n refl (sym e)

-- ---- fills

pub drop_replicate : (k m a : ℕ) → drop k (replicate m a) ≡ replicate (m - k) a
drop_replicate zero m a = rw sub-zero
drop_replicate (suc k) zero a = rw zero-sub
drop_replicate (suc k) (suc m) a = rw suc-sub-suc (drop_replicate k m a)

-- behind a list, what is read past its end anyway
pub get_d_fill : (l : List ℕ) (m i d : ℕ) → get_or (l ++ replicate m d) i d ≡ get_or l i d
get_d_fill [] zero i d = refl
get_d_fill [] (suc m) zero d = refl
get_d_fill [] (suc m) (suc i) d = get_d_fill [] m i d
get_d_fill (x ∷ xs) m zero d = refl
get_d_fill (x ∷ xs) m (suc i) d = get_d_fill xs m i d

-- ---- a copy of n bytes, of which i are written

module _ (s out₀ out : List ℕ) (at i n : ℕ) (h : at + n ≤ length out₀) (g : length s ≡ n) (e : out ≡ paste out₀ at s i) where
  pub paste_more : (r : ℕ) → i < n → r ≡ get_or s i 0 → set out (at + i) r ≡ paste out₀ at s (i + 1)
  paste_more r l f =
      ap₂ (λ (d : List ℕ) (x : ℕ). set d (at + i) x) e f
      ∙ paste-suc out₀ at s i 0 (omega arith) (omega arith)
      ∙ ap (paste out₀ at s) (sym (add-one i))

  pub paste_length : i ≤ n → length out ≡ length out₀
  paste_length l = ap length e ∙ length-paste out₀ at s i (omega arith) (omega arith)
