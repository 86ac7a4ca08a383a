-- Rows of tests, each with its number: the first test that passes decides. Assumes nothing.
use mathlib.Core.Path.{◌≡◌, refl}
use mathlib.Core.Bool.{Bool, true, false, ◌&&◌, ◌||◌, cond}
use mathlib.Core.List.{List, [], ◌∷◌}
use Prim.Native.Nat.{ℕ, zero, suc, ◌≤◌}
use native.Mathlib.Omega.{arith}
use lib.Dec.{eqb, ltb, leb}
use borrow.Author.Tests.{ltb-true, leb-true, ne_eqb}
use Rattle.records.specs.Lists.{all}
use Rattle.records.proofs.Lists.{and_l, and_r}

-- the number of the first row whose test passes, or n; nested `cond`s compute to it
abbrev pub number_of : List (Bool × ℕ) → ℕ → ℕ
number_of [] n = n
number_of (row ∷ rows) n = cond row.0 row.1 (number_of rows n)

-- the test of row i
abbrev pub test_of : List (Bool × ℕ) → ℕ → Bool
test_of [] i = false
test_of (row ∷ rows) zero = row.0
test_of (row ∷ rows) (suc i) = test_of rows i

-- every number passes a test
abbrev pub numbered : (ℕ → Bool) → List (Bool × ℕ) → Bool
numbered ok rows = all (λ (row : Bool × ℕ). ok row.1) rows

-- what holds of every number of the rows, and of n where no test passes, holds of the number
pub by_rows : (P : ℕ → Type 0) (ok : ℕ → Bool) → ((m : ℕ) → ok m ≡ true → P m) → (rows : List (Bool × ℕ)) (n : ℕ) → numbered ok rows ≡ true
    → (((i : ℕ) → test_of rows i ≡ false) → P n) → P (number_of rows n)
by_rows P ok h [] n t f = f (λ i. refl)
by_rows P ok h (row ∷ rows) n t f = go row.0 refl (by_rows P ok h rows n (and_r (ok row.1) _ t))
  where
    none : row.0 ≡ false → ((i : ℕ) → test_of rows i ≡ false) → (i : ℕ) → test_of (row ∷ rows) i ≡ false
    none e g zero = e
    none e g (suc i) = g i

    go : (b : Bool) → row.0 ≡ b → ((((i : ℕ) → test_of rows i ≡ false) → P n) → P (number_of rows n)) → P (cond b row.1 (number_of rows n))
    go true e ih = h row.1 (and_l _ _ t)
    go false e ih = ih (λ g. f (none e g))

-- the same of rows with numbers from a to b
pub by_numbers : (a b : ℕ) (P : ℕ → Type 0) → ((m : ℕ) → a ≤ m → m ≤ b → P m) → (rows : List (Bool × ℕ)) (n : ℕ) → numbered (λ m. leb a m && leb m b) rows ≡ true
    → (((i : ℕ) → test_of rows i ≡ false) → P n) → P (number_of rows n)
by_numbers a b P h = by_rows P (λ m. leb a m && leb m b) (λ m t. h m (leb-true a m (and_l _ _ t)) (leb-true m b (and_r (leb a m) _ t)))

-- where the number is 0, no test passes
pub none_passes : (rows : List (Bool × ℕ)) (n : ℕ) → numbered (ltb 0) rows ≡ true → number_of rows n ≡ 0 → ((i : ℕ) → test_of rows i ≡ false) × (n ≡ 0)
none_passes rows n t =
    by_rows (λ m. m ≡ 0 → ((i : ℕ) → test_of rows i ≡ false) × (n ≡ 0)) (ltb 0) (λ m p e. let l = ltb-true 0 m p in absurd (omega arith)) rows n t (λ g e. (g, e))

-- the rows by themselves, and what comes behind them
pub rows_split : (rows : List (Bool × ℕ)) (n : ℕ) → numbered (ltb 0) rows ≡ true → number_of rows n ≡ cond (eqb (number_of rows 0) 0) n (number_of rows 0)
rows_split [] n t = refl
rows_split (row ∷ rows) n t = go row.0 (rows_split rows n (and_r (ltb 0 row.1) _ t))
  where
    go : (b : Bool) → number_of rows n ≡ cond (eqb (number_of rows 0) 0) n (number_of rows 0)
        → cond b row.1 (number_of rows n) ≡ cond (eqb (cond b row.1 (number_of rows 0)) 0) n (cond b row.1 (number_of rows 0))
    go true ih = let l = ltb-true 0 row.1 (and_l _ _ t) in rw (ne_eqb row.1 0 (λ e. omega arith))
    go false ih = ih

-- one row of two tests is two rows
pub cond_or : (a b : Bool) (m n : ℕ) → cond (a || b) m n ≡ cond a m (cond b m n)
cond_or true b m n = refl
cond_or false b m n = refl
