-- Tests on lists that compute. The library's `filter` and `count_p` take a decision for each element and do not compute from a test, so
-- `filter_by` and `count_by` are defined here. Assumes nothing.
use Rattle.std.specs.Prelude.{Bool, true, false, ◌&&◌, ◌||◌, not, cond, ℕ, zero, suc, ltb, length}
use mathlib.Core.List.{List, [], ◌∷◌, ◌++◌, Memᴰ}
pub use Rattle.std.specs.List.{list_any as any, list_all as all, range_with_len as numbers_from}

-- one more where the test passes
abbrev pub add_if : Bool → ℕ → ℕ
add_if true n = suc n
add_if false n = n

-- every two elements at the same place pass
abbrev pub side_by_side : {A B : Type 0} → (A → B → Bool) → List A → List B → Bool
side_by_side r [] ys = true
side_by_side r (x ∷ xs) [] = true
side_by_side r (x ∷ xs) (y ∷ ys) = r x y && side_by_side r xs ys

module _ {A : Type 0} where
  -- x in front of l where the test passes
  abbrev pub keep_if : Bool → A → List A → List A
  keep_if true x l = x ∷ l
  keep_if false x l = l

  -- the elements that pass, in order
  abbrev pub filter_by : (A → Bool) → List A → List A
  filter_by p [] = []
  filter_by p (x ∷ xs) = keep_if (p x) x (filter_by p xs)

  -- how many elements pass
  abbrev pub count_by : (A → Bool) → List A → ℕ
  count_by p [] = zero
  count_by p (x ∷ xs) = add_if (p x) (count_by p xs)

  -- every two elements, the earlier one first, pass
  abbrev pub pairwise : (A → A → Bool) → List A → Bool
  pairwise r [] = true
  pairwise r (x ∷ xs) = all (r x) xs && pairwise r xs

  -- the first place at which an element passes a test of the elements before it and itself; the length if none does
  abbrev pub first_at : (List A → A → Bool) → List A → List A → ℕ
  first_at p before [] = zero
  first_at p before (x ∷ xs) = cond (p before x) zero (suc (first_at p (before ++ (x ∷ [])) xs))

  -- there is such a place in the list
  abbrev pub found : (List A → A → Bool) → List A → Bool
  found p l = ltb (first_at p [] l) (length l)

  abbrev pub empty : List A → Bool
  empty [] = true
  empty (x ∷ xs) = false

  -- `a` is an element of `l`, as a fact
  abbrev pub In : A → List A → Type 0
  In a l = Memᴰ a l

  -- ---- by a test of equality
  module _ (eq : A → A → Bool) where
    abbrev pub same_list : List A → List A → Bool
    same_list [] [] = true
    same_list [] (y ∷ ys) = false
    same_list (x ∷ xs) [] = false
    same_list (x ∷ xs) (y ∷ ys) = eq x y && same_list xs ys

    -- `x` is an element of `l`, as a test
    abbrev pub elem : A → List A → Bool
    elem x l = any (eq x) l

    -- no element twice
    abbrev pub distinct : List A → Bool
    distinct l = pairwise (λ x y. not (eq x y)) l

    -- each element once, at its first place
    abbrev pub dedup : List A → List A
    dedup [] = []
    dedup (x ∷ xs) = x ∷ filter_by (λ y. not (eq x y)) (dedup xs)

-- ---- places and numbers

-- the place of the first element that passes, or the length
abbrev pub position : {A : Type 0} → (A → Bool) → List A → ℕ
position p [] = zero
position p (x ∷ xs) = cond (p x) zero (suc (position p xs))

-- those below n
abbrev pub below : ℕ → List ℕ
below n = numbers_from 0 n
