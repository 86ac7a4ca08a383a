-- Tests of the numbers below a bound, as a loop passes them, and what they say of the elements of a list. Assumes nothing.
use mathlib.Core.Path.{◌≡◌, refl, sym, ap, ap₂, ◌∙◌}
use mathlib.Core.Bool.{Bool, true, false, ◌&&◌, ◌||◌, not, cond}
use mathlib.Core.Logic.{◌⊎◌, inl, inr}
use mathlib.Core.List.Memᴰ
use mathlib.Core.List.{List, [], ◌∷◌, ◌++◌, map, map-append}
use Prim.Native.Nat.{ℕ, zero, suc, ◌+◌, ◌-◌, ◌≤◌, ◌<◌}
use native.Mathlib.Numerals.{add-one}
use native.Mathlib.Nat.{sub-zero}
use native.Mathlib.Omega.{arith}
use lib.Dec.{eqb, eqb-suc-suc}
use lib.ListN.{length, get_or, take}
use borrow.Author.Tests.{ne_eqb, eqb-true, eqb-false}
use Rattle.records.specs.Lists.{In, keep_if, filter_by, all, any, side_by_side, position, numbers_from, below}
use Rattle.records.proofs.Lists.{bool_cases, filter_append, filter_agree}

-- ---- the numbers that a loop has left

abbrev pub left : ℕ → ℕ → List ℕ
left n i = numbers_from i (n - i)

pub left_all : (n : ℕ) → left n 0 ≡ below n
left_all n = ap (numbers_from 0) (sub-zero n)

left_more : (n i : ℕ) → i < n → left n i ≡ i ∷ left n (i + 1)
left_more n i h = let e : n - i ≡ suc (n - (i + 1)) = omega arith in rw (e, add-one i)

left_none : (n i : ℕ) → n ≤ i → left n i ≡ []
left_none n i h = let e : n - i ≡ 0 = omega arith in rw e

module _ (p : ℕ → Bool) (n i : ℕ) where
  pub any_end : n ≤ i → any p (left n i) ≡ false
  any_end h = rw (left_none n i h)

  pub all_end : n ≤ i → all p (left n i) ≡ true
  all_end h = rw (left_none n i h)

  pub position_end : n ≤ i → position p (left n i) ≡ 0
  position_end h = rw (left_none n i h)

  module _ (h : i < n) where
    pub any_hit : p i ≡ true → any p (left n i) ≡ true
    any_hit t = rw (left_more n i h, t)

    pub any_miss : p i ≡ false → any p (left n i) ≡ any p (left n (i + 1))
    any_miss t = rw (left_more n i h, t)

    pub all_hit : p i ≡ true → all p (left n i) ≡ all p (left n (i + 1))
    all_hit t = rw (left_more n i h, t)

    pub all_miss : p i ≡ false → all p (left n i) ≡ false
    all_miss t = rw (left_more n i h, t)

    pub position_hit : p i ≡ true → position p (left n i) ≡ 0
    position_hit t = rw (left_more n i h, t)

    pub position_miss : p i ≡ false → position p (left n i) ≡ suc (position p (left n (i + 1)))
    position_miss t = rw (left_more n i h, t)

-- ---- one number more

from_snoc : (i n : ℕ) → numbers_from i (suc n) ≡ numbers_from i n ++ ((i + n) ∷ [])
from_snoc i zero = let e : i + 0 ≡ i = omega arith in rw e
from_snoc i (suc n) =
    let e : i + suc n ≡ (i + 1) + n = omega arith in
    ap {B = List ℕ} (λ l. i ∷ l) (from_snoc (i + 1) n ∙ ap {B = List ℕ} (λ k. numbers_from (i + 1) n ++ (k ∷ [])) (sym e))

pub below_snoc : (n : ℕ) → below (suc n) ≡ below n ++ (n ∷ [])
below_snoc n = from_snoc 0 n ∙ ap {B = List ℕ} (λ k. below n ++ (k ∷ [])) (omega arith)

pub length_from : (i n : ℕ) → length (numbers_from i n) ≡ n
length_from i zero = refl
length_from i (suc n) = ap suc (length_from (i + 1) n)

-- ---- each of them is below the bound

pub from_less : (i n : ℕ) {j : ℕ} → In j (numbers_from i n) → j < i + n
from_less i zero m = absurd (Memᴰ.not-nil m)
from_less i (suc n) (Memᴰ.head e) = omega arith
from_less i (suc n) (Memᴰ.tail m) = let h = from_less (i + 1) n m in omega arith

pub below_less : (n : ℕ) {j : ℕ} → In j (below n) → j < n
below_less n m = let h = from_less 0 n m in omega arith

-- and each number below the bound is one of them
from_in : (i n : ℕ) {j : ℕ} → i ≤ j → j < i + n → In j (numbers_from i n)
from_in i zero h g = absurd (omega arith)
from_in i (suc n) {j} h g = go (bool_cases (eqb j i)) (λ k. from_in (i + 1) n k (omega arith))
  where
    go : (eqb j i ≡ true) ⊎ (eqb j i ≡ false) → (i + 1 ≤ j → In j (numbers_from (i + 1) n)) → In j (i ∷ numbers_from (i + 1) n)
    go (inl t) r = Memᴰ.head (eqb-true j i t)
    go (inr f) r = let ne = eqb-false j i f in Memᴰ.tail (r (omega arith))

pub below_in : (n : ℕ) {j : ℕ} → j < n → In j (below n)
below_in n h = from_in 0 n (omega arith) (omega arith)

-- ---- tests that agree on every element

module _ {A : Type 0} (p q : A → Bool) where
  pub any_agree : (l : List A) → ((a : A) → In a l → p a ≡ q a) → any p l ≡ any q l
  any_agree [] h = refl
  any_agree (x ∷ xs) h = ap₂ ◌||◌ (h x (Memᴰ.head refl)) (any_agree xs (λ a m. h a (Memᴰ.tail m)))

  position_agree : (l : List A) → ((a : A) → In a l → p a ≡ q a) → position p l ≡ position q l
  position_agree [] h = refl
  position_agree (x ∷ xs) h = ap₂ (λ (t : Bool) (k : ℕ). cond t zero (suc k)) (h x (Memᴰ.head refl)) (position_agree xs (λ a m. h a (Memᴰ.tail m)))

  all_agree : (l : List A) → ((a : A) → In a l → p a ≡ q a) → all p l ≡ all q l
  all_agree [] h = refl
  all_agree (x ∷ xs) h = ap₂ ◌&&◌ (h x (Memᴰ.head refl)) (all_agree xs (λ a m. h a (Memᴰ.tail m)))

module _ (p q : ℕ → Bool) (n : ℕ) (h : (j : ℕ) → j < n → p j ≡ q j) where
  pub any_below : any p (below n) ≡ any q (below n)
  any_below = any_agree p q (below n) (λ j m. h j (below_less n m))

  pub all_below_lem : all p (below n) ≡ all q (below n)
  all_below_lem = all_agree p q (below n) (λ j m. h j (below_less n m))

  pub filter_below : filter_by p (below n) ≡ filter_by q (below n)
  filter_below = filter_agree p q (below n) (λ j m. h j (below_less n m))

  pub position_below : position p (below n) ≡ position q (below n)
  position_below = position_agree p q (below n) (λ j m. h j (below_less n m))

-- ---- the elements of a list by index

map_from : {B : Type 0} (f : ℕ → B) (i n : ℕ) → map f (numbers_from (i + 1) n) ≡ map (λ j. f (suc j)) (numbers_from i n)
map_from f i zero = refl
map_from {B} f i (suc n) = ap₂ {C = List B} (λ k l. k ∷ l) (ap f (add-one i)) (map_from f (i + 1) n)

module _ {A : Type 0} (d : A) where
  pub at_take : (l : List A) (n : ℕ) → n ≤ length l → map (λ j. get_or l j d) (below n) ≡ take n l
  at_take l zero h = refl
  at_take [] (suc n) h = absurd (omega arith)
  at_take (x ∷ xs) (suc n) h = ap {B = List A} (λ l. x ∷ l) (map_from (λ j. get_or (x ∷ xs) j d) 0 n ∙ at_take xs n (omega arith))

  pub at_all : (l : List A) → map (λ j. get_or l j d) (below (length l)) ≡ l
  at_all [] = refl
  at_all (x ∷ xs) = ap {B = List A} (λ l. x ∷ l) (map_from (λ j. get_or (x ∷ xs) j d) 0 (length xs) ∙ at_all xs)

-- two lists of one length, side by side
pub side_all : {A B : Type 0} (r : A → B → Bool) (d : A) (e : B) (xs : List A) (ys : List B) → length xs ≡ length ys
    → all (λ i. r (get_or xs i d) (get_or ys i e)) (below (length xs)) ≡ side_by_side r xs ys
side_all r d e [] ys h = refl
side_all r d e (x ∷ xs) [] h = absurd (omega arith)
side_all r d e (x ∷ xs) (y ∷ ys) h =
    ap (λ (t : Bool). r x y && t)
    (from 0 (length xs) ∙ side_all r d e xs ys (omega arith))
  where
    from : (i n : ℕ) → all (λ i. r (get_or (x ∷ xs) i d) (get_or (y ∷ ys) i e)) (numbers_from (i + 1) n) ≡ all
        (λ i. r (get_or xs i d) (get_or ys i e)) (numbers_from i n)
    from i zero = refl
    from i (suc n) = ap₂ ◌&&◌ (ap (λ k. r (get_or (x ∷ xs) k d) (get_or (y ∷ ys) k e)) (add-one i)) (from (i + 1) n)

-- the default does not matter
pub get_d_map : {A B : Type 0} (f : A → B) (l : List A) (i : ℕ) (d : A) (e : B) → i < length l → get_or (map f l) i e ≡ f (get_or l i d)
get_d_map f [] i d e h = absurd (omega arith)
get_d_map f (x ∷ xs) zero d e h = refl
get_d_map f (x ∷ xs) (suc i) d e h = get_d_map f xs i d e (omega arith)

pub map_agree : {B : Type 0} (f g : ℕ → B) (n : ℕ) → ((j : ℕ) → j < n → f j ≡ g j) → map f (below n) ≡ map g (below n)
map_agree {B} f g n h = go (below n) (λ j m. h j (below_less n m))
  where
    go : (l : List ℕ) → ((j : ℕ) → In j l → f j ≡ g j) → map f l ≡ map g l
    go [] k = refl
    go (x ∷ xs) k = ap₂ (λ (y : B) (l : List B). y ∷ l) (k x (Memᴰ.head refl)) (go xs (λ j m. k j (Memᴰ.tail m)))

-- ---- tests of what a test lets pass

module _ {A : Type 0} (p q : A → Bool) where
  pub any_filter : (l : List A) → any q (filter_by p l) ≡ any (λ a. p a && q a) l
  any_filter [] = refl
  any_filter (x ∷ xs) = go (p x) (any_filter xs)
    where
      go : (t : Bool) → any q (filter_by p xs) ≡ any (λ a. p a && q a) xs → any q (keep_if t x (filter_by p xs)) ≡ (t && q x) || any (λ a. p a && q a) xs
      go true h = ap (λ (b : Bool). q x || b) h
      go false h = h

  pub all_filter : (l : List A) → all q (filter_by p l) ≡ all (λ a. not (p a) || q a) l
  all_filter [] = refl
  all_filter (x ∷ xs) = go (p x) (all_filter xs)
    where
      go : (t : Bool) → all q (filter_by p xs) ≡ all (λ a. not (p a) || q a) xs → all q (keep_if t x (filter_by p xs)) ≡ (not t || q x) && all (λ a. not (p a) || q a) xs
      go true h = ap (λ (b : Bool). q x && b) h
      go false h = h

  pub filter_filter : (l : List A) → filter_by q (filter_by p l) ≡ filter_by (λ a. p a && q a) l
  filter_filter [] = refl
  filter_filter (x ∷ xs) = go (p x) (filter_filter xs)
    where
      go : (t : Bool) → filter_by q (filter_by p xs) ≡ filter_by (λ a. p a && q a) xs → filter_by q (keep_if t x (filter_by p xs)) ≡ keep_if (t && q x) x (filter_by (λ a. p a && q a) xs)
      go true h = ap (λ (l : List A). keep_if (q x) x l) h
      go false h = h

  pub any_or : (l : List A) → any p l || any q l ≡ any (λ a. p a || q a) l
  any_or [] = refl
  any_or (x ∷ xs) = go (p x) (q x) (any p xs) (any q xs) ∙ ap (λ (t : Bool). (p x || q x) || t) (any_or xs)
    where
      go : (a b c d : Bool) → (a || c) || (b || d) ≡ (a || b) || (c || d)
      go true b c d = refl
      go false true true d = refl
      go false true false d = refl
      go false false c d = refl

module _ {A B : Type 0} (f : A → B) (p : B → Bool) where
  pub filter_map : (l : List A) → filter_by p (map f l) ≡ map f (filter_by (λ a. p (f a)) l)
  filter_map [] = refl
  filter_map (x ∷ xs) = go (p (f x)) (filter_map xs)
    where
      go : (t : Bool) → filter_by p (map f xs) ≡ map f (filter_by (λ a. p (f a)) xs) → keep_if t (f x) (filter_by p (map f xs)) ≡ map f (keep_if t x (filter_by (λ a. p (f a)) xs))
      go true h = ap (λ (l : List B). f x ∷ l) h
      go false h = h

  pub position_map : (l : List A) → position p (map f l) ≡ position (λ a. p (f a)) l
  position_map [] = refl
  position_map (x ∷ xs) = ap (λ (k : ℕ). cond (p (f x)) zero (suc k)) (position_map xs)

-- the numbers that pass, one number more
pub pick_snoc : {B : Type 0} (p : ℕ → Bool) (f : ℕ → B) (n : ℕ) → map f (filter_by p (below (suc n))) ≡ map f (filter_by p (below n)) ++ keep_if (p n) (f n) []
pick_snoc {B} p f n =
    ap (λ (l : List ℕ). map f (filter_by p l)) (below_snoc n)
    ∙ ap (map f) (filter_append p (below n) (n ∷ []))
    ∙ map-append f (filter_by p (below n)) (keep_if (p n) n [])
    ∙ ap (λ (l : List B). map f (filter_by p (below n)) ++ l) (go (p n))
  where
    go : (t : Bool) → map f (keep_if t n []) ≡ keep_if t (f n) []
    go true = refl
    go false = refl

-- ---- the first element that passes

-- it stands at the length exactly where none passes
pub position_none : {A : Type 0} (p : A → Bool) (l : List A) → eqb (position (λ a. not (p a)) l) (length l) ≡ all p l
position_none p [] = refl
position_none p (x ∷ xs) = go (p x) (position_none p xs)
  where
    go : (t : Bool) → eqb (position (λ a. not (p a)) xs) (length xs) ≡ all p xs → eqb (cond (not t) zero (suc (position (λ a. not (p a)) xs))) (suc (length xs)) ≡ t && all p xs
    go true h = eqb-suc-suc (position (λ a. not (p a)) xs) (length xs) ∙ h
    go false h = ne_eqb 0 (suc (length xs)) (λ e. omega arith)
