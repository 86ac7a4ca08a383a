-- Laws of lists in which each element stands once: joined, filtered, and mapped. Assumes nothing.
use mathlib.Core.Path.{◌≡◌, refl, sym, ap, ap₂, ◌∙◌}
use mathlib.Core.Bool.{Bool, true, false, ◌&&◌, ◌||◌, not, cond}
use mathlib.Core.Logic.{◌⊎◌, inl, inr}
use mathlib.Core.List.Memᴰ
use mathlib.Core.List.{List, [], ◌∷◌, ◌++◌, map, append-nil, append_assoc}
use Prim.Native.Nat.{ℕ, ◌+◌, ◌≤◌}
use native.Mathlib.Omega.{arith}
use lib.Dec.{eqb}
use lib.ListN.{length}
use borrow.Author.Tests.{eqb-true}
use Rattle.records.specs.Lists.{In, add_if, keep_if, filter_by, count_by, all, same_list, elem, distinct, dedup}
use Rattle.records.proofs.Lists.{bool_cases, off, clash, eqb_same, same_list_eq, same_list_self, in_elem, elem_in, in_dedup, dedup_in, filter_append, filter_agree, any_append, count_append, count_pos, count_none, single_count}
use Rattle.literals.proofs.Indices.{filter_filter, filter_map}
use Rattle.store.specs.Held.{has_row}
use Rattle.effects.specs.Held.{join_row, join_rows}

-- ---- two tests

-- what the second test refuses, the first refuses
filter_absorb : {A : Type 0} (p q : A → Bool) (l : List A) → ((a : A) → In a l → q a && p a ≡ p a) → filter_by p (filter_by q l) ≡ filter_by p l
filter_absorb p q l h = filter_filter q p l ∙ filter_agree (λ a. q a && p a) p l h

and_swap : (a b : Bool) → a && b ≡ b && a
and_swap true true = refl
and_swap true false = refl
and_swap false true = refl
and_swap false false = refl

filter_swap : {A : Type 0} (p q : A → Bool) (l : List A) → filter_by p (filter_by q l) ≡ filter_by q (filter_by p l)
filter_swap {A} p q l =
    filter_filter q p l
    ∙ filter_agree (λ a. q a && p a) (λ a. p a && q a) l (λ a m. and_swap (q a) (p a))
    ∙ sym (filter_filter p q l)

-- ---- by a test that decides equality

module _ {A : Type 0} (eq : A → A → Bool) (sound : (a b : A) → eq a b ≡ true → a ≡ b) (self : (a : A) → eq a a ≡ true) where
  eq_comm : (a b : A) → eq a b ≡ eq b a
  eq_comm a b = go (bool_cases (eq a b))
    where
      go : (eq a b ≡ true) ⊎ (eq a b ≡ false) → eq a b ≡ eq b a
      go (inl t) = ap (λ (x : A). eq x b) (sound a b t) ∙ ap (eq b) (sym (sound a b t))
      go (inr f) = f ∙ sym (off (eq b a) (λ t. clash (ap (eq a) (sound b a t) ∙ self a) f))

  elem_dedup : (x : A) (l : List A) → elem eq x (dedup eq l) ≡ elem eq x l
  elem_dedup x l = go (bool_cases (elem eq x l))
    where
      go : (elem eq x l ≡ true) ⊎ (elem eq x l ≡ false) → elem eq x (dedup eq l) ≡ elem eq x l
      go (inl t) = in_elem eq self (in_dedup eq sound (elem_in eq sound x l t)) ∙ sym t
      go (inr f) = off _ (λ t. clash (in_elem eq self (dedup_in eq l (elem_in eq sound x (dedup eq l) t))) f) ∙ sym f

  -- the first of equal elements passes where all of them do
  filter_dedup : (p : A → Bool) (l : List A) → filter_by p (dedup eq l) ≡ dedup eq (filter_by p l)
  filter_dedup p [] = refl
  filter_dedup p (x ∷ xs) = go (p x) refl (filter_dedup p xs)
    where
      other : A → Bool
      other y = not (eq x y)

      refused : p x ≡ false → (a : A) → In a (dedup eq xs) → other a && p a ≡ p a
      refused e a m = by (bool_cases (eq x a))
        where
          by : (eq x a ≡ true) ⊎ (eq x a ≡ false) → other a && p a ≡ p a
          by (inl t) = ap (λ (b : Bool). not b && p a) t ∙ sym (ap p (sym (sound x a t)) ∙ e)
          by (inr f) = ap (λ (b : Bool). not b && p a) f

      go : (b : Bool) → p x ≡ b → filter_by p (dedup eq xs) ≡ dedup eq (filter_by p xs)
          → keep_if b x (filter_by p (filter_by other (dedup eq xs))) ≡ dedup eq (keep_if b x (filter_by p xs))
      go true e h = ap {B = List A} (λ l. x ∷ l) (filter_swap p other (dedup eq xs) ∙ ap (filter_by other) h)
      go false e h = filter_absorb p other (dedup eq xs) (refused e) ∙ h

  -- not among some, with one more in front
  one_more : (x : A) (xs l : List A)
      → filter_by (λ y. not (eq x y)) (filter_by (λ a. not (elem eq a xs)) l) ≡ filter_by (λ a. not (elem eq a (x ∷ xs))) l
  one_more x xs l =
      filter_filter (λ a. not (elem eq a xs)) (λ y. not (eq x y)) l
      ∙ filter_agree (λ a. not (elem eq a xs) && not (eq x a)) (λ a. not (elem eq a (x ∷ xs))) l
      (λ a m. ap (λ (b : Bool). not (elem eq a xs) && not b) (eq_comm x a) ∙ neither (eq a x) (elem eq a xs))
    where
      neither : (a b : Bool) → not b && not a ≡ not (a || b)
      neither true true = refl
      neither true false = refl
      neither false true = refl
      neither false false = refl

  dedup_append : (xs ys : List A) → dedup eq (xs ++ ys) ≡ dedup eq xs ++ filter_by (λ a. not (elem eq a xs)) (dedup eq ys)
  dedup_append [] ys = sym (everything (dedup eq ys))
    where
      everything : (l : List A) → filter_by (λ a. true) l ≡ l
      everything [] = refl
      everything (x ∷ xs) = ap {B = List A} (λ l. x ∷ l) (everything xs)
  dedup_append (x ∷ xs) ys =
      ap {B = List A} (λ l. x ∷ l)
      (ap (filter_by (λ y. not (eq x y))) (dedup_append xs ys)
      ∙ filter_append (λ y. not (eq x y)) (dedup eq xs) (filter_by (λ a. not (elem eq a xs)) (dedup eq ys))
      ∙ ap (λ (l : List A). filter_by (λ y. not (eq x y)) (dedup eq xs) ++ l) (one_more x xs (dedup eq ys)))

  -- lists with the same elements in the same order, repeats aside
  same_elem : (xs ys : List A) → dedup eq xs ≡ dedup eq ys → (a : A) → elem eq a xs ≡ elem eq a ys
  same_elem xs ys e a = sym (elem_dedup a xs) ∙ ap (elem eq a) e ∙ elem_dedup a ys

  pub same_append : (xs xs' ys ys' : List A) → dedup eq xs ≡ dedup eq xs' → dedup eq ys ≡ dedup eq ys' → dedup eq (xs ++ ys) ≡ dedup eq (xs' ++ ys')
  same_append xs xs' ys ys' e f =
      dedup_append xs ys
      ∙ ap₂ {C = List A} ◌++◌ e
      (ap (filter_by (λ a. not (elem eq a xs))) f
      ∙ filter_agree (λ a. not (elem eq a xs)) (λ a. not (elem eq a xs')) (dedup eq ys') (λ a m. ap not (same_elem xs xs' e a)))
      ∙ sym (dedup_append xs' ys')

  -- one of each pair of tests passes
  count_either : (p q : A → Bool) (l : List A) → count_by (λ a. p a || q a) l ≤ count_by p l + count_by q l
  count_either p q [] = omega arith
  count_either p q (x ∷ xs) = go (p x) (q x) (count_either p q xs)
    where
      go : (b c : Bool) → count_by (λ a. p a || q a) xs ≤ count_by p xs + count_by q xs
          → add_if (b || c) (count_by (λ a. p a || q a) xs) ≤ add_if b (count_by p xs) + add_if c (count_by q xs)
      go true true h = omega arith
      go true false h = omega arith
      go false true h = omega arith
      go false false h = h

  -- where no element stands twice, no more of them are among some others than there are others
  count_among : (l others : List A) → distinct eq l ≡ true → count_by (λ a. elem eq a others) l ≤ length others
  count_among l [] o = let z = count_none (λ (a : A). false) l (λ a m t. clash t refl) in omega arith
  count_among l (x ∷ xs) o =
      let e = count_either (λ a. eq a x) (λ a. elem eq a xs) l in
      let s = single_count (λ a. eq a x) eq self l o (λ a b m n s t. sound a x s ∙ sym (sound b x t)) in
      let r = count_among l xs o in
      omega arith

  -- so once as many are found as there are others, no later one is among them
  pub none_left : (xs ys others : List A) → distinct eq (xs ++ ys) ≡ true → length others ≤ count_by (λ a. elem eq a others) xs
      → (a : A) → In a ys → elem eq a others ≡ false
  none_left xs ys others o h a m =
      off (elem eq a others)
      (λ t.
      let c = count_append (λ (b : A). elem eq b others) xs ys in
      let p = count_pos (λ (b : A). elem eq b others) m t in
      let r = count_among (xs ++ ys) others o in
      omega arith)

-- a map, before which repeats may be left out
module _ {A B : Type 0} (f : A → B) (eq : A → A → Bool) (sound : (a b : A) → eq a b ≡ true → a ≡ b)
    (eq' : B → B → Bool) (sound' : (a b : B) → eq' a b ≡ true → a ≡ b) (self' : (b : B) → eq' b b ≡ true) where
  others : (x : A) (l : List A) → filter_by (λ b. not (eq' (f x) b)) (map f (filter_by (λ a. not (eq x a)) l)) ≡ filter_by (λ b. not (eq' (f x) b)) (map f l)
  others x l =
      filter_map f (λ b. not (eq' (f x) b)) (filter_by (λ a. not (eq x a)) l)
      ∙ ap (map f) (filter_absorb (λ a. not (eq' (f x) (f a))) (λ a. not (eq x a)) l (λ a m. by a (bool_cases (eq x a))))
      ∙ sym (filter_map f (λ b. not (eq' (f x) b)) l)
    where
      by : (a : A) → (eq x a ≡ true) ⊎ (eq x a ≡ false) → not (eq x a) && not (eq' (f x) (f a)) ≡ not (eq' (f x) (f a))
      by a (inl t) =
          ap (λ (b : Bool). not b && not (eq' (f x) (f a))) t
          ∙ sym (ap not (ap (λ (b : B). eq' (f x) b) (ap f (sym (sound x a t))) ∙ self' (f x)))
      by a (inr n) = ap (λ (b : Bool). not b && not (eq' (f x) (f a))) n

  pub dedup_map_dedup : (l : List A) → dedup eq' (map f (dedup eq l)) ≡ dedup eq' (map f l)
  dedup_map_dedup [] = refl
  dedup_map_dedup (x ∷ xs) =
      ap {B = List B} (λ l. f x ∷ l)
      (filter_dedup eq' sound' self' (λ b. not (eq' (f x) b)) (map f (filter_by (λ a. not (eq x a)) (dedup eq xs)))
      ∙ ap (dedup eq') (others x (dedup eq xs))
      ∙ sym (filter_dedup eq' sound' self' (λ b. not (eq' (f x) b)) (map f (dedup eq xs)))
      ∙ ap (filter_by (λ b. not (eq' (f x) b))) (dedup_map_dedup xs))

-- a map under which the tests agree, on some elements
module _ {A B : Type 0} (f : A → B) (eq : A → A → Bool) (eq' : B → B → Bool) where
  elem_map : (a : A) (l : List A) → ((b : A) → In b l → eq' (f a) (f b) ≡ eq a b) → elem eq' (f a) (map f l) ≡ elem eq a l
  elem_map a [] h = refl
  elem_map a (x ∷ xs) h = ap₂ ◌||◌ (h x (Memᴰ.head refl)) (elem_map a xs (λ b m. h b (Memᴰ.tail m)))

  -- what is not among some others
  pub outside_map : (l others : List A) → ((a b : A) → In a l → In b others → eq' (f a) (f b) ≡ eq a b)
      → filter_by (λ b. not (elem eq' b (map f others))) (map f l) ≡ map f (filter_by (λ a. not (elem eq a others)) l)
  outside_map l others h =
      filter_map f (λ b. not (elem eq' b (map f others))) l
      ∙ ap (map f) (filter_agree (λ a. not (elem eq' (f a) (map f others))) (λ a. not (elem eq a others)) l (λ a m. ap not (elem_map a others (λ b n. h a b m n))))

  pub dedup_map : (l : List A) → ((a b : A) → In a l → In b l → eq' (f a) (f b) ≡ eq a b) → dedup eq' (map f l) ≡ map f (dedup eq l)
  dedup_map [] h = refl
  dedup_map (x ∷ xs) h =
      ap {B = List B} (λ l. f x ∷ l)
      (ap (filter_by (λ b. not (eq' (f x) b))) (dedup_map xs (λ a b m n. h a b (Memᴰ.tail m) (Memᴰ.tail n)))
      ∙ filter_map f (λ b. not (eq' (f x) b)) (dedup eq xs)
      ∙ ap (map f)
      (filter_agree (λ a. not (eq' (f x) (f a))) (λ a. not (eq x a)) (dedup eq xs)
      (λ a m. ap not (h x a (Memᴰ.head refl) (Memᴰ.tail (dedup_in eq xs m))))))

  all_other : (x : A) (l : List A) → ((b : A) → In b l → eq' (f x) (f b) ≡ eq x b) → all (λ b. not (eq' (f x) b)) (map f l) ≡ all (λ a. not (eq x a)) l
  all_other x [] h = refl
  all_other x (y ∷ ys) h = ap₂ ◌&&◌ (ap not (h y (Memᴰ.head refl))) (all_other x ys (λ b m. h b (Memᴰ.tail m)))

  -- an element stands twice where its image does
  pub distinct_map : (l : List A) → ((a b : A) → In a l → In b l → eq' (f a) (f b) ≡ eq a b) → distinct eq' (map f l) ≡ distinct eq l
  distinct_map [] h = refl
  distinct_map (x ∷ xs) h =
      ap₂ ◌&&◌ (all_other x xs (λ b m. h x b (Memᴰ.head refl) (Memᴰ.tail m))) (distinct_map xs (λ a b m n. h a b (Memᴰ.tail m) (Memᴰ.tail n)))

-- ---- rows that join

pub row_sound : (x y : List ℕ) → same_list eqb x y ≡ true → x ≡ y
row_sound = same_list_eq eqb eqb-true

pub row_self : (x : List ℕ) → same_list eqb x x ≡ true
row_self = same_list_self eqb eqb_same

-- those that join stand behind, each once
pub joined_rows : (rows more : List (List ℕ)) → join_rows rows more ≡ rows ++ filter_by (λ row. not (has_row row rows)) (dedup (same_list eqb) more)
joined_rows rows [] = sym (append-nil rows)
joined_rows rows (row ∷ more) = go (has_row row rows) refl (λ l. joined_rows l more)
  where
    other : List ℕ → Bool
    other y = not (same_list eqb row y)

    rest : List (List ℕ)
    rest = dedup (same_list eqb) more

    there : has_row row rows ≡ true → (a : List ℕ) → In a rest → other a && not (has_row a rows) ≡ not (has_row a rows)
    there t a m = by (bool_cases (same_list eqb row a))
      where
        by : (same_list eqb row a ≡ true) ⊎ (same_list eqb row a ≡ false) → other a && not (has_row a rows) ≡ not (has_row a rows)
        by (inl e) = ap (λ (b : Bool). not b && not (has_row a rows)) e ∙ sym (ap not (ap (λ (x : List ℕ). has_row x rows) (sym (row_sound row a e)) ∙ t))
        by (inr f) = ap (λ (b : Bool). not b && not (has_row a rows)) f

    neither : (a b : Bool) → not b && not a ≡ not (a || (b || false))
    neither true true = refl
    neither true false = refl
    neither false true = refl
    neither false false = refl

    behind : filter_by (λ a. not (has_row a (rows ++ (row ∷ [])))) rest ≡ filter_by (λ a. not (has_row a rows)) (filter_by other rest)
    behind =
        filter_agree (λ a. not (has_row a (rows ++ (row ∷ [])))) (λ a. other a && not (has_row a rows)) rest
        (λ a m. ap not (any_append (same_list eqb a) rows (row ∷ []))
        ∙ sym (ap (λ (b : Bool). not b && not (has_row a rows)) (eq_comm (same_list eqb) row_sound row_self row a) ∙ neither (has_row a rows) (same_list eqb a row)))
        ∙ sym (filter_filter other (λ a. not (has_row a rows)) rest)

    go : (b : Bool) → has_row row rows ≡ b → ((l : List (List ℕ)) → join_rows l more ≡ l ++ filter_by (λ a. not (has_row a l)) rest)
        → join_rows (cond b rows (rows ++ (row ∷ []))) more ≡ rows ++ keep_if (not b) row (filter_by (λ a. not (has_row a rows)) (filter_by other rest))
    go true t ih = ih rows ∙ ap (λ (l : List (List ℕ)). rows ++ l) (sym (filter_absorb (λ a. not (has_row a rows)) other rest (there t)))
    go false f ih =
        ih (rows ++ (row ∷ []))
        ∙ append_assoc rows (row ∷ []) (filter_by (λ a. not (has_row a (rows ++ (row ∷ [])))) rest)
        ∙ ap (λ (l : List (List ℕ)). rows ++ (row ∷ l)) behind

pub join_snoc : (rows more : List (List ℕ)) (row : List ℕ) → join_rows rows (more ++ (row ∷ [])) ≡ join_row (join_rows rows more) row
join_snoc rows [] row = refl
join_snoc rows (x ∷ more) row = join_snoc (join_row rows x) more row

pub join_append : (rows more others : List (List ℕ)) → join_rows rows (more ++ others) ≡ join_rows (join_rows rows more) others
join_append rows [] others = refl
join_append rows (x ∷ more) others = join_append (join_row rows x) more others
