-- Laws that turn a test, `b ≡ true`, into a fact and back, and laws of lists. Assumes nothing.
use mathlib.Core.Path.{◌≡◌, refl, sym, ap, ap₂, ◌∙◌}
use mathlib.Core.Bool.{Bool, true, false, not, ◌&&◌, ◌||◌, cond, true≢false, false≢true}
use mathlib.Core.Logic.{◌⊎◌, inl, inr}
use mathlib.Core.List.Memᴰ
use mathlib.Core.List.{List, [], ◌∷◌, ◌++◌, map, flat_map, append-nil, append_assoc}
use Prim.Native.Nat.{ℕ, zero, suc, ◌+◌, ◌≤◌, ◌<◌}
use native.Mathlib.Numerals.{add-one}
use native.Mathlib.Omega.{arith}
use lib.Dec.{eqb}
use lib.ListN.{length, get_or, take, drop, length-append, drop_of_length-le}
use lib.Seq.{drop-cons}
use borrow.Author.Tests.{eqb-true, eqb-false, eq-eqb}
use Rattle.records.specs.Lists.{add_if, keep_if, filter_by, count_by, all, any, pairwise, first_at, empty, In, same_list, elem, distinct, dedup}

-- ---- tests

pub and_l : (a b : Bool) → a && b ≡ true → a ≡ true
and_l true b t = refl
and_l false b t = t

pub and_r : (a b : Bool) → a && b ≡ true → b ≡ true
and_r true b t = t
and_r false b t = absurd (false≢true t)

pub and_i : {a b : Bool} → a ≡ true → b ≡ true → a && b ≡ true
and_i s t = rw (s, t)

pub or_l : {a : Bool} (b : Bool) → a ≡ true → a || b ≡ true
or_l b t = rw t

pub or_r : (a : Bool) {b : Bool} → b ≡ true → a || b ≡ true
or_r true t = refl
or_r false t = t

pub or_cases : (a b : Bool) → a || b ≡ true → (a ≡ true) ⊎ (b ≡ true)
or_cases true b t = inl refl
or_cases false b t = inr t

-- of two tests neither
pub or_out : (a b : Bool) → a || b ≡ false → (a ≡ false) × (b ≡ false)
or_out true b t = absurd (true≢false t)
or_out false b t = (refl, t)

pub bool_cases : (b : Bool) → (b ≡ true) ⊎ (b ≡ false)
bool_cases true = inl refl
bool_cases false = inr refl

pub not_true : (b : Bool) → not b ≡ true → b ≡ false
not_true true t = sym t
not_true false t = refl

pub not_false : (b : Bool) → not b ≡ false → b ≡ true
not_false true t = refl
not_false false t = sym t

-- a test that is not true is false
pub off : (b : Bool) → (b ≡ true → ⊥) → b ≡ false
off true h = absurd (h refl)
off false h = refl

pub clash : {b : Bool} → b ≡ true → b ≡ false → ⊥
clash p q = true≢false (sym p ∙ q)

pub eqb_same : (n : ℕ) → eqb n n ≡ true
eqb_same n = eq-eqb n n refl

-- ---- lists

module _ {A : Type 0} where
  pub in_keep_if : (b : Bool) {a : A} (x : A) (l : List A) → In a (keep_if b x l) → ((b ≡ true) × (a ≡ x)) ⊎ In a l
  in_keep_if true x l (Memᴰ.head e) = inl (refl, e)
  in_keep_if true x l (Memᴰ.tail m) = inr m
  in_keep_if false x l m = inr m

  pub keep_if_tail : (b : Bool) {a : A} (x : A) {l : List A} → In a l → In a (keep_if b x l)
  keep_if_tail true x m = Memᴰ.tail m
  keep_if_tail false x m = m

  pub filter_in : (p : A → Bool) {a : A} (l : List A) → In a (filter_by p l) → In a l × (p a ≡ true)
  filter_in p [] m = absurd (Memᴰ.not-nil m)
  filter_in p {a} (x ∷ xs) m = go (λ k. filter_in p xs k) (in_keep_if (p x) x (filter_by p xs) m)
    where
      go : (In a (filter_by p xs) → In a xs × (p a ≡ true)) → ((p x ≡ true) × (a ≡ x)) ⊎ In a (filter_by p xs) → In a (x ∷ xs) × (p a ≡ true)
      go ih (inl h) = (Memᴰ.head h.1, ap p h.1 ∙ h.0)
      go ih (inr k) = (Memᴰ.tail (ih k).0, (ih k).1)

  pub in_filter : (p : A → Bool) {a : A} {l : List A} → In a l → p a ≡ true → In a (filter_by p l)
  in_filter p (Memᴰ.head {x = x} {xs = xs} e) t = rw (sym (ap p e) ∙ t) (Memᴰ.head e)
  in_filter p (Memᴰ.tail {x = x} m) t = keep_if_tail (p x) x (in_filter p m t)

  pub all_in : (p : A → Bool) {a : A} (l : List A) → all p l ≡ true → In a l → p a ≡ true
  all_in p l t (Memᴰ.head {x = x} e) = ap p e ∙ and_l _ _ t
  all_in p l t (Memᴰ.tail {x = x} {xs = xs} m) = all_in p xs (and_r (p x) _ t) m

  pub all_of : (p : A → Bool) (l : List A) → ((a : A) → In a l → p a ≡ true) → all p l ≡ true
  all_of p [] h = refl
  all_of p (x ∷ xs) h = and_i (h x (Memᴰ.head refl)) (all_of p xs (λ a m. h a (Memᴰ.tail m)))

  pub in_any : (p : A → Bool) {a : A} {l : List A} → In a l → p a ≡ true → any p l ≡ true
  in_any p (Memᴰ.head {xs = xs} e) t = or_l (any p xs) (sym (ap p e) ∙ t)
  in_any p (Memᴰ.tail {x = x} m) t = or_r (p x) (in_any p m t)

  pub any_in : (p : A → Bool) (l : List A) → any p l ≡ true → (a : A) × In a l × (p a ≡ true)
  any_in p [] t = absurd (false≢true t)
  any_in p (x ∷ xs) t = go (λ k. any_in p xs k) (or_cases (p x) (any p xs) t)
    where
      go : (any p xs ≡ true → (a : A) × In a xs × (p a ≡ true)) → (p x ≡ true) ⊎ (any p xs ≡ true) → (a : A) × In a (x ∷ xs) × (p a ≡ true)
      go ih (inl h) = (x, Memᴰ.head refl, h)
      go ih (inr k) = let r = ih k in (r.0, Memᴰ.tail r.1, r.2)

  -- where no element passes, none does
  pub any_out : (p : A → Bool) {a : A} {l : List A} → any p l ≡ false → In a l → p a ≡ false
  any_out p {a} e m = off (p a) (λ t. clash (in_any p m t) e)

  pub all_append : (p : A → Bool) (xs ys : List A) → all p xs ≡ true → all p ys ≡ true → all p (xs ++ ys) ≡ true
  all_append p [] ys s t = t
  all_append p (x ∷ xs) ys s t = and_i (and_l (p x) _ s) (all_append p xs ys (and_r (p x) _ s) t)

  -- an element at an index is an element
  pub get_d_in : (l : List A) (i : ℕ) (d : A) → i < length l → In (get_or l i d) l
  get_d_in [] i d h = absurd (omega arith)
  get_d_in (x ∷ xs) zero d h = Memᴰ.head refl
  get_d_in (x ∷ xs) (suc i) d h = Memᴰ.tail (get_d_in xs i d (omega arith))

  -- and an element stands at an index
  pub in_get_d : {a : A} (l : List A) (d : A) → In a l → (i : ℕ) × (i < length l) × (get_or l i d ≡ a)
  in_get_d (x ∷ xs) d (Memᴰ.head e) = (0, omega arith, sym e)
  in_get_d (x ∷ xs) d (Memᴰ.tail m) = let r = in_get_d xs d m in let h = r.1 in (suc r.0, omega arith, r.2)
  in_get_d [] d m = absurd (Memᴰ.not-nil m)

  -- ---- counting

  pub count_append : (p : A → Bool) (xs ys : List A) → count_by p (xs ++ ys) ≡ count_by p xs + count_by p ys
  count_append p [] ys = omega arith
  count_append p (x ∷ xs) ys = go (p x) (count_append p xs ys)
    where
      go : (b : Bool) → count_by p (xs ++ ys) ≡ count_by p xs + count_by p ys → add_if b (count_by p (xs ++ ys)) ≡ add_if b (count_by p xs) + count_by p ys
      go true h = omega arith
      go false h = h

  pub count_filter : (p : A → Bool) (l : List A) → count_by p l ≡ length (filter_by p l)
  count_filter p [] = refl
  count_filter p (x ∷ xs) = go (p x) (count_filter p xs)
    where
      go : (b : Bool) → count_by p xs ≡ length (filter_by p xs) → add_if b (count_by p xs) ≡ length (keep_if b x (filter_by p xs))
      go true h = ap suc h
      go false h = h

  -- ---- by a test of equality

  module _ (eq : A → A → Bool) (sound : (a b : A) → eq a b ≡ true → a ≡ b) where
    pub same_list_eq : (x y : List A) → same_list eq x y ≡ true → x ≡ y
    same_list_eq [] [] t = refl
    same_list_eq [] (y ∷ ys) t = absurd (false≢true t)
    same_list_eq (x ∷ xs) [] t = absurd (false≢true t)
    same_list_eq (x ∷ xs) (y ∷ ys) t = ap₂ ◌∷◌ (sound x y (and_l _ _ t)) (same_list_eq xs ys (and_r (eq x y) _ t))

    pub elem_in : (a : A) (l : List A) → elem eq a l ≡ true → In a l
    elem_in a l t = let r = any_in (eq a) l t in Memᴰ.cast (sound a r.0 r.2) r.1

    pub in_dedup : {a : A} {l : List A} → In a l → In a (dedup eq l)
    in_dedup (Memᴰ.head e) = Memᴰ.head e
    in_dedup {a} (Memᴰ.tail {x = x} {xs = xs} m) = go (bool_cases (eq x a)) (in_dedup m)
      where
        go : (eq x a ≡ true) ⊎ (eq x a ≡ false) → In a (dedup eq xs) → In a (dedup eq (x ∷ xs))
        go (inl t) k = Memᴰ.head (sym (sound x a t))
        go (inr t) k = Memᴰ.tail (in_filter (λ y. not (eq x y)) k (ap not t))

  module _ (eq : A → A → Bool) (self : (a : A) → eq a a ≡ true) where
    pub same_list_self : (x : List A) → same_list eq x x ≡ true
    same_list_self [] = refl
    same_list_self (x ∷ xs) = and_i (self x) (same_list_self xs)

    pub in_elem : {a : A} {l : List A} → In a l → elem eq a l ≡ true
    in_elem {a} m = in_any (eq a) m (self a)

    pub not_elem : (a : A) (l : List A) → not (elem eq a l) ≡ true → In a l → ⊥
    not_elem a l e m = clash (in_elem m) (not_true _ e)

  pub dedup_in : (eq : A → A → Bool) {a : A} (l : List A) → In a (dedup eq l) → In a l
  dedup_in eq [] m = m
  dedup_in eq (x ∷ xs) (Memᴰ.head e) = Memᴰ.head e
  dedup_in eq (x ∷ xs) (Memᴰ.tail m) = Memᴰ.tail (dedup_in eq xs (filter_in (λ y. not (eq x y)) (dedup eq xs) m).0)

-- ---- flat_map

module _ {A B : Type 0} (f : A → List B) where
  pub flat_map_in : {b : B} (l : List A) → In b (flat_map f l) → (a : A) × In a l × In b (f a)
  unfolding flat_map
  flat_map_in [] m = absurd (Memᴰ.not-nil m)
  flat_map_in {b} (x ∷ xs) m = go (λ n. flat_map_in xs n) (Memᴰ.append_cases (f x) m)
    where
      go : (In b (flat_map f xs) → (a : A) × In a xs × In b (f a)) → In b (f x) ⊎ In b (flat_map f xs) → (a : A) × In a (x ∷ xs) × In b (f a)
      go ih (inl n) = (x, Memᴰ.head refl, n)
      go ih (inr n) = let r = ih n in (r.0, Memᴰ.tail r.1, r.2)

  pub in_flat_map : {a : A} {b : B} {l : List A} → In a l → In b (f a) → In b (flat_map f l)
  unfolding flat_map
  in_flat_map (Memᴰ.head {xs = xs} e) m = Memᴰ.append_left (flat_map f xs) (rw e at m)
  in_flat_map (Memᴰ.tail {x = x} n) m = Memᴰ.append_right (f x) (in_flat_map n m)

-- ---- one element more, and tests that do not mind the order

pub eqb_comm : (m n : ℕ) → eqb m n ≡ eqb n m
eqb_comm m n = go (bool_cases (eqb m n))
  where
    go : (eqb m n ≡ true) ⊎ (eqb m n ≡ false) → eqb m n ≡ eqb n m
    go (inl t) = t ∙ sym (eq-eqb n m (sym (eqb-true m n t)))
    go (inr f) = f ∙ sym (off (eqb n m) (λ t. clash (eq-eqb m n (sym (eqb-true n m t))) f))

module _ {A : Type 0} where
  pub same_list_comm : (eq : A → A → Bool) → ((a b : A) → eq a b ≡ eq b a) → (x y : List A) → same_list eq x y ≡ same_list eq y x
  same_list_comm eq h [] [] = refl
  same_list_comm eq h [] (y ∷ ys) = refl
  same_list_comm eq h (x ∷ xs) [] = refl
  same_list_comm eq h (x ∷ xs) (y ∷ ys) = ap₂ ◌&&◌ (h x y) (same_list_comm eq h xs ys)

  pub all_snoc : (p : A → Bool) (xs : List A) (x : A) → all p xs ≡ true → p x ≡ true → all p (xs ++ (x ∷ [])) ≡ true
  all_snoc p xs x s t = all_append p xs (x ∷ []) s (and_i t refl)

  pub pairwise_snoc : (r : A → A → Bool) (xs : List A) (x : A) → pairwise r xs ≡ true → all (λ y. r y x) xs ≡ true → pairwise r (xs ++ (x ∷ [])) ≡ true
  pairwise_snoc r [] x s t = refl
  pairwise_snoc r (y ∷ ys) x s t =
      and_i (all_snoc (r y) ys x (and_l _ _ s) (and_l _ _ t)) (pairwise_snoc r ys x (and_r (all (r y) ys) _ s) (and_r (r y x) _ t))

  -- where a test implies another, so on every element
  pub all_weaken : (p q : A → Bool) (l : List A) → ((a : A) → p a ≡ true → q a ≡ true) → all p l ≡ true → all q l ≡ true
  all_weaken p q l h t = all_of q l (λ a m. h a (all_in p l t m))

  pub pairwise_weaken : (r s : A → A → Bool) (l : List A) → ((a b : A) → r a b ≡ true → s a b ≡ true) → pairwise r l ≡ true → pairwise s l ≡ true
  pairwise_weaken r s [] h t = refl
  pairwise_weaken r s (x ∷ xs) h t = and_i (all_weaken (r x) (s x) xs (h x) (and_l _ _ t)) (pairwise_weaken r s xs h (and_r (all (r x) xs) _ t))

  -- where no element passes, each passes the test that this implies
  pub any_none : (p q : A → Bool) (l : List A) → ((a : A) → p a ≡ false → q a ≡ true) → any p l ≡ false → all q l ≡ true
  any_none p q l h e = all_of q l (λ a m. h a (any_out p e m))

pub all_map : {A B : Type 0} (f : A → B) (p : B → Bool) (l : List A) → all p (map f l) ≡ all (λ a. p (f a)) l
all_map f p [] = refl
all_map f p (x ∷ xs) = ap (λ (b : Bool). p (f x) && b) (all_map f p xs)

-- ---- counting, as facts

module _ {A : Type 0} (p : A → Bool) where
  pub count_pos : {a : A} {l : List A} → In a l → p a ≡ true → 1 ≤ count_by p l
  count_pos (Memᴰ.head {xs = xs} e) t = rw (sym (ap p e) ∙ t) (omega arith)
  count_pos (Memᴰ.tail {x = x} {xs = xs} m) t = go (p x) (count_pos m t)
    where
      go : (b : Bool) → 1 ≤ count_by p xs → 1 ≤ add_if b (count_by p xs)
      go true h = omega arith
      go false h = h

  pub count_none : (l : List A) → ((a : A) → In a l → p a ≡ true → ⊥) → count_by p l ≡ 0
  count_none [] h = refl
  count_none (x ∷ xs) h = go (p x) refl (count_none xs (λ a m. h a (Memᴰ.tail m)))
    where
      go : (b : Bool) → p x ≡ b → count_by p xs ≡ 0 → add_if b (count_by p xs) ≡ 0
      go true e r = absurd (h x (Memᴰ.head refl) e)
      go false e r = r

  pub count_some : (l : List A) → 1 ≤ count_by p l → (a : A) × In a l × (p a ≡ true)
  count_some [] h = absurd (omega arith)
  count_some (x ∷ xs) h = go (p x) refl h (λ k. count_some xs k)
    where
      go : (b : Bool) → p x ≡ b → 1 ≤ add_if b (count_by p xs) → (1 ≤ count_by p xs → (a : A) × In a xs × (p a ≡ true)) → (a : A) × In a (x ∷ xs) × (p a ≡ true)
      go true e k ih = (x, Memᴰ.head refl, e)
      go false e k ih = let r = ih k in (r.0, Memᴰ.tail r.1, r.2)

  -- where at most one passes, any two that pass are equal
  pub count_single : (l : List A) → count_by p l ≤ 1 → (a b : A) → In a l → In b l → p a ≡ true → p b ≡ true → a ≡ b
  count_single [] le a b m n s t = absurd (Memᴰ.not-nil m)
  count_single (x ∷ xs) le a b (Memᴰ.head d) (Memᴰ.head e) s t = d ∙ sym e
  count_single (x ∷ xs) le a b (Memᴰ.head d) (Memᴰ.tail n) s t =
      let k = count_pos n t in
      let z : suc (count_by p xs) ≤ 1 = rw (sym (ap p d) ∙ s) at le in absurd (omega arith)
  count_single (x ∷ xs) le a b (Memᴰ.tail m) (Memᴰ.head e) s t =
      let k = count_pos m s in
      let z : suc (count_by p xs) ≤ 1 = rw (sym (ap p e) ∙ t) at le in absurd (omega arith)
  count_single (x ∷ xs) le a b (Memᴰ.tail m) (Memᴰ.tail n) s t = count_single xs (go (p x) le) a b m n s t
    where
      go : (b : Bool) → add_if b (count_by p xs) ≤ 1 → count_by p xs ≤ 1
      go true h = omega arith
      go false h = h

  -- and the other way round, where no element stands twice
  pub single_count : (eq : A → A → Bool) → ((a : A) → eq a a ≡ true) → (l : List A) → distinct eq l ≡ true
      → ((a b : A) → In a l → In b l → p a ≡ true → p b ≡ true → a ≡ b) → count_by p l ≤ 1
  single_count eq self [] o h = omega arith
  single_count eq self (x ∷ xs) o h =
      go (p x) refl (single_count eq self xs (and_r (all (λ y. not (eq x y)) xs) _ o) (λ a b m n. h a b (Memᴰ.tail m) (Memᴰ.tail n)))
    where
      other : (a : A) → In a xs → x ≡ a → ⊥
      other a m e = clash (sym (ap (eq x) e) ∙ self x) (not_true _ (all_in (λ y. not (eq x y)) xs (and_l _ _ o) m))

      go : (b : Bool) → p x ≡ b → count_by p xs ≤ 1 → add_if b (count_by p xs) ≤ 1
      go false e r = r
      go true e r = let z = count_none xs (λ a m t. other a m (h x a (Memᴰ.head refl) (Memᴰ.tail m) e t)) in omega arith

-- ---- every two elements pass; no element twice

module _ {A : Type 0} where
  pub all_filter : (p : A → Bool) (l : List A) → all p (filter_by p l) ≡ true
  all_filter p l = all_of p (filter_by p l) (λ a m. (filter_in p l m).1)

  pub filter_all : (p : A → Bool) (l : List A) → all p l ≡ true → filter_by p l ≡ l
  filter_all p [] h = refl
  filter_all p (x ∷ xs) h = rw (and_l (p x) _ h) (ap {B = List A} (λ l. x ∷ l) (filter_all p xs (and_r (p x) _ h)))

  pub pairwise_filter : (r : A → A → Bool) (p : A → Bool) (l : List A) → pairwise r l ≡ true → pairwise r (filter_by p l) ≡ true
  pairwise_filter r p [] o = refl
  pairwise_filter r p (x ∷ xs) o = go (p x) (pairwise_filter r p xs (and_r (all (r x) xs) _ o))
    where
      go : (b : Bool) → pairwise r (filter_by p xs) ≡ true → pairwise r (keep_if b x (filter_by p xs)) ≡ true
      go true h = and_i (all_of (r x) (filter_by p xs) (λ a m. all_in (r x) xs (and_l _ _ o) (filter_in p xs m).0)) h
      go false h = h

  pub pairwise_append : (r : A → A → Bool) (xs ys : List A) → pairwise r xs ≡ true → pairwise r ys ≡ true
      → ((a b : A) → In a xs → In b ys → r a b ≡ true) → pairwise r (xs ++ ys) ≡ true
  pairwise_append r [] ys s t h = t
  pairwise_append r (x ∷ xs) ys s t h =
      and_i (all_append (r x) xs ys (and_l _ _ s) (all_of (r x) ys (λ b n. h x b (Memᴰ.head refl) n)))
      (pairwise_append r xs ys (and_r (all (r x) xs) _ s) t (λ a b m n. h a b (Memᴰ.tail m) n))

  pub distinct_dedup : (eq : A → A → Bool) (l : List A) → distinct eq (dedup eq l) ≡ true
  distinct_dedup eq [] = refl
  distinct_dedup eq (x ∷ xs) =
      and_i (all_filter (λ y. not (eq x y)) (dedup eq xs)) (pairwise_filter (λ x y. not (eq x y)) (λ y. not (eq x y)) (dedup eq xs) (distinct_dedup eq xs))

  -- any two elements are equal, or pass one way round
  pub pairwise_in : (r : A → A → Bool) {a b : A} (l : List A) → pairwise r l ≡ true → In a l → In b l → (a ≡ b) ⊎ ((r a b ≡ true) ⊎ (r b a ≡ true))
  pairwise_in r {a} {b} (x ∷ xs) o (Memᴰ.head p) (Memᴰ.head q) = inl (p ∙ sym q)
  pairwise_in r {a} {b} (x ∷ xs) o (Memᴰ.head p) (Memᴰ.tail n) = inr (inl (ap (λ z. r z b) p ∙ all_in (r x) xs (and_l _ _ o) n))
  pairwise_in r {a} {b} (x ∷ xs) o (Memᴰ.tail m) (Memᴰ.head q) = inr (inr (ap (λ z. r z a) q ∙ all_in (r x) xs (and_l _ _ o) m))
  pairwise_in r {a} {b} (x ∷ xs) o (Memᴰ.tail m) (Memᴰ.tail n) = pairwise_in r xs (and_r (all (r x) xs) _ o) m n
  pairwise_in r {a} {b} [] o m n = absurd (Memᴰ.not-nil m)

-- ---- the first elements of a list

module _ {A : Type 0} where
  pub in_take : (n : ℕ) (l : List A) {a : A} → In a (take n l) → In a l
  in_take zero l m = absurd (Memᴰ.not-nil m)
  in_take (suc n) [] m = absurd (Memᴰ.not-nil m)
  in_take (suc n) (x ∷ xs) (Memᴰ.head e) = Memᴰ.head e
  in_take (suc n) (x ∷ xs) (Memᴰ.tail m) = Memᴰ.tail (in_take n xs m)

  -- an element before the one at an index passes with it
  pub pairwise_before : (r : A → A → Bool) (l : List A) (d : A) → pairwise r l ≡ true → (j : ℕ) → j < length l → {a : A} → In a (take j l) → r a (get_or l j d) ≡ true
  pairwise_before r [] d o j h m = absurd (omega arith)
  pairwise_before r (x ∷ xs) d o zero h m = absurd (Memᴰ.not-nil m)
  pairwise_before r (x ∷ xs) d o (suc j) h (Memᴰ.head e) = ap (λ z. r z (get_or xs j d)) e ∙ all_in (r x) xs (and_l _ _ o) (get_d_in xs j d (omega arith))
  pairwise_before r (x ∷ xs) d o (suc j) h (Memᴰ.tail m) = pairwise_before r xs d (and_r (all (r x) xs) _ o) j (omega arith) m

-- ---- lists joined together

module _ {A : Type 0} where
  pub any_append : (p : A → Bool) (xs ys : List A) → any p (xs ++ ys) ≡ any p xs || any p ys
  any_append p [] ys = refl
  any_append p (x ∷ xs) ys = go (p x) (any_append p xs ys)
    where
      go : (b : Bool) → any p (xs ++ ys) ≡ any p xs || any p ys → b || any p (xs ++ ys) ≡ (b || any p xs) || any p ys
      go true h = refl
      go false h = h

  pub filter_append : (p : A → Bool) (xs ys : List A) → filter_by p (xs ++ ys) ≡ filter_by p xs ++ filter_by p ys
  filter_append p [] ys = refl
  filter_append p (x ∷ xs) ys = go (p x) (filter_append p xs ys)
    where
      go : (b : Bool) → filter_by p (xs ++ ys) ≡ filter_by p xs ++ filter_by p ys → keep_if b x (filter_by p (xs ++ ys)) ≡ keep_if b x (filter_by p xs) ++ filter_by p ys
      go true h = ap {B = List A} (λ l. x ∷ l) h
      go false h = h

  -- tests that agree on every element
  pub filter_agree : (p q : A → Bool) (l : List A) → ((a : A) → In a l → p a ≡ q a) → filter_by p l ≡ filter_by q l
  filter_agree p q [] h = refl
  filter_agree p q (x ∷ xs) h = ap₂ (λ (t : Bool) (l : List A). keep_if t x l) (h x (Memᴰ.head refl)) (filter_agree p q xs (λ a m. h a (Memᴰ.tail m)))

  pub filter_none : (p : A → Bool) (l : List A) → ((a : A) → In a l → p a ≡ false) → filter_by p l ≡ []
  filter_none p [] h = refl
  filter_none p (x ∷ xs) h = rw (h x (Memᴰ.head refl)) (filter_none p xs (λ a m. h a (Memᴰ.tail m)))

  -- one more element, which joins unless it is there
  module _ (eq : A → A → Bool) (sound : (a b : A) → eq a b ≡ true → a ≡ b) (self : (a : A) → eq a a ≡ true) where
    pub dedup_snoc : (l : List A) (x : A) → dedup eq (l ++ (x ∷ [])) ≡ cond (elem eq x (dedup eq l)) (dedup eq l) (dedup eq l ++ (x ∷ []))
    dedup_snoc [] x = refl
    dedup_snoc (y ∷ ys) x = ap {B = List A} (λ l. y ∷ filter_by other l) (dedup_snoc ys x) ∙ go (eq x y) (elem eq x ds) refl refl
      where
        other : A → Bool
        other a = not (eq y a)

        ds : List A
        ds = dedup eq ys

        go : (b c : Bool) → eq x y ≡ b → elem eq x ds ≡ c
            → y ∷ filter_by other (cond c ds (ds ++ (x ∷ []))) ≡ cond (b || elem eq x (filter_by other ds)) (y ∷ filter_by other ds) (y ∷ (filter_by other ds ++ (x ∷ [])))
        go true true s t = refl
        go true false s t =
            let e : eq y x ≡ true = ap (eq y) (sound x y s) ∙ self y in
            ap {B = List A} (λ l. y ∷ l) (filter_append other ds (x ∷ []) ∙ rw e (append-nil (filter_by other ds)))
        go false true s t =
            rw (in_elem eq self (in_filter other (elem_in eq sound x ds t) (ap not (off (eq y x) (λ e. clash (ap (eq x) (sound y x e) ∙ self x) s)))))
        go false false s t =
            let e : eq y x ≡ false = off (eq y x) (λ e. clash (ap (eq x) (sound y x e) ∙ self x) s) in
            let n : elem eq x (filter_by other ds) ≡ false = off (elem eq x (filter_by other ds)) (λ m. clash (in_elem eq self (filter_in other ds (elem_in eq sound x (filter_by other ds) m)).0) t) in
            let f : filter_by other (ds ++ (x ∷ [])) ≡ filter_by other ds ++ (x ∷ []) = filter_append other ds (x ∷ []) ∙ rw e in
            rw (n, f)

pub any_map : {A B : Type 0} (f : A → B) (p : B → Bool) (l : List A) → any p (map f l) ≡ any (λ a. p (f a)) l
any_map f p [] = refl
any_map f p (x ∷ xs) = ap (λ (b : Bool). p (f x) || b) (any_map f p xs)

pub any_same : {A : Type 0} (p q : A → Bool) (l : List A) → ((a : A) → p a ≡ q a) → any p l ≡ any q l
any_same p q [] h = refl
any_same p q (x ∷ xs) h = ap₂ ◌||◌ (h x) (any_same p q xs h)

pub flat_map_append : {A B : Type 0} (f : A → List B) (xs ys : List A) → flat_map f (xs ++ ys) ≡ flat_map f xs ++ flat_map f ys
unfolding flat_map
flat_map_append f [] ys = refl
flat_map_append f (x ∷ xs) ys = rw (flat_map_append f xs ys, append_assoc)

-- one element more
pub flat_map_snoc : {A B : Type 0} (f : A → List B) (xs : List A) (x : A) → flat_map f (xs ++ (x ∷ [])) ≡ flat_map f xs ++ f x
unfolding flat_map
flat_map_snoc f xs x = flat_map_append f xs (x ∷ []) ∙ ap (λ l. flat_map f xs ++ l) (append-nil (f x))

pub in_snoc : {A : Type 0} {P : A → Type 0} (xs : List A) (x : A) → ((a : A) → In a xs → P a) → P x → (a : A) → In a (xs ++ (x ∷ [])) → P a
in_snoc {A} {P} xs x h hx a m = go (Memᴰ.append_cases xs m)
  where
    go : In a xs ⊎ In a (x ∷ []) → P a
    go (inl n) = h a n
    go (inr n) = rw (Memᴰ.eq_of_singleton n) hx

-- a map that another undoes
pub map_back : {A B : Type 0} (f : B → A) (g : A → B) → ((a : A) → f (g a) ≡ a) → (l : List A) → map f (map g l) ≡ l
map_back f g h [] = refl
map_back f g h (x ∷ xs) = ap₂ ◌∷◌ (h x) (map_back f g h xs)

-- ---- how many

module _ {A : Type 0} where
  pub empty_no : (l : List A) → 0 < length l → empty l ≡ false
  empty_no [] h = absurd (omega arith)
  empty_no (x ∷ xs) h = refl

  pub empty_yes : (l : List A) → length l ≤ 0 → empty l ≡ true
  empty_yes [] h = refl
  empty_yes (x ∷ xs) h = absurd (omega arith)

  -- those that pass and those that do not
  pub count_not : (p : A → Bool) (l : List A) → count_by (λ a. not (p a)) l + count_by p l ≡ length l
  count_not p [] = refl
  count_not p (x ∷ xs) = go (p x) (count_not p xs)
    where
      go : (t : Bool) → count_by (λ a. not (p a)) xs + count_by p xs ≡ length xs
          → add_if (not t) (count_by (λ a. not (p a)) xs) + add_if t (count_by p xs) ≡ suc (length xs)
      go true h = omega arith
      go false h = omega arith

  pub count_le : (p : A → Bool) (l : List A) → count_by p l ≤ length l
  count_le p l = let h = count_not p l in omega arith

pub count_map : {A B : Type 0} (f : A → B) (p : B → Bool) (q : A → Bool) → ((a : A) → p (f a) ≡ q a) → (l : List A) → count_by p (map f l) ≡ count_by q l
count_map f p q h [] = refl
count_map f p q h (x ∷ xs) = ap₂ add_if (h x) (count_map f p q h xs)

-- ---- numbers below n

-- a test of every number below n
abbrev pub all_below : ℕ → (ℕ → Bool) → Bool
all_below zero p = true
all_below (suc n) p = p n && all_below n p

pub below_in : (n : ℕ) (p : ℕ → Bool) → all_below n p ≡ true → (k : ℕ) → k < n → p k ≡ true
below_in zero p t k h = absurd (omega arith)
below_in (suc n) p t k h = go (eqb k n) refl (λ l. below_in n p (and_r (p n) _ t) k l)
  where
    go : (b : Bool) → eqb k n ≡ b → (k < n → p k ≡ true) → p k ≡ true
    go true q ih = ap p (eqb-true k n q) ∙ and_l _ _ t
    go false q ih = let ne = eqb-false k n q in ih (omega arith)

-- ---- at most as many

module _ {A : Type 0} where
  pub filter_few : (p : A → Bool) (l : List A) → length (filter_by p l) ≤ length l
  filter_few p [] = omega arith
  filter_few p (x ∷ xs) = go (p x) (filter_few p xs)
    where
      go : (b : Bool) → length (filter_by p xs) ≤ length xs → length (keep_if b x (filter_by p xs)) ≤ suc (length xs)
      go true h = omega arith
      go false h = omega arith

  pub dedup_few : (eq : A → A → Bool) (l : List A) → length (dedup eq l) ≤ length l
  dedup_few eq [] = omega arith
  dedup_few eq (x ∷ xs) =
      let f = filter_few (λ y. not (eq x y)) (dedup eq xs) in
      let r = dedup_few eq xs in
      omega arith

  pub flat_few : {B : Type 0} (f : A → List B) (l : List A) → ((a : A) → length (f a) ≤ 1) → length (flat_map f l) ≤ length l
  unfolding flat_map
  flat_few f [] h = omega arith
  flat_few f (x ∷ xs) h =
      let l = length-append (f x) (flat_map f xs) in
      let r = flat_few f xs h in
      let k = h x in
      omega arith

-- ---- a loop that has the elements from index i on left

module _ {A : Type 0} (l : List A) (i : ℕ) (d : A) where
  -- past the end nothing is left
  pub all_end : (p : A → Bool) → length l ≤ i → all p (drop i l) ≡ true
  all_end p h = rw (drop_of_length-le l h)

  pub any_end : (p : A → Bool) → length l ≤ i → any p (drop i l) ≡ false
  any_end p h = rw (drop_of_length-le l h)

  pub pairwise_end : (r : A → A → Bool) → length l ≤ i → pairwise r (drop i l) ≡ true
  pairwise_end r h = rw (drop_of_length-le l h)

  pub count_end : (p : A → Bool) → length l ≤ i → count_by p (drop i l) ≡ 0
  count_end p h = rw (drop_of_length-le l h)

  pub first_end : (p : List A → A → Bool) (before : List A) → length l ≤ i → first_at p before (drop i l) ≡ 0
  first_end p before h = rw (drop_of_length-le l h)

  -- the element at i comes first
  module _ (h : i < length l) where
    pub first_hit : (p : List A → A → Bool) (before : List A) → p before (get_or l i d) ≡ true → first_at p before (drop i l) ≡ 0
    first_hit p before t = rw (drop-cons l i d h, t)

    pub first_miss : (p : List A → A → Bool) (before : List A) → p before (get_or l i d) ≡ false
        → first_at p before (drop i l) ≡ suc (first_at p (before ++ (get_or l i d ∷ [])) (drop (i + 1) l))
    first_miss p before t = rw (drop-cons l i d h, t, add-one i)

    pub all_hit : (p : A → Bool) → p (get_or l i d) ≡ true → all p (drop i l) ≡ all p (drop (i + 1) l)
    all_hit p t = rw (drop-cons l i d h, t, add-one i)

    pub all_miss : (p : A → Bool) → p (get_or l i d) ≡ false → all p (drop i l) ≡ false
    all_miss p t = rw (drop-cons l i d h, t)

    pub any_hit : (p : A → Bool) → p (get_or l i d) ≡ true → any p (drop i l) ≡ true
    any_hit p t = rw (drop-cons l i d h, t)

    pub any_miss : (p : A → Bool) → p (get_or l i d) ≡ false → any p (drop i l) ≡ any p (drop (i + 1) l)
    any_miss p t = rw (drop-cons l i d h, t, add-one i)

    pub count_hit : (p : A → Bool) → p (get_or l i d) ≡ true → count_by p (drop i l) ≡ suc (count_by p (drop (i + 1) l))
    count_hit p t = rw (drop-cons l i d h, t, add-one i)

    pub count_miss : (p : A → Bool) → p (get_or l i d) ≡ false → count_by p (drop i l) ≡ count_by p (drop (i + 1) l)
    count_miss p t = rw (drop-cons l i d h, t, add-one i)

    pub pairwise_hit : (r : A → A → Bool) → all (r (get_or l i d)) (drop (i + 1) l) ≡ true → pairwise r (drop i l) ≡ pairwise r (drop (i + 1) l)
    pairwise_hit r t = rw (drop-cons l i d h, sym (ap (λ (k : ℕ). all (r (get_or l i d)) (drop k l)) (add-one i)) ∙ t, add-one i)

    pub pairwise_miss : (r : A → A → Bool) → all (r (get_or l i d)) (drop (i + 1) l) ≡ false → pairwise r (drop i l) ≡ false
    pairwise_miss r t = rw (drop-cons l i d h, sym (ap (λ (k : ℕ). all (r (get_or l i d)) (drop k l)) (add-one i)) ∙ t)
