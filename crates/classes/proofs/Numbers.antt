-- The numbers of an action's classes, literal by literal: what the loops over rows find in a domain. Assumes nothing.
use mathlib.Core.Path.{◌≡◌, refl, sym, ap, ap₂, subst, ◌∙◌}
use mathlib.Core.Bool.{Bool, true, false, ◌&&◌, ◌||◌, not, cond, false≢true}
use mathlib.Core.Logic.{◌⊎◌, inl, inr}
use mathlib.Core.List.Memᴰ
use mathlib.Core.List.{List, [], ◌∷◌, ◌++◌, map, flat_map, map-append, append-nil}
use Prim.Native.Nat.{ℕ, zero, suc, ◌+◌, ◌-◌, ◌*◌, ◌≤◌, ◌<◌}
use native.Mathlib.Omega.{arith}
use lib.Dec.{eqb}
use lib.ListN.{length, set, take, drop, replicate, length-append, length-map}
use lib.Seq.{take_at}
use borrow.Author.Tests.{eqb-true, eqb-false, eq-eqb, ne_eqb}
use Rattle.records.specs.Lists.{add_if, keep_if, count_by, all, any, In, same_list, elem, distinct, dedup, position}
use Rattle.records.specs.Memory.{over}
use Rattle.records.proofs.Lists.{and_l, and_r, bool_cases, clash, not_true, all_in, eqb_comm, eqb_same, in_keep_if, in_elem, in_dedup, dedup_in, flat_map_in, in_flat_map, flat_map_append, dedup_snoc}
use Rattle.records.proofs.Memory.{over_more}
use Rattle.literals.specs.declared.Variable.{Variable}
use Rattle.literals.specs.declared.Argument.{Argument}
use Rattle.literals.specs.declared.Argument.TheVariants.{Variable as bound, Every}
use Rattle.literals.specs.declared.Key.{Key}
use Rattle.literals.specs.declared.Label.{Label}
use Rattle.literals.specs.declared.Label.TheVariants.{Key as keyed, Counted}
use Rattle.literals.specs.Domain.{key, same_variable, variables_of, Literal, Component, is_key, is_counted, keys_bound, keeps_keys, each_key_once}
use Rattle.literals.specs.Domain.{label_number, Domain, arity}
use Rattle.literals.specs.Held.{row_of, argument_number, literal_row, component_row, under_key, under_keys, key_row, key_rows, word_from, row_word}
use Rattle.literals.proofs.Arguments.{variables_append, in_variables, keys_bound_lem}
use Rattle.literals.proofs.Bounds.{variables_in_lem}
use Rattle.literals.proofs.Equality.{variables_eq, variables_self}
use Rattle.literals.proofs.Tables.{value}
use Rattle.literals.specs.Matching.{under, key_tuple, tuples_by}
use Rattle.std.specs.Prelude.{Option, Some, None}
use Rattle.classes.specs.Held.{class_byte, class_number_by, tuple_row, numbered_by, words_after}
use Rattle.literals.proofs.KeyRows.{length_keys}

abbrev pub same : List Variable → List Variable → Bool
same = same_list same_variable

-- ---- places

module _ {A : Type 0} (p : A → Bool) where
  -- behind an element that passes, more elements change nothing
  place_more : (xs ys : List A) → any p xs ≡ true → position p (xs ++ ys) ≡ position p xs
  place_more [] ys t = absurd (clash t refl)
  place_more (x ∷ xs) ys t = go (p x) t (place_more xs ys)
    where
      go : (b : Bool) → b || any p xs ≡ true → (any p xs ≡ true → position p (xs ++ ys) ≡ position p xs) → cond b zero (suc (position p (xs ++ ys))) ≡ cond b zero (suc (position p xs))
      go true t ih = refl
      go false t ih = ap suc (ih t)

  place_some : (xs : List A) → any p xs ≡ true → position p xs < length xs
  place_some [] t = absurd (clash t refl)
  place_some (x ∷ xs) t = go (p x) t (place_some xs)
    where
      go : (b : Bool) → b || any p xs ≡ true → (any p xs ≡ true → position p xs < length xs) → cond b zero (suc (position p xs)) < suc (length xs)
      go true t ih = omega arith
      go false t ih = let h = ih t in omega arith

  -- where none passes, the place is the length and that of what stands behind
  place_past : (xs ys : List A) → any p xs ≡ false → position p (xs ++ ys) ≡ length xs + position p ys
  place_past [] ys t = omega arith
  place_past (x ∷ xs) ys t = go (p x) t (place_past xs ys)
    where
      go : (b : Bool) → b || any p xs ≡ false → (any p xs ≡ false → position p (xs ++ ys) ≡ length xs + position p ys) → cond b zero (suc (position p (xs ++ ys))) ≡ suc (length xs) + position p ys
      go true t ih = absurd (clash {b = true} refl t)
      go false t ih = let h = ih t in omega arith

place_map : {A B : Type 0} (f : A → B) (p : B → Bool) (q : A → Bool) (l : List A) → ((a : A) → In a l → p (f a) ≡ q a) → position p (map f l) ≡ position q l
place_map f p q [] h = refl
place_map f p q (x ∷ xs) h = ap₂ (λ (b : Bool) (n : ℕ). cond b zero (suc n)) (h x (Memᴰ.head refl)) (place_map f p q xs (λ a m. h a (Memᴰ.tail m)))

map_same : {A B : Type 0} (f g : A → B) (l : List A) → ((a : A) → In a l → f a ≡ g a) → map f l ≡ map g l
map_same f g [] h = refl
map_same f g (x ∷ xs) h = ap₂ ◌∷◌ (h x (Memᴰ.head refl)) (map_same f g xs (λ a m. h a (Memᴰ.tail m)))

-- ---- the arguments under the keys, by bytes

module _ (k : ℕ) (h : k < 255) where
  key_byte : (l : Label) → is_key (key k) l ≡ eqb k (label_number l)
  key_byte (keyed m) = refl
  key_byte Counted = sym (ne_eqb k 255 (λ e. omega arith))

  under_absent : {A : Type 0} (ls : List Label) (vs : List A) → count_by (is_key (key k)) ls ≡ 0 → under (key k) ls vs ≡ []
  under_absent [] vs e = refl
  under_absent (l ∷ ls) [] e = refl
  under_absent (l ∷ ls) (v ∷ vs) e = go (is_key (key k) l) e (under_absent ls vs)
    where
      go : (b : Bool) → add_if b (count_by (is_key (key k)) ls) ≡ 0 → (count_by (is_key (key k)) ls ≡ 0 → under (key k) ls vs ≡ []) → keep_if b v (under (key k) ls vs) ≡ []
      go true e ih = absurd (omega arith)
      go false e ih = ih e

  -- under a key that stands once, and not where the literal has FF
  under_once : (ls : List Label) (vs : List Argument) (xs ys : List ℕ) → keys_bound ls vs ≡ true → length ls ≡ length vs → count_by
      (is_key (key k)) ls ≡ 1
      → map value (variables_of (under (key k) ls vs)) ≡ under_key k (map label_number ls ++ xs) (map argument_number vs ++ ys) ∷ []
  under_once [] vs xs ys b e c = absurd (omega arith)
  under_once (l ∷ ls) [] xs ys b e c = absurd (omega arith)
  under_once (keyed j ∷ ls) (Every ∷ vs) xs ys b e c = absurd (false≢true b)
  under_once (Counted ∷ ls) (Every ∷ vs) xs ys b e c =
      under_once ls vs xs ys b (omega arith) c ∙ ap
      (λ (t : Bool). cond t 255 (under_key k (map label_number ls ++ xs) (map argument_number vs ++ ys)) ∷ []) (key_byte Counted)
  under_once (l ∷ ls) (bound v ∷ vs) xs ys b e c =
      go (is_key (key k) l) c (under_once ls vs xs ys (and_r (is_counted l || true) _ b) (omega arith))
      ∙ ap (λ (b : Bool). cond b v.0 (under_key k (map label_number ls ++ xs) (map argument_number vs ++ ys)) ∷ []) (key_byte l)
    where
      go : (b : Bool) → add_if b (count_by (is_key (key k)) ls) ≡ 1
          → (count_by (is_key (key k)) ls ≡ 1 → map value (variables_of (under (key k) ls vs)) ≡ under_key k (map label_number ls ++ xs)
          (map argument_number vs ++ ys) ∷ [])
          → map value (variables_of (keep_if b (bound v) (under (key k) ls vs))) ≡ cond b v.0
          (under_key k (map label_number ls ++ xs) (map argument_number vs ++ ys)) ∷ []
      go true c ih = ap (λ (l : List Argument). v.0 ∷ map value (variables_of l)) (under_absent ls vs (omega arith))
      go false c ih = ih c

key_bytes : (n : ℕ) (ls : List Label) (vs : List Argument) (xs ys : List ℕ) → n ≤ 255 → keys_bound ls vs ≡ true → length ls ≡ length vs
    → each_key_once n ls ≡ true
    → map value (variables_of (key_tuple n ls vs)) ≡ under_keys n (map label_number ls ++ xs) (map argument_number vs ++ ys)
key_bytes zero ls vs xs ys h b e t = refl
key_bytes (suc n) ls vs xs ys h b e t =
    ap (map value) (variables_append (key_tuple n ls vs) (under (key n) ls vs))
    ∙ map-append value (variables_of (key_tuple n ls vs)) (variables_of (under (key n) ls vs))
    ∙ ap₂ ◌++◌ (key_bytes n ls vs xs ys (omega arith) b e (and_l _ _ t))
    (under_once n (omega arith) ls vs xs ys b e (eqb-true _ 1 (and_r (each_key_once n ls) _ t)))

-- ---- a tuple's members are arguments

module _ {A : Type 0} where
  under_in : (k : Key) (ls : List Label) (vs : List A) {v : A} → In v (under k ls vs) → In v vs
  under_in k [] vs m = absurd (Memᴰ.not-nil m)
  under_in k (l ∷ ls) [] m = m
  under_in k (l ∷ ls) (w ∷ ws) {v} m = go (λ n. under_in k ls ws n) (in_keep_if (is_key k l) w (under k ls ws) m)
    where
      go : (In v (under k ls ws) → In v ws) → ((is_key k l ≡ true) × (v ≡ w)) ⊎ In v (under k ls ws) → In v (w ∷ ws)
      go ih (inl h) = Memᴰ.head h.1
      go ih (inr n) = Memᴰ.tail (ih n)

  pub key_tuple_in : (n : ℕ) (ls : List Label) (vs : List A) {v : A} → In v (key_tuple n ls vs) → In v vs
  key_tuple_in zero ls vs m = absurd (Memᴰ.not-nil m)
  key_tuple_in (suc n) ls vs {v} m = go (λ k. key_tuple_in n ls vs k) (Memᴰ.append_cases (key_tuple n ls vs) m)
    where
      go : (In v (key_tuple n ls vs) → In v vs) → In v (key_tuple n ls vs) ⊎ In v (under (key n) ls vs) → In v vs
      go ih (inl k) = ih k
      go ih (inr k) = under_in (key n) ls vs k

-- ---- the key tuples of a literal: none, or one under each key

-- each variable is a byte
abbrev pub Small : List Variable → Type 0
Small x = (v : Variable) → In v x → v.0 < 256

abbrev pub One : ℕ → List (List Variable) → Type 0
One n ts = (ts ≡ []) ⊎ ((t : List Variable) × (ts ≡ t ∷ []) × (length t ≡ n) × Small t)

-- each relation has one component
abbrev pub Once : List Component → Type 0
Once cs = distinct (λ (c d : Component). eqb c.rel d.rel) cs ≡ true

pub record Fits (D : Domain) (n : ℕ) (c : Component) : Type 0 where
  pub arguments : length c.labels ≡ arity D c.rel
  pub keys : each_key_once n c.labels ≡ true

module _ (D : Domain) (n : ℕ) (small : n ≤ 6) (l : Literal) (e : length l.atom.args ≡ arity D l.atom.rel) where
  -- the variables under the keys of a component
  abbrev its : Component → List Variable
  its c = variables_of (key_tuple n c.labels l.atom.args)

  -- of a component of its relation, with no key where the literal has FF
  module _ (c : Component) (f : Fits D n c) (b : keeps_keys c l.atom ≡ true) (r : c.rel ≡ l.atom.rel) where
    same_length : length c.labels ≡ length l.atom.args
    same_length = f.arguments ∙ ap (arity D) r ∙ sym e

    tuple_bytes : map value (its c) ≡ under_keys n (drop 1 (component_row c)) (drop 2 (literal_row l))
    tuple_bytes =
        key_bytes n c.labels l.atom.args
        (replicate (8 - suc (length (map label_number c.labels))) 255)
        (replicate (8 - suc (suc (length (map argument_number l.atom.args)))) 255)
        (omega arith)
        (keys_bound_lem c l.atom (eq-eqb c.rel l.atom.rel r) b)
        same_length
        f.keys

    tuple_row_lem : key_row n (component_row c) (literal_row l) ≡ tuple_row (its c)
    unfolding key_row
    tuple_row_lem = ap row_of (sym tuple_bytes)

    tuple_length : length (its c) ≡ n
    tuple_length = sym (length-map (its c) value) ∙ ap length tuple_bytes ∙ length_keys n (drop 1 (component_row c)) (drop 2 (literal_row l))

  tuples_none : (cs : List Component) → ((c : Component) → In c cs → eqb c.rel l.atom.rel ≡ false) → tuples_by n cs l.atom ≡ []
  tuples_none [] h = refl
  tuples_none (c ∷ cs) h = rw (h c (Memᴰ.head refl)) (tuples_none cs (λ d m. h d (Memᴰ.tail m)))

  -- where the first component has its relation, no later one has
  later_none : (c : Component) (cs : List Component) → Once (c ∷ cs) → c.rel ≡ l.atom.rel → tuples_by n cs l.atom ≡ []
  later_none c cs o r =
      tuples_none cs
      (λ d m. eqb_comm d.rel l.atom.rel ∙ ap (λ (k : ℕ). eqb k d.rel) (sym r) ∙ not_true _ (all_in (λ (y : Component). not (eqb c.rel y.rel)) cs (and_l _ _ o) m))

  -- the literal's key tuples by these components
  abbrev pub tuples_in : List Component → List (List Variable)
  tuples_in cs = map variables_of (tuples_by n cs l.atom)

  module _ (c : Component) (cs : List Component) (f : Fits D n c) (b : keeps_keys c l.atom ≡ true) (o : Once (c ∷ cs)) where
    -- by whether the first component has its relation
    tuples_first : eqb c.rel l.atom.rel ≡ true → tuples_in (c ∷ cs) ≡ its c ∷ []
    tuples_first q =
        let r = eqb-true c.rel l.atom.rel q in
        rw (q, eq-eqb (length c.labels) (length l.atom.args) (same_length c f b r))
        (ap (λ (ts : List (List Argument)). its c ∷ map variables_of ts) (later_none c cs o r))

    tuples_later : eqb c.rel l.atom.rel ≡ false → tuples_in (c ∷ cs) ≡ tuples_in cs
    tuples_later q = rw q

  pub tuples_one : Small (variables_of l.atom.args) → (cs : List Component) → ((c : Component) → In c cs → Fits D n c)
      → ((c : Component) → In c cs → keeps_keys c l.atom ≡ true) → Once cs → One n (tuples_in cs)
  tuples_one s [] f b o = inl refl
  tuples_one s (c ∷ cs) f b o =
      go (bool_cases (eqb c.rel l.atom.rel))
      (tuples_one s cs (λ d m. f d (Memᴰ.tail m)) (λ d m. b d (Memᴰ.tail m))
      (and_r (all (λ (y : Component). not (eqb c.rel y.rel)) cs) _ o))
    where
      here : Fits D n c
      here = f c (Memᴰ.head refl)

      kept : keeps_keys c l.atom ≡ true
      kept = b c (Memᴰ.head refl)

      -- its variables are the literal's
      low : Small (its c)
      low v m =
          s v (in_variables l.atom.args
          (key_tuple_in n c.labels l.atom.args (variables_in_lem (key_tuple n c.labels l.atom.args) m)))

      go : (eqb c.rel l.atom.rel ≡ true) ⊎ (eqb c.rel l.atom.rel ≡ false) → One n (tuples_in cs) → One n (tuples_in (c ∷ cs))
      go (inl q) ih = inr (its c, tuples_first c cs here kept o q, tuple_length c here kept (eqb-true _ _ q), low)
      go (inr q) ih = rw (tuples_later c cs here kept o q) ih

  -- as the rows of the template give them
  pub tuples_rows : (cs : List Component) → ((c : Component) → In c cs → Fits D n c) →
      ((c : Component) → In c cs → keeps_keys c l.atom ≡ true) → Once cs
      → key_rows n (map component_row cs) (literal_row l) ≡ map tuple_row (tuples_in cs)
  unfolding key_rows
  tuples_rows [] f b o = refl
  tuples_rows (c ∷ cs) f b o =
      ap (λ (b : Bool). cond b (key_row n (component_row c) (literal_row l) ∷ []) (key_rows n (map component_row cs) (literal_row l))) (eqb_comm l.atom.rel c.rel)
      ∙ go (bool_cases (eqb c.rel l.atom.rel))
      (tuples_rows cs (λ d m. f d (Memᴰ.tail m)) (λ d m. b d (Memᴰ.tail m))
      (and_r (all (λ (y : Component). not (eqb c.rel y.rel)) cs) _ o))
    where
      here : Fits D n c
      here = f c (Memᴰ.head refl)

      kept : keeps_keys c l.atom ≡ true
      kept = b c (Memᴰ.head refl)

      go : (eqb c.rel l.atom.rel ≡ true) ⊎ (eqb c.rel l.atom.rel ≡ false) → key_rows n (map component_row cs) (literal_row l)
          ≡ map tuple_row (tuples_in cs)
          → cond (eqb c.rel l.atom.rel) (key_row n (component_row c) (literal_row l) ∷ [])
          (key_rows n (map component_row cs) (literal_row l)) ≡ map tuple_row (tuples_in (c ∷ cs))
      go (inl q) ih = ap (λ (b : Bool). cond b (key_row n (component_row c) (literal_row l) ∷ []) (key_rows n (map component_row cs) (literal_row l))) q
          ∙ ap (λ (x : List ℕ). x ∷ []) (tuple_row_lem c here kept (eqb-true _ _ q))
          ∙ ap (map tuple_row) (sym (tuples_first c cs here kept o q))
      go (inr q) ih = ap (λ (b : Bool). cond b (key_row n (component_row c) (literal_row l) ∷ []) (key_rows n (map component_row cs) (literal_row l))) q
          ∙ ih
          ∙ ap (map tuple_row) (sym (tuples_later c cs here kept o q))

-- ---- classes so far, and the class numbers of the literals so far

module _ (T : Literal → List (List Variable)) where
  abbrev pub found : List Literal → List (List Variable)
  found ls = dedup same (flat_map T ls)

  abbrev pub numbers : List Literal → List ℕ
  numbers ls = map (λ l. class_number_by (found ls) (T l)) ls

  flat_snoc : (ls : List Literal) (l : Literal) → flat_map T (ls ++ (l ∷ [])) ≡ flat_map T ls ++ T l
  unfolding flat_map
  flat_snoc ls l = flat_map_append T ls (l ∷ []) ∙ ap (λ (x : List (List Variable)). flat_map T ls ++ x) (append-nil (T l))

  module _ (ls : List Literal) (l : Literal) where
    found_skip : T l ≡ [] → found (ls ++ (l ∷ [])) ≡ found ls
    found_skip e = ap (dedup same) (flat_snoc ls l ∙ ap (λ (x : List (List Variable)). flat_map T ls ++ x) e ∙ append-nil (flat_map T ls))

    found_more : (t : List Variable) → T l ≡ t ∷ [] → found (ls ++ (l ∷ [])) ≡ cond (elem same t (found ls)) (found ls) (found ls ++ (t ∷ []))
    found_more t e = ap (dedup same) (flat_snoc ls l ∙ ap (λ (x : List (List Variable)). flat_map T ls ++ x) e) ∙ dedup_snoc same variables_eq variables_self (flat_map T ls) t

    found_known : (t : List Variable) → T l ≡ t ∷ [] → elem same t (found ls) ≡ true → found ls ≡ found (ls ++ (l ∷ []))
    found_known t e b = sym (found_more t e ∙ ap (λ (c : Bool). cond c (found ls) (found ls ++ (t ∷ []))) b)

    found_joined : (t : List Variable) → T l ≡ t ∷ [] → elem same t (found ls) ≡ false → found ls ++ (t ∷ []) ≡ found (ls ++ (l ∷ []))
    found_joined t e b = sym (found_more t e ∙ ap (λ (c : Bool). cond c (found ls) (found ls ++ (t ∷ []))) b)

    -- a class stays where it is
    stays : (xs ys ts : List (List Variable)) → ((x : List Variable) → In x ts → In x xs) → class_number_by (xs ++ ys) ts ≡ class_number_by xs ts
    stays xs ys [] h = refl
    stays xs ys (x ∷ ts) h = place_more (same x) xs ys (in_elem same variables_self (h x (Memᴰ.head refl)))

    earlier : {n : ℕ} → One n (T l) → (k : Literal) → In k ls → class_number_by (found (ls ++ (l ∷ []))) (T k) ≡ class_number_by (found ls) (T k)
    earlier (inl e) k m = ap (λ (xs : List (List Variable)). class_number_by xs (T k)) (found_skip e)
    earlier (inr (t, e, q, s)) k m = ap (λ (xs : List (List Variable)). class_number_by xs (T k)) (found_more t e) ∙ go (elem same t (found ls))
      where
        go : (b : Bool) → class_number_by (cond b (found ls) (found ls ++ (t ∷ []))) (T k) ≡ class_number_by (found ls) (T k)
        go true = refl
        go false = stays (found ls) (t ∷ []) (T k) (λ x i. in_dedup same variables_eq (in_flat_map T m i))

    pub numbers_more : {n : ℕ} → One n (T l) → numbers (ls ++ (l ∷ [])) ≡ numbers ls ++ (class_number_by (found (ls ++ (l ∷ []))) (T l) ∷ [])
    numbers_more o =
        map-append (λ k. class_number_by (found (ls ++ (l ∷ []))) (T k)) ls (l ∷ [])
        ∙ ap (λ (x : List ℕ). x ++ (class_number_by (found (ls ++ (l ∷ []))) (T l) ∷ []))
        (map_same (λ k. class_number_by (found (ls ++ (l ∷ []))) (T k)) (λ k. class_number_by (found ls) (T k)) ls (earlier o))

  found_ones : (n : ℕ) (ls : List Literal) → ((l : Literal) → In l ls → One n (T l)) → (x : List Variable) → In x (found ls) → (length x ≡ n) × Small x
  found_ones n ls h x m = let r = flat_map_in T ls (dedup_in same (flat_map T ls) m) in go (T r.0) (h r.0 r.1) r.2
    where
      go : (ts : List (List Variable)) → One n ts → In x ts → (length x ≡ n) × Small x
      go ts (inl e) i = absurd (Memᴰ.not-nil (rw e at i))
      go ts (inr (t, e, q, s)) i = subst (λ (y : List Variable). (length y ≡ n) × Small y) (sym (Memᴰ.eq_of_singleton (rw e at i))) (q, s)

-- ---- their words

-- the word of a key tuple
abbrev pub tuple_word : List Variable → ℕ
tuple_word x = word_from 0 (map value x)

-- words of one byte more are the same where the words are and the bytes are
digit_same : (m n x y : ℕ) → x < 256 → y < 256 → eqb (256 * m + x) (256 * n + y) ≡ eqb m n && eqb x y
digit_same m n x y h k = go (bool_cases (eqb m n)) (bool_cases (eqb x y))
  where
    go : (eqb m n ≡ true) ⊎ (eqb m n ≡ false) → (eqb x y ≡ true) ⊎ (eqb x y ≡ false) → eqb (256 * m + x) (256 * n + y) ≡ eqb m n && eqb x y
    go (inl p) (inl q) =
        let u = eqb-true m n p in
        let v = eqb-true x y q in
        eq-eqb (256 * m + x) (256 * n + y) (omega arith) ∙ sym (ap₂ ◌&&◌ p q)
    go (inl p) (inr q) = ne_eqb (256 * m + x) (256 * n + y) (λ e. eqb-false x y q (omega arith)) ∙ sym (ap₂ ◌&&◌ p q)
    go (inr p) r = ne_eqb (256 * m + x) (256 * n + y) (λ e. eqb-false m n p (omega arith)) ∙ sym (ap (λ (b : Bool). b && eqb x y) p)

and_assoc : (a b c : Bool) → (a && b) && c ≡ a && (b && c)
and_assoc true b c = refl
and_assoc false b c = refl

and_true : (a : Bool) → a ≡ a && true
and_true true = refl
and_true false = refl

words_same : (m n : ℕ) (x y : List Variable) → length x ≡ length y → Small x → Small y
    → eqb (word_from m (map value x)) (word_from n (map value y)) ≡ eqb m n && same x y
words_same m n [] [] e s t = and_true (eqb m n)
words_same m n [] (y ∷ ys) e s t = absurd (omega arith)
words_same m n (x ∷ xs) [] e s t = absurd (omega arith)
words_same m n (x ∷ xs) (y ∷ ys) e s t =
    words_same (256 * m + x.0) (256 * n + y.0) xs ys (omega arith) (λ v i. s v (Memᴰ.tail i)) (λ v i. t v (Memᴰ.tail i))
    ∙ ap (λ (b : Bool). b && same xs ys) (digit_same m n x.0 y.0 (s x (Memᴰ.head refl)) (t y (Memᴰ.head refl)))
    ∙ and_assoc (eqb m n) (eqb x.0 y.0) (same xs ys)

-- the word decides whether two tuples are the same
pub alike_words : (x y : List Variable) → length x ≡ length y → Small x → Small y → eqb (tuple_word x) (tuple_word y) ≡ same x y
alike_words x y e s t = words_same 0 0 x y e s t ∙ ap (λ (b : Bool). b && same x y) (eqb_same 0)

-- of a tuple's row
pub row_word_lem : (n : ℕ) (x : List Variable) → length x ≡ n → row_word n (tuple_row x) ≡ tuple_word x
row_word_lem n x e = ap (word_from 0) (take_at (map value x) (replicate (8 - length (map value x)) 255) n (length-map x value ∙ e))

-- the words of classes, in a memory
abbrev pub words_of : List (List Variable) → List ℕ → List ℕ
words_of xs words₀ = over (map tuple_word xs) words₀

module _ (n : ℕ) (words₀ : List ℕ) (xs : List (List Variable)) (ones : (x : List Variable) → In x xs → (length x ≡ n) × Small x) where
  module _ (t : List Variable) (e : length t ≡ n) (s : Small t) where
    place_word : position (eqb (tuple_word t)) (take (length xs) (words_of xs words₀)) ≡ position (same t) xs
    unfolding over
    place_word =
        ap (position (eqb (tuple_word t))) (take_at (map tuple_word xs) (drop (length (map tuple_word xs)) words₀) (length xs) (length-map xs tuple_word))
        ∙ place_map tuple_word (eqb (tuple_word t)) (same t) xs (λ x m. alike_words t x (e ∙ sym (ones x m).0) s (ones x m).1)

    numbered_known : elem same t xs ≡ true → numbered_by (tuple_word t ∷ []) (length xs) (words_of xs words₀) ≡ record { class = Some (position (same t) xs); count = length xs }
    unfolding numbered_by
    numbered_known q =
        ap (λ (c : ℕ). record { class = Some c; count = cond (eqb c (length xs)) (length xs + 1) (length xs) }) place_word
        ∙ ap (λ (b : Bool). record { class = Some (position (same t) xs); count = cond b (length xs + 1) (length xs) }) (ne_eqb (position (same t) xs) (length xs) (λ z. omega (arith, place_some (same t) xs q)))

    words_known : elem same t xs ≡ true → words_after (tuple_word t ∷ []) (length xs) (words_of xs words₀) ≡ words_of xs words₀
    unfolding words_after
    words_known q =
        ap (λ (c : ℕ). cond (eqb c (length xs)) (set (words_of xs words₀) (length xs) (tuple_word t)) (words_of xs words₀)) place_word
        ∙ ap (λ (b : Bool). cond b (set (words_of xs words₀) (length xs) (tuple_word t)) (words_of xs words₀)) (ne_eqb (position (same t) xs) (length xs) (λ z. omega (arith, place_some (same t) xs q)))

    module _ (q : elem same t xs ≡ false) where
      place_last : position (same t) xs ≡ length xs
      place_last = ap (position (same t)) (sym (append-nil xs)) ∙ place_past (same t) xs [] q ∙ omega arith

      place_joined : position (same t) xs ≡ position (same t) (xs ++ (t ∷ []))
      place_joined = place_last ∙ sym (place_past (same t) xs (t ∷ []) q ∙ ap (λ (b : Bool). length xs + cond b zero 1) (variables_self t) ∙ omega arith)

      length_joined : length xs + 1 ≡ length (xs ++ (t ∷ []))
      length_joined = sym (length-append xs (t ∷ []))

      numbered_joined : numbered_by (tuple_word t ∷ []) (length xs) (words_of xs words₀) ≡ record { class = Some (position (same t) (xs ++ (t ∷ []))); count = length (xs ++ (t ∷ [])) }
      unfolding numbered_by
      numbered_joined =
          ap (λ (c : ℕ). record { class = Some c; count = cond (eqb c (length xs)) (length xs + 1) (length xs) }) place_word
          ∙ ap (λ (b : Bool). record { class = Some (position (same t) xs); count = cond b (length xs + 1) (length xs) }) (eq-eqb (position (same t) xs) (length xs) place_last)
          ∙ (λ i. record { class = Some (place_joined i); count = length_joined i })

      words_joined : length xs < length words₀ → words_after (tuple_word t ∷ []) (length xs) (words_of xs words₀) ≡ words_of (xs ++ (t ∷ [])) words₀
      unfolding words_after
      words_joined room =
          ap (λ (c : ℕ). cond (eqb c (length xs)) (set (words_of xs words₀) (length xs) (tuple_word t)) (words_of xs words₀)) place_word
          ∙ ap (λ (b : Bool). cond b (set (words_of xs words₀) (length xs) (tuple_word t)) (words_of xs words₀)) (eq-eqb (position (same t) xs) (length xs) place_last)
          ∙ over_more (map tuple_word xs) words₀ (length xs) (tuple_word t) (length-map xs tuple_word) room
          ∙ ap (λ (l : List ℕ). over l words₀) (sym (map-append tuple_word xs (t ∷ [])))

-- the number of a literal's class among these, if it matches
abbrev pub class_in : List (List Variable) → List (List Variable) → Option ℕ
class_in xs [] = None
class_in xs (t ∷ ts) = Some (position (same t) xs)

pub class_in_byte : (xs ts : List (List Variable)) → class_byte (class_in xs ts) ≡ class_number_by xs ts
class_in_byte xs [] = refl
class_in_byte xs (t ∷ ts) = refl

-- one literal more
module _ (T : Literal → List (List Variable)) (n : ℕ) (words₀ : List ℕ) (ls : List Literal) (h : (l : Literal) → In l ls → One n (T l)) (l : Literal) where
  pub numbered_more : One n (T l)
      → numbered_by (map tuple_word (T l)) (length (found T ls)) (words_of (found T ls) words₀)
      ≡ record { class = class_in (found T (ls ++ (l ∷ []))) (T l); count = length (found T (ls ++ (l ∷ []))) }
  unfolding numbered_by
  numbered_more (inl e) =
      rw (found_skip T ls l e, e)
  numbered_more (inr (t, e, q, s)) =
      ap (λ (ts : List (List Variable)). numbered_by (map tuple_word ts) (length (found T ls)) (words_of (found T ls) words₀)) e
      ∙ go (bool_cases (elem same t (found T ls)))
      ∙ ap (λ (ts : List (List Variable)). record { class = class_in (found T (ls ++ (l ∷ []))) ts; count = length (found T (ls ++ (l ∷ []))) }) (sym e)
    where
      go : (elem same t (found T ls) ≡ true) ⊎ (elem same t (found T ls) ≡ false)
          → numbered_by (tuple_word t ∷ []) (length (found T ls)) (words_of (found T ls) words₀) ≡ record { class = Some (position (same t) (found T (ls ++ (l ∷ [])))); count = length (found T (ls ++ (l ∷ []))) }
      go (inl b) =
          numbered_known n words₀ (found T ls) (found_ones T n ls h) t q s b
          ∙ ap (λ (xs : List (List Variable)). record { class = Some (position (same t) xs); count = length xs }) (found_known T ls l t e b)
      go (inr b) =
          numbered_joined n words₀ (found T ls) (found_ones T n ls h) t q s b
          ∙ ap (λ (xs : List (List Variable)). record { class = Some (position (same t) xs); count = length xs }) (found_joined T ls l t e b)

  pub words_more : One n (T l) → length (found T ls) < length words₀
      → words_after (map tuple_word (T l)) (length (found T ls)) (words_of (found T ls) words₀) ≡ words_of (found T (ls ++ (l ∷ []))) words₀
  unfolding words_after
  words_more (inl e) room = rw (found_skip T ls l e, e)
  words_more (inr (t, e, q, s)) room =
      ap (λ (ts : List (List Variable)). words_after (map tuple_word ts) (length (found T ls)) (words_of (found T ls) words₀)) e ∙ go (bool_cases (elem same t (found T ls)))
    where
      go : (elem same t (found T ls) ≡ true) ⊎ (elem same t (found T ls) ≡ false) → words_after (tuple_word t ∷ []) (length (found T ls)) (words_of (found T ls) words₀) ≡ words_of (found T (ls ++ (l ∷ []))) words₀
      go (inl b) = words_known n words₀ (found T ls) (found_ones T n ls h) t q s b ∙ ap (λ (xs : List (List Variable)). words_of xs words₀) (found_known T ls l t e b)
      go (inr b) = words_joined n words₀ (found T ls) (found_ones T n ls h) t q s b room ∙ ap (λ (xs : List (List Variable)). words_of xs words₀) (found_joined T ls l t e b)
