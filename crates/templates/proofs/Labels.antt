-- Labels numbered from left to right: they fit, and their counted place tells them apart. Assumes nothing.
use mathlib.Core.Path.{◌≡◌, refl, ap, ap₂, ◌∙◌}
use mathlib.Core.Bool.{Bool, true, false, not, ◌&&◌, ◌||◌, false≢true}
use mathlib.Core.Logic.{◌⊎◌, inl, inr}
use Rattle.std.specs.Prelude.{Option, None as none, Some as some}
use mathlib.Core.List.{List, [], ◌∷◌}
use Prim.Native.Nat.{ℕ, zero, suc, ◌+◌, ◌≤◌, ◌<◌}
use native.Mathlib.Omega.{arith}
use lib.Dec.{eqb}
use lib.ListN.{length}
use borrow.Author.Tests.{eqb-true, eqb-false, eq-eqb, ne_eqb, lt-ltb, le-leb}
use Rattle.records.specs.Lists.{add_if, all, any, count_by, same_list, side_by_side}
use Rattle.records.proofs.Lists.{and_l, and_r, and_i, bool_cases, any_same}
use Rattle.literals.specs.declared.Argument.{Argument}
use Rattle.literals.specs.declared.Label.{Label}
use Rattle.literals.specs.declared.Label.TheVariants.{Key as keyed, Counted}
use Rattle.literals.specs.Domain.{key, is_every, Atom, Literal, Action, Component, is_key, is_counted, key_below, each_key_once, labels_fit}
use Rattle.literals.specs.Domain.{keys_bound, counted_cleared, keeps_keys}
use Rattle.literals.specs.Decode.{keys_cleared}
use Rattle.templates.specs.Held.{PlaceBelow}
use Rattle.templates.specs.Templates.{keys_from, labels_from, labels_with}
use Rattle.templates.specs.Claims.{same_mark, same_shape}

abbrev key_label : Label → Bool
key_label l = not (is_counted l)

-- ---- keys from k on

pub keys_length : (k n : ℕ) → length (keys_from k n) ≡ n
keys_length k zero = refl
keys_length k (suc n) = ap suc (keys_length (suc k) n)

keys_count : (k n : ℕ) → count_by key_label (keys_from k n) ≡ n
keys_count k zero = refl
keys_count k (suc n) = ap suc (keys_count (suc k) n)

keys_counted : (k n : ℕ) → count_by is_counted (keys_from k n) ≡ 0
keys_counted k zero = refl
keys_counted k (suc n) = keys_counted (suc k) n

keys_low : (k n j : ℕ) → j < k → count_by (is_key (key j)) (keys_from k n) ≡ 0
keys_low k zero j h = refl
keys_low k (suc n) j h =
    ap (λ b. add_if b (count_by (is_key (key j)) (keys_from (suc k) n))) (ne_eqb j k (λ e. omega arith)) ∙ keys_low (suc k) n j (omega arith)

-- one key more in front
key_front : (j k : ℕ) (ls : List Label) → k ≤ j → (j ≡ k → count_by (is_key (key j)) ls ≡ 0) → (k < j → count_by (is_key (key j)) ls ≡ 1)
    → count_by (is_key (key j)) (keyed (key k) ∷ ls) ≡ 1
key_front j k ls h first later = go (bool_cases (eqb j k))
  where
    go : (eqb j k ≡ true) ⊎ (eqb j k ≡ false) → add_if (eqb j k) (count_by (is_key (key j)) ls) ≡ 1
    go (inl t) = ap (λ b. add_if b (count_by (is_key (key j)) ls)) t ∙ ap suc (first (eqb-true j k t))
    go (inr f) = let ne = eqb-false j k f in ap (λ b. add_if b (count_by (is_key (key j)) ls)) f ∙ later (omega arith)

keys_one : (k n j : ℕ) → k ≤ j → j < k + n → count_by (is_key (key j)) (keys_from k n) ≡ 1
keys_one k zero j h l = absurd (omega arith)
keys_one k (suc n) j h l =
    key_front j k (keys_from (suc k) n) h (λ e. keys_low (suc k) n j (omega arith)) (λ g. keys_one (suc k) n j (omega arith) (omega arith))

keys_under : (k n m : ℕ) → k + n ≤ m → all (key_below m) (keys_from k n) ≡ true
keys_under k zero m h = refl
keys_under k (suc n) m h = and_i (lt-ltb k m (omega arith)) (keys_under (suc k) n m (omega arith))

-- ---- with a counted place

pub labels_length : (k n p : ℕ) → length (labels_from k n p) ≡ n
labels_length k zero p = refl
labels_length k (suc n) zero = ap suc (keys_length k n)
labels_length k (suc n) (suc p) = ap suc (labels_length (suc k) n p)

labels_count : (k n p : ℕ) → p < n → suc (count_by key_label (labels_from k n p)) ≡ n
labels_count k zero p h = absurd (omega arith)
labels_count k (suc n) zero h = ap suc (keys_count k n)
labels_count k (suc n) (suc p) h = ap suc (labels_count (suc k) n p (omega arith))

labels_counted : (k n p : ℕ) → p < n → count_by is_counted (labels_from k n p) ≡ 1
labels_counted k zero p h = absurd (omega arith)
labels_counted k (suc n) zero h = ap suc (keys_counted k n)
labels_counted k (suc n) (suc p) h = labels_counted (suc k) n p (omega arith)

labels_low : (k n p j : ℕ) → j < k → count_by (is_key (key j)) (labels_from k n p) ≡ 0
labels_low k zero p j h = refl
labels_low k (suc n) zero j h = keys_low k n j h
labels_low k (suc n) (suc p) j h =
    ap (λ b. add_if b (count_by (is_key (key j)) (labels_from (suc k) n p))) (ne_eqb j k (λ e. omega arith))
    ∙ labels_low (suc k) n p j (omega arith)

labels_one : (k n p j : ℕ) → p < n → k ≤ j → suc j < k + n → count_by (is_key (key j)) (labels_from k n p) ≡ 1
labels_one k zero p j q h l = absurd (omega arith)
labels_one k (suc n) zero j q h l = keys_one k n j h (omega arith)
labels_one k (suc n) (suc p) j q h l =
    key_front j k (labels_from (suc k) n p) h (λ e. labels_low (suc k) n p j (omega arith))
    (λ g. labels_one (suc k) n p j (omega arith) (omega arith) (omega arith))

labels_under : (k n p m : ℕ) → p < n → k + n ≤ suc m → all (key_below m) (labels_from k n p) ≡ true
labels_under k zero p m q h = absurd (omega arith)
labels_under k (suc n) zero m q h = keys_under k n m (omega arith)
labels_under k (suc n) (suc p) m q h = and_i (lt-ltb k m (omega arith)) (labels_under (suc k) n p m (omega arith) (omega arith))

-- ---- they fit

each_once_lem : (n : ℕ) (ls : List Label) → ((j : ℕ) → j < n → count_by (is_key (key j)) ls ≡ 1) → each_key_once n ls ≡ true
each_once_lem zero ls h = refl
each_once_lem (suc n) ls h = and_i (each_once_lem n ls (λ j l. h j (omega arith))) (eq-eqb _ 1 (h n (omega arith)))

pub with_length : (n : ℕ) (o : Option ℕ) → length (labels_with n o) ≡ n
with_length n none = keys_length 0 n
with_length n (some p) = labels_length 0 n p

pub with_fit : (n : ℕ) (o : Option ℕ) → PlaceBelow n o → labels_fit (count_by key_label (labels_with n o)) (labels_with n o) ≡ true
unfolding labels_fit
with_fit n none h =
    let c = keys_count 0 n in
    and_i (and_i (keys_under 0 n (count_by key_label (keys_from 0 n)) (omega arith))
    (each_once_lem (count_by key_label (keys_from 0 n)) (keys_from 0 n) (λ j l. keys_one 0 n j (omega arith) (omega arith))))
    (le-leb (count_by is_counted (keys_from 0 n)) 1 (let z = keys_counted 0 n in omega arith))
with_fit n (some p) h =
    let c = labels_count 0 n p h in
    and_i (and_i (labels_under 0 n p (count_by key_label (labels_from 0 n p)) h (omega arith))
    (each_once_lem (count_by key_label (labels_from 0 n p)) (labels_from 0 n p) (λ j l. labels_one 0 n p j h (omega arith) (omega arith))))
    (le-leb (count_by is_counted (labels_from 0 n p)) 1 (let z = labels_counted 0 n p h in omega arith))

-- the keys of so few labels are bytes other than FF
pub with_keys : (n : ℕ) (o : Option ℕ) → n ≤ 6 → PlaceBelow n o → all (key_below 255) (labels_with n o) ≡ true
with_keys n none l h = keys_under 0 n 255 (omega arith)
with_keys n (some p) l h = labels_under 0 n p 255 h (omega arith)

-- ---- marks

-- labels with the same places counted
abbrev pub Marked : List Label → List Label → Type 0
Marked ls ms = same_list same_mark ls ms ≡ true

marked_keys : (k : ℕ) (ls : List Label) → count_by is_counted ls ≡ 0 → Marked ls (keys_from k (length ls))
marked_keys k [] z = refl
marked_keys k (keyed j ∷ ls) z = marked_keys (suc k) ls z
marked_keys k (Counted ∷ ls) z = absurd (omega arith)

-- labels with at most one counted place have that of some labels in order
pub marked_with : (k : ℕ) (ls : List Label) → count_by is_counted ls ≤ 1
    → Marked ls (keys_from k (length ls)) ⊎ ((p : ℕ) × (p < length ls) × Marked ls (labels_from k (length ls) p))
marked_with k [] h = inl refl
marked_with k (keyed j ∷ ls) h = go (marked_with (suc k) ls h)
  where
    go : Marked ls (keys_from (suc k) (length ls)) ⊎ ((p : ℕ) × (p < length ls) × Marked ls (labels_from (suc k) (length ls) p))
        → Marked ls (keys_from (suc k) (length ls)) ⊎
        ((p : ℕ) × (p < suc (length ls)) × Marked (keyed j ∷ ls) (labels_from k (suc (length ls)) p))
    go (inl m) = inl m
    go (inr (p, l, m)) = inr (suc p, omega arith, m)
marked_with k (Counted ∷ ls) h = inr (0, omega arith, marked_keys k ls (omega arith))

marked_count : (ls ms : List Label) → Marked ls ms → count_by is_counted ls ≡ count_by is_counted ms
marked_count [] [] t = refl
marked_count [] (m ∷ ms) t = absurd (false≢true t)
marked_count (l ∷ ls) [] t = absurd (false≢true t)
marked_count (keyed k ∷ ls) (keyed j ∷ ms) t = marked_count ls ms t
marked_count (keyed k ∷ ls) (Counted ∷ ms) t = absurd (false≢true t)
marked_count (Counted ∷ ls) (keyed j ∷ ms) t = absurd (false≢true t)
marked_count (Counted ∷ ls) (Counted ∷ ms) t = ap suc (marked_count ls ms t)

marked_place : (k l n p q : ℕ) → p < n → q < n → Marked (labels_from k n p) (labels_from l n q) → p ≡ q
marked_place k l zero p q h g t = absurd (omega arith)
marked_place k l (suc n) zero zero h g t = refl
marked_place k l (suc n) zero (suc q) h g t = absurd (false≢true t)
marked_place k l (suc n) (suc p) zero h g t = absurd (false≢true t)
marked_place k l (suc n) (suc p) (suc q) h g t = ap suc (marked_place (suc k) (suc l) n p q (omega arith) (omega arith) t)

-- none is not marked as one with a counted place, and two are only with the same
pub apart_none : (n p : ℕ) → p < n → Marked (keys_from 0 n) (labels_from 0 n p) → ⊥
apart_none n p h t =
    let e = marked_count (keys_from 0 n) (labels_from 0 n p) t in let a = keys_counted 0 n in let b = labels_counted 0 n p h in omega arith

pub apart_places : (n p q : ℕ) → p < q → q < n → Marked (labels_from 0 n p) (labels_from 0 n q) → ⊥
apart_places n p q h g t = let e = marked_place 0 0 n p q (omega arith) g t in omega arith

marked_side : (r : Bool → Argument → Bool) (ls ms : List Label) (vs : List Argument) → Marked ls ms
    → side_by_side (λ l v. r (is_counted l) v) ls vs ≡ side_by_side (λ l v. r (is_counted l) v) ms vs
marked_side r [] [] vs t = refl
marked_side r [] (m ∷ ms) vs t = absurd (false≢true t)
marked_side r (l ∷ ls) [] vs t = absurd (false≢true t)
marked_side r (l ∷ ls) (m ∷ ms) [] t = refl
marked_side r (keyed k ∷ ls) (keyed j ∷ ms) (v ∷ vs) t = ap (λ b. r false v && b) (marked_side r ls ms vs t)
marked_side r (keyed k ∷ ls) (Counted ∷ ms) (v ∷ vs) t = absurd (false≢true t)
marked_side r (Counted ∷ ls) (keyed j ∷ ms) (v ∷ vs) t = absurd (false≢true t)
marked_side r (Counted ∷ ls) (Counted ∷ ms) (v ∷ vs) t = ap (λ b. r true v && b) (marked_side r ls ms vs t)

pub marked_bound : (ls ms : List Label) (vs : List Argument) → Marked ls ms → keys_bound ls vs ≡ keys_bound ms vs
marked_bound = marked_side (λ b v. b || not (is_every v))

pub marked_cleared : (ls ms : List Label) (vs : List Argument) → Marked ls ms → counted_cleared ls vs ≡ counted_cleared ms vs
marked_cleared = marked_side (λ b v. not b || is_every v)

pub shape_keys : (c d : Component) → same_shape c d ≡ true → (p : Atom Argument) → keeps_keys c p ≡ keeps_keys d p
shape_keys c d t p =
    ap₂ (λ (r : ℕ) (b : Bool). not (eqb r p.rel) || b) (eqb-true c.rel d.rel (and_l _ _ t))
    (marked_bound c.labels d.labels p.args (and_r (eqb c.rel d.rel) _ t))

pub shape_cleared : (as' : List Action) (c d : Component) → same_shape c d ≡ true → keys_cleared as' c ≡ keys_cleared as' d
shape_cleared as' c d t =
    any_same (λ (a : Action). any (λ (l : Literal). not (keeps_keys c l.atom)) a.lits)
    (λ (a : Action). any (λ (l : Literal). not (keeps_keys d l.atom)) a.lits) as'
    (λ a. any_same (λ (l : Literal). not (keeps_keys c l.atom)) (λ (l : Literal). not (keeps_keys d l.atom)) a.lits
    (λ l. ap not (shape_keys c d t l.atom)))
