-- The class number of a literal tells the class that it belongs to. Assumes nothing.
use mathlib.Core.Path.{◌≡◌, refl, sym, ap, ◌∙◌}
use mathlib.Core.Bool.{Bool, true, false, ◌||◌, not, cond}
use mathlib.Core.List.{List, [], ◌∷◌, flat_map}
use Prim.Native.Nat.{ℕ, zero, suc, ◌≤◌, ◌<◌}
use native.Mathlib.Omega.{arith}
use lib.Dec.{eqb, eqb-zero-suc, eqb-suc-zero, eqb-suc-suc}
use lib.ListN.{length, get_or, length-map}
use borrow.Author.Tests.{eqb-true, ne_eqb}
use Rattle.records.specs.Lists.{In, keep_if, any, all, distinct, same_list, position}
use Rattle.records.proofs.Lists.{and_l, and_r, not_true, eqb_comm, all_in, get_d_in, distinct_dedup, dedup_few, flat_few}
use Rattle.literals.specs.declared.Variable.{Variable}
use Rattle.literals.specs.declared.Argument.{Argument}
use Rattle.literals.specs.Domain.{same_variable, variables_of, Atom, Literal, Action, Component, keys_of, Domain}
use Rattle.literals.specs.Held.{Bounded}
use Rattle.literals.proofs.Equality.{variables_eq}
use Rattle.literals.specs.Matching.{is_of, key_tuple, tuples_by, tuples_of}
use Rattle.classes.specs.Classes.{literal_tuples, belongs, classes}
use Rattle.classes.specs.Held.{class_number_by, class_numbers}
use Rattle.literals.proofs.Indices.{get_d_map}
use Rattle.classes.proofs.Rows.{no_literal, literal_at}

-- ---- a literal has at most one key tuple

abbrev same_relation : Component → Component → Bool
same_relation c d = eqb c.rel d.rel

module _ {A : Type 0} (n : ℕ) (f : Atom A) where
  -- of components that have another relation
  tuples_none : (c : Component) (cs : List Component) → all (λ d. not (same_relation c d)) cs ≡ true → c.rel ≡ f.rel → length (tuples_by n cs f) ≡ 0
  tuples_none c [] h e = refl
  tuples_none c (d ∷ cs) h e =
      rw (eqb_comm d.rel f.rel ∙ ap (λ (r : ℕ). eqb r d.rel) (sym e) ∙ not_true (eqb c.rel d.rel) (and_l _ _ h)) (tuples_none c cs (and_r (not (same_relation c d)) _ h) e)

  tuples_few : (cs : List Component) → distinct same_relation cs ≡ true → length (tuples_by n cs f) ≤ 1
  tuples_few [] h = omega arith
  tuples_few (c ∷ cs) h = go (is_of c f) refl (tuples_few cs (and_r (all (λ d. not (same_relation c d)) cs) _ h))
    where
      go : (t : Bool) → is_of c f ≡ t → length (tuples_by n cs f) ≤ 1 → length (keep_if t (key_tuple n c.labels f.args) (tuples_by n cs f)) ≤ 1
      go true e r = let k = tuples_none c cs (and_l _ _ h) (eqb-true c.rel f.rel (and_l _ _ e)) in omega arith
      go false e r = r

pub tuple_once : (D : Domain) → Bounded D → (f : Atom Argument) → length (literal_tuples D f) ≤ 1
unfolding literal_tuples tuples_of
tuple_once D B f = rw (length-map (tuples_of D f) variables_of) (tuples_few (keys_of D.template) f D.template B.components_once)

-- ---- there are at most as many classes as literals

pub classes_few : (D : Domain) (a : Action) → Bounded D → length (classes D a) ≤ length a.lits
unfolding classes
classes_few D a B =
    let h = flat_few (λ (l : Literal). literal_tuples D l.atom) a.lits (λ l. tuple_once D B l.atom) in
    let g = dedup_few (same_list same_variable) (flat_map (λ (l : Literal). literal_tuples D l.atom) a.lits) in
    omega arith

-- ---- the place of an element that stands once

module _ {A : Type 0} (eq : A → A → Bool) (sound : (a b : A) → eq a b ≡ true → a ≡ b) where
  place : (t : A) (xs : List A) (k : ℕ) (d : A) → distinct eq xs ≡ true → k < length xs → eqb (position (eq t) xs) k ≡ eq t (get_or xs k d)
  place t [] k d o h = absurd (omega arith)
  place t (x ∷ xs) zero d o h = go (eq t x)
    where
      go : (b : Bool) → eqb (cond b zero (suc (position (eq t) xs))) zero ≡ b
      go true = refl
      go false = eqb-suc-zero (position (eq t) xs)
  place t (x ∷ xs) (suc k) d o h = go (eq t x) refl (place t xs k d (and_r (all (λ y. not (eq x y)) xs) _ o) (omega arith))
    where
      go : (b : Bool) → eq t x ≡ b → eqb (position (eq t) xs) k ≡ eq t (get_or xs k d) → eqb (cond b zero (suc (position (eq t) xs))) (suc k) ≡ eq t (get_or xs k d)
      go true e r =
          eqb-zero-suc k
          ∙ sym (ap (λ (y : A). eq y (get_or xs k d)) (sound t x e) ∙ not_true _ (all_in (λ y. not (eq x y)) xs (and_l _ _ o) (get_d_in xs k d (omega arith))))
      go false e r = eqb-suc-suc (position (eq t) xs) k ∙ r

-- ---- class numbers

pub classes_distinct : (D : Domain) (a : Action) → distinct (same_list same_variable) (classes D a) ≡ true
unfolding classes
classes_distinct D a = distinct_dedup (same_list same_variable) (flat_map (λ (l : Literal). literal_tuples D l.atom) a.lits)

-- a literal has the number of a class exactly where it belongs to it
pub member : {D : Domain} {a : Action} (k : ℕ) → Bounded D → In a D.actions → k < length (classes D a) → (j : ℕ) → j < length a.lits
    → eqb (get_or (class_numbers D a) j 0) k ≡ belongs D (get_or (classes D a) k []) (literal_at a.lits j).atom
unfolding class_numbers
member {D} {a} k B i h j g =
    ap (λ (n : ℕ). eqb n k) (get_d_map (λ (l : Literal). class_number_by (classes D a) (literal_tuples D l.atom)) a.lits j no_literal 0 g)
    ∙ by_tuple (literal_tuples D (literal_at a.lits j).atom) (tuple_once D B (literal_at a.lits j).atom)
  where
    few : k < 255
    few = let s = classes_few D a B in let t = B.sizes a i in omega arith

    or_false : (b : Bool) → b ≡ b || false
    or_false true = refl
    or_false false = refl

    by_tuple : (ts : List (List Variable)) → length ts ≤ 1 → eqb (class_number_by (classes D a) ts) k ≡ any (λ t. same_list same_variable t (get_or (classes D a) k [])) ts
    by_tuple [] l = let s = few in ne_eqb 255 k (λ e. omega arith)
    by_tuple (t ∷ []) l = place (same_list same_variable) variables_eq t (classes D a) k [] (classes_distinct D a) h ∙ or_false _
    by_tuple (t ∷ u ∷ ts) l = absurd (omega arith)
