-- Two domains whose key tuples answer each other one to one have the same rows. Assumes nothing.
use mathlib.Core.Path.{◌≡◌, refl, sym, ap, ap₂, ◌∙◌}
use mathlib.Core.Bool.{Bool, true, false, not, ◌&&◌, ◌||◌}
use mathlib.Core.Logic.{◌⊎◌, inl, inr}
use mathlib.Core.List.Memᴰ
use mathlib.Core.List.{List, [], ◌∷◌, ◌++◌, map, map-append, flat_map}
use Prim.Native.Nat.{ℕ, suc}
use lib.Dec.{eqb}
use lib.ListN.{length}
use Rattle.records.specs.Lists.{In, all, any, filter_by, keep_if, same_list, dedup}
use Rattle.records.proofs.Lists.{off, bool_cases, clash, any_map, filter_agree, dedup_in, flat_map_in}
use Rattle.literals.specs.declared.Variable.{Variable}
use Rattle.literals.specs.declared.Argument.{Argument}
use Rattle.literals.specs.declared.Usage.{Usage}
use Rattle.literals.specs.declared.Usage.TheVariants.{Positive, Negative, Add, Delete}
use Rattle.literals.specs.Domain.{same_variable, Atom, Literal, Action, Domain}
use Rattle.literals.specs.declared.Moment.{Moment}
use Rattle.literals.specs.declared.Moment.TheVariants.{Start, End}
use Rattle.classes.specs.declared.Name.{Name}
use Rattle.classes.specs.Classes.{literal_tuples, belongs, moments_of, counted_for_name, counted_for_reach, classes, in_class, reach_in, name_by}
use Rattle.classes.specs.Classes.{deleted_by, changed_by, covered, excluding, name_of, journey}
use Rattle.verdict.specs.Decision.{journey_end_at, row_at, rows_of_classes, rows_from, rows}
use Rattle.verdict.proofs.Equality.{variables_eq, variables_self}
use Rattle.classes.proofs.Roles.{literals_at_in, required_in}
use Rattle.verdict.proofs.Acts.{class_in}

-- ---- lists

any_agree : {A : Type 0} (p q : A → Bool) (l : List A) → ((a : A) → In a l → p a ≡ q a) → any p l ≡ any q l
any_agree p q [] h = refl
any_agree p q (x ∷ xs) h = ap₂ ◌||◌ (h x (Memᴰ.head refl)) (any_agree p q xs (λ a m. h a (Memᴰ.tail m)))

pub map_agree : {A B : Type 0} (f g : A → B) (l : List A) → ((a : A) → f a ≡ g a) → map f l ≡ map g l
map_agree f g [] h = refl
map_agree f g (x ∷ xs) h = ap₂ ◌∷◌ (h x) (map_agree f g xs h)

filter_map : {A B : Type 0} (f : A → B) (p : B → Bool) (l : List A) → filter_by p (map f l) ≡ map f (filter_by (λ a. p (f a)) l)
filter_map f p [] = refl
filter_map {A} {B} f p (x ∷ xs) = go (p (f x)) (filter_map f p xs)
  where
    go : (b : Bool) → filter_by p (map f xs) ≡ map f (filter_by (λ a. p (f a)) xs)
        → keep_if b (f x) (filter_by p (map f xs)) ≡ map f (keep_if b x (filter_by (λ a. p (f a)) xs))
    go true e = ap {B = List B} (λ l. f x ∷ l) e
    go false e = e

-- a map that keeps equality and difference goes past `dedup`
dedup_map : {A B : Type 0} (f : A → B) (eq : A → A → Bool) (eq' : B → B → Bool) (l : List A)
    → ((a b : A) → In a l → In b l → eq' (f a) (f b) ≡ eq a b) → dedup eq' (map f l) ≡ map f (dedup eq l)
dedup_map f eq eq' [] h = refl
dedup_map {A} {B} f eq eq' (x ∷ xs) h =
    ap {B = List B} (λ l. f x ∷ l)
    (ap (filter_by (λ y. not (eq' (f x) y))) (dedup_map f eq eq' xs (λ a b m n. h a b (Memᴰ.tail m) (Memᴰ.tail n)))
    ∙ filter_map f (λ y. not (eq' (f x) y)) (dedup eq xs)
    ∙ ap (map f) (filter_agree (λ y. not (eq' (f x) (f y))) (λ y. not (eq x y)) (dedup eq xs)
    (λ a m. ap not (h x a (Memᴰ.head refl) (Memᴰ.tail (dedup_in eq xs m))))))

flat_map_map : {A B C : Type 0} (g : B → C) (f : A → List B) (f' : A → List C) (l : List A) → ((a : A) → In a l → f' a ≡ map g (f a))
    → flat_map f' l ≡ map g (flat_map f l)
unfolding flat_map
flat_map_map g f f' [] h = refl
flat_map_map g f f' (x ∷ xs) h =
    ap₂ ◌++◌ (h x (Memᴰ.head refl)) (flat_map_map g f f' xs (λ a m. h a (Memᴰ.tail m))) ∙ sym (map-append g (f x) (flat_map f xs))

-- ---- a name by the lists that it looks at

abbrev pub name_via : List (Atom Argument) → List (Atom Argument) → List (Atom Argument) → List (Atom Argument) → List (Atom Argument)
    → (List (Atom Argument) → Bool) → Name
name_via r p a d n cov = name_by (length r) (length p) (length a) (all (changed_by a d) p) (cov (n ++ (a ++ d)))

pub name_via_lem : (D : Domain) (a : Action) (x : List Variable) (m : Moment)
    → name_of D a x m ≡ name_via (reach_in D a x m) (in_class D a x m Positive) (in_class D a x m Add) (in_class D a x m Delete)
    (in_class D a x m Negative) (λ ps. all (covered ps) D.template)
unfolding name_of excluding
name_via_lem D a x m = refl

abbrev pub journey_via : Bool → List (Atom Argument) → List (Atom Argument) → List (Atom Argument) → List (Atom Argument) → List (Atom Argument)
    → Bool
journey_via l sa sp sd ep ea = l && eqb (length sa) 0 && eqb (length sp) 1 && all (deleted_by sd) sp && eqb (length ep) 0 && eqb (length ea) 1

pub journey_via_lem : (D : Domain) (a : Action) (x : List Variable)
    → journey D a x ≡ journey_via a.lasting (in_class D a x Start Add) (in_class D a x Start Positive) (in_class D a x Start Delete)
    (in_class D a x End Positive) (in_class D a x End Add)
unfolding journey
journey_via_lem D a x = refl

-- ---- two domains

module _ (D E : Domain) (same : E.actions ≡ D.actions)
    (φ : List Variable → List Variable)
    (Fit : Atom Argument → Type 0)
    (fits : (a : Action) → In a D.actions → (l : Literal) → In l a.lits → Fit l.atom)
    (tuples : (p : Atom Argument) → Fit p → literal_tuples E p ≡ map φ (literal_tuples D p))
    (keeps : (p q : Atom Argument) → Fit p → Fit q → (x y : List Variable) → In x (literal_tuples D p) → In y (literal_tuples D q) → φ x ≡ φ y
    → x ≡ y)
    (cover : (ps : List (Atom Argument)) → all (covered ps) E.template ≡ all (covered ps) D.template) where
  -- equal tuples answer equal tuples
  alike : (p q : Atom Argument) → Fit p → Fit q → (x y : List Variable) → In x (literal_tuples D p) → In y (literal_tuples D q)
      → same_list same_variable (φ x) (φ y) ≡ same_list same_variable x y
  alike p q fp fq x y m n = go (bool_cases (same_list same_variable x y))
    where
      go : (same_list same_variable x y ≡ true) ⊎ (same_list same_variable x y ≡ false)
          → same_list same_variable (φ x) (φ y) ≡ same_list same_variable x y
      go (inl t) = ap (λ z. same_list same_variable (φ x) (φ z)) (sym (variables_eq x y t)) ∙ variables_self (φ x) ∙ sym t
      go (inr f) =
          off (same_list same_variable (φ x) (φ y)) (λ t. clash
          (ap (same_list same_variable x) (sym (keeps p q fp fq x y m n (variables_eq (φ x) (φ y) t))) ∙ variables_self x) f) ∙ sym f

  module _ (a : Action) (here : In a D.actions) where
    literal_fits_lem : {l : Literal} → In l a.lits → Fit l.atom
    literal_fits_lem {l} k = fits a here l k

    classes_answer : classes E a ≡ map φ (classes D a)
    unfolding classes
    classes_answer =
        ap (dedup (same_list same_variable)) (flat_map_map φ (λ (l : Literal). literal_tuples D l.atom)
        (λ (l : Literal). literal_tuples E l.atom) a.lits (λ l k. tuples l.atom (literal_fits_lem k)))
        ∙ dedup_map φ (same_list same_variable) (same_list same_variable) (flat_map (λ (l : Literal). literal_tuples D l.atom) a.lits)
        (λ x y m n. let r = flat_map_in (λ (l : Literal). literal_tuples D l.atom) a.lits m in
        let s = flat_map_in (λ (l : Literal). literal_tuples D l.atom) a.lits n in
        alike r.0.atom s.0.atom (literal_fits_lem r.1) (literal_fits_lem s.1) x y r.2 s.2)

    module _ (x : List Variable) (hx : In x (classes D a)) where
      belongs_alike : (p : Atom Argument) → Fit p → belongs E (φ x) p ≡ belongs D x p
      belongs_alike p fp =
          let l = class_in D a hx in
          ap (any (λ t. same_list same_variable t (φ x))) (tuples p fp)
          ∙ any_map φ (λ t. same_list same_variable t (φ x)) (literal_tuples D p)
          ∙ any_agree (λ t. same_list same_variable (φ t) (φ x)) (λ t. same_list same_variable t x) (literal_tuples D p)
          (λ t m. alike p l.0.atom fp (literal_fits_lem l.1) t x m l.2)

      class_alike : (m : Moment) (c : Usage) → in_class E a (φ x) m c ≡ in_class D a x m c
      unfolding in_class
      class_alike m c =
          filter_agree (belongs E (φ x)) (belongs D x) (counted_for_name a m c)
          (λ p k. let r = literals_at_in a m c k in belongs_alike p (rw r.3 (literal_fits_lem r.1)))

      reach_alike : (m : Moment) → reach_in E a (φ x) m ≡ reach_in D a x m
      unfolding reach_in
      reach_alike m =
          filter_agree (belongs E (φ x)) (belongs D x) (counted_for_reach a m)
          (λ p k. let r = required_in a m Positive k in belongs_alike p (rw r.3 (literal_fits_lem r.1)))

      name_alike : (m : Moment) → name_of E a (φ x) m ≡ name_of D a x m
      name_alike m =
          name_via_lem E a (φ x) m
          ∙ (λ i. name_via (reach_alike m i) (class_alike m Positive i) (class_alike m Add i) (class_alike m Delete i)
          (class_alike m Negative i) (λ ps. cover ps i))
          ∙ sym (name_via_lem D a x m)

      journey_alike : journey E a (φ x) ≡ journey D a x
      journey_alike =
          journey_via_lem E a (φ x)
          ∙ (λ i. journey_via a.lasting (class_alike Start Add i) (class_alike Start Positive i) (class_alike Start Delete i)
          (class_alike End Positive i) (class_alike End Add i))
          ∙ sym (journey_via_lem D a x)

      end_alike : (m : Moment) → journey_end_at E a (φ x) m ≡ journey_end_at D a x m
      end_alike Start = refl
      end_alike End = journey_alike

      row_alike : (i j : ℕ) (m : Moment) → row_at E a i j (φ x) m ≡ row_at D a i j x m
      row_alike i j m = λ k. record { action = i; class = j; moment = m; name = name_alike m k; journey_end = end_alike m k }

    rows_classes : (i j : ℕ) (xs : List (List Variable)) → ((x : List Variable) → In x xs → In x (classes D a))
        → rows_of_classes E a i j (map φ xs) ≡ rows_of_classes D a i j xs
    rows_classes i j [] h = refl
    rows_classes i j (x ∷ xs) h =
        ap₂ ◌++◌ (map_agree (row_at E a i j (φ x)) (row_at D a i j x) (moments_of a) (row_alike x (h x (Memᴰ.head refl)) i j))
        (rows_classes i (suc j) xs (λ z m. h z (Memᴰ.tail m)))

  rows_from_lem : (i : ℕ) (as' : List Action) → ((a : Action) → In a as' → In a D.actions) → rows_from E i as' ≡ rows_from D i as'
  rows_from_lem i [] h = refl
  rows_from_lem i (a ∷ as') h =
      let m = h a (Memᴰ.head refl) in
      ap₂ ◌++◌ (ap (rows_of_classes E a i 0) (classes_answer a m) ∙ rows_classes a m i 0 (classes D a) (λ x m. m))
      (rows_from_lem (suc i) as' (λ b n. h b (Memᴰ.tail n)))

  pub rows_alike : rows E ≡ rows D
  unfolding rows
  rows_alike = ap (rows_from E 0) same ∙ rows_from_lem 0 D.actions (λ a m. m)
