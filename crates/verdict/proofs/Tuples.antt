-- Key tuples under a binding: an injective binding keeps different tuples and different literals apart. Assumes nothing.
use mathlib.Core.Path.{◌≡◌, refl, sym, ap, ap₂, ◌∙◌}
use mathlib.Core.Bool.{Bool, true, false, not}
use mathlib.Core.Logic.{◌⊎◌, inl, inr}
use mathlib.Core.List.Memᴰ
use mathlib.Core.List.{List, [], ◌∷◌, ◌++◌, map, map-append}
use mathlib.Core.List.{nil≢cons, cons≢nil, head-eq_of_cons-eq, tail-eq_of_cons-eq}
use Prim.Native.Nat.{ℕ, zero, suc, ◌<◌}
use native.Mathlib.Nat.{not-suc-le-zero, le_of_suc-le-suc}
use lib.ListN.{get_or, length}
use Rattle.records.specs.Lists.{In, all, keep_if, same_list, distinct}
use Rattle.records.proofs.Lists.{and_l, and_r, in_any, any_in, all_in, in_keep_if, get_d_in, not_true, clash, same_list_eq, same_list_self}
use Rattle.literals.specs.declared.Variable.{Variable}
use Rattle.literals.specs.declared.Object.{Object}
use Rattle.literals.specs.declared.Argument.{Argument}
use Rattle.literals.specs.declared.Argument.TheVariants.{Variable as bound}
use Rattle.literals.specs.declared.Key.{Key}
use Rattle.literals.specs.declared.Label.{Label}
use Rattle.literals.specs.Domain.{variable, object, key, same_variable, same_object, variables_of, Atom, Fact, Component, is_key, keys_of}
use Rattle.literals.specs.Domain.{Domain}
use Rattle.literals.specs.Matching.{under, key_tuple, is_of, tuples_by, tuples_of, has_tuple, matches}
use Rattle.classes.specs.Classes.{literal_tuples, belongs}
use Rattle.classes.proofs.Numbers.{key_tuple_in}
use Rattle.verdict.specs.Binding.{Binding, value_of, bind_tuple}
use Rattle.literals.proofs.Bounds.{variables_in_lem}
use Rattle.literals.proofs.Arguments.{in_variables}
use Rattle.verdict.proofs.Equality.{object_eq, object_self, variables_eq, variables_self}

-- ---- tuples of the arguments' images

module _ {A B : Type 0} (f : A → B) where
  pub under_map : (k : Key) (ls : List Label) (vs : List A) → under k ls (map f vs) ≡ map f (under k ls vs)
  under_map k [] vs = refl
  under_map k (l ∷ ls) [] = refl
  under_map k (l ∷ ls) (v ∷ vs) = go (is_key k l) (under_map k ls vs)
    where
      go : (b : Bool) → under k ls (map f vs) ≡ map f (under k ls vs) → keep_if b (f v) (under k ls (map f vs)) ≡ map f (keep_if b v (under k ls vs))
      go true h = ap {B = List B} (λ l. f v ∷ l) h
      go false h = h

  pub key_tuple_map : (n : ℕ) (ls : List Label) (vs : List A) → key_tuple n ls (map f vs) ≡ map f (key_tuple n ls vs)
  key_tuple_map zero ls vs = refl
  key_tuple_map (suc n) ls vs = ap₂ ◌++◌ (key_tuple_map n ls vs) (under_map (key n) ls vs) ∙ sym (map-append f (key_tuple n ls vs) (under (key n) ls vs))

-- ---- a literal of the class, a fact of the instance

module _ {A : Type 0} (eq : A → A → Bool) where
  pub has_of : ((a : A) → eq a a ≡ true) → (D : Domain) (x : List A) (p : Atom A) → In x (tuples_of D p) → has_tuple eq D x p ≡ true
  unfolding has_tuple
  has_of self D x p m = in_any (λ t. same_list eq t x) m (same_list_self eq self x)

  pub tuple_of : ((a b : A) → eq a b ≡ true → a ≡ b) → (D : Domain) (x : List A) (p : Atom A) → has_tuple eq D x p ≡ true → In x (tuples_of D p)
  unfolding has_tuple
  tuple_of sound D x p h = let r = any_in (λ t. same_list eq t x) (tuples_of D p) h in Memᴰ.cast (sym (same_list_eq eq sound r.0 x r.2)) r.1

pub belongs_of : (D : Domain) (x : List Variable) (p : Atom Argument) → In x (literal_tuples D p) → belongs D x p ≡ true
belongs_of D x p m = in_any (λ t. same_list same_variable t x) m (variables_self x)

pub belongs_tuple : (D : Domain) (x : List Variable) (p : Atom Argument) → belongs D x p ≡ true → In x (literal_tuples D p)
belongs_tuple D x p h =
    let r = any_in (λ t. same_list same_variable t x) (literal_tuples D p) h in Memᴰ.cast (sym (variables_eq r.0 x r.2)) r.1

pub matches_of : (D : Domain) (y : List Object) (f : Fact) → In y (tuples_of D f) → matches D y f ≡ true
matches_of = has_of same_object object_self

pub matches_tuple : (D : Domain) (y : List Object) (f : Fact) → matches D y f ≡ true → In y (tuples_of D f)
matches_tuple = tuple_of same_object object_eq

-- ---- a tuple's members are arguments

module _ {A : Type 0} where
  pub tuples_in_lem : (n : ℕ) (cs : List Component) (p : Atom A) {u : List A} → In u (tuples_by n cs p)
      → (c : Component) × In c cs × (is_of c p ≡ true) × (u ≡ key_tuple n c.labels p.args)
  tuples_in_lem n [] p m = absurd (Memᴰ.not-nil m)
  tuples_in_lem n (c ∷ cs) p {u} m = go (λ k. tuples_in_lem n cs p k) (in_keep_if (is_of c p) (key_tuple n c.labels p.args) (tuples_by n cs p) m)
    where
      go : (In u (tuples_by n cs p) → (c : Component) × In c cs × (is_of c p ≡ true) × (u ≡ key_tuple n c.labels p.args))
          → ((is_of c p ≡ true) × (u ≡ key_tuple n c.labels p.args)) ⊎ In u (tuples_by n cs p)
          → (d : Component) × In d (c ∷ cs) × (is_of d p ≡ true) × (u ≡ key_tuple n d.labels p.args)
      go ih (inl h) = (c, Memᴰ.head refl, h.0, h.1)
      go ih (inr k) = let r = ih k in (r.0, Memᴰ.tail r.1, r.2, r.3)

  pub component_of_lem : (D : Domain) (p : Atom A) {u : List A} → In u (tuples_of D p)
      → (c : Component) × In c D.template × (is_of c p ≡ true) × (u ≡ key_tuple (keys_of D.template) c.labels p.args)
  unfolding tuples_of
  component_of_lem D p m = tuples_in_lem (keys_of D.template) D.template p m

-- the component of a literal's key tuple
pub literal_component : (D : Domain) (p : Atom Argument) {u : List Variable} → In u (literal_tuples D p)
    → (c : Component) × In c D.template × (is_of c p ≡ true) × (u ≡ variables_of (key_tuple (keys_of D.template) c.labels p.args))
unfolding literal_tuples
literal_component D p m =
    let t = Memᴰ.of_map variables_of (tuples_of D p) m in
    let r = component_of_lem D p t.1 in
    (r.0, r.1, r.2, sym t.2 ∙ ap variables_of r.3)

-- a variable among some arguments that are among others
pub variables_among : (us vs : List Argument) → ((w : Argument) → In w us → In w vs) → {v : Variable} → In v (variables_of us)
    → In v (variables_of vs)
variables_among us vs h m = in_variables vs (h (bound _) (variables_in_lem us m))

-- ---- injective bindings

abbrev pub Below : ℕ → List Variable → Type 0
Below n u = (v : Variable) → In v u → v.0 < n

pub tuple_below : (D : Domain) (n : ℕ) (p : Atom Argument) {u : List Variable} → Below n (variables_of p.args) → In u (literal_tuples D p)
    → Below n u
tuple_below D n p h m v k =
    let r = literal_component D p m in
    h v (variables_among (key_tuple (keys_of D.template) r.0.labels p.args) p.args
    (λ w i. key_tuple_in (keys_of D.template) r.0.labels p.args i) (rw r.3 at k))

-- the first element stands nowhere else
other : (x : Object) (xs : List Object) → distinct same_object (x ∷ xs) ≡ true → In x xs → ⊥
other x xs d m = clash (object_self x) (not_true _ (all_in (λ o. not (same_object x o)) xs (and_l _ _ d) m))

pub get_d_inj : (b : Binding) → distinct same_object b ≡ true → (i j : ℕ) → i < length b → j < length b → get_or b i (object 0) ≡ get_or b j (object 0) → i ≡ j
get_d_inj [] d i j h k e = absurd (not-suc-le-zero h)
get_d_inj (x ∷ xs) d zero zero h k e = refl
get_d_inj (x ∷ xs) d zero (suc j) h k e = absurd (other x xs d (Memᴰ.cast e (get_d_in xs j (object 0) (le_of_suc-le-suc k))))
get_d_inj (x ∷ xs) d (suc i) zero h k e = absurd (other x xs d (Memᴰ.cast (sym e) (get_d_in xs i (object 0) (le_of_suc-le-suc h))))
get_d_inj (x ∷ xs) d (suc i) (suc j) h k e =
    ap suc (get_d_inj xs (and_r (all (λ o. not (same_object x o)) xs) _ d) i j (le_of_suc-le-suc h) (le_of_suc-le-suc k) e)

module _ (b : Binding) (d : distinct same_object b ≡ true) where
  pub value_inj : (v w : Variable) → v.0 < length b → w.0 < length b → value_of b v ≡ value_of b w → v ≡ w
  value_inj v w h k e = ap variable (get_d_inj b d v.0 w.0 h k e)

  pub bind_tuple_inj : (u w : List Variable) → Below (length b) u → Below (length b) w → bind_tuple b u ≡ bind_tuple b w → u ≡ w
  bind_tuple_inj [] [] h k e = refl
  bind_tuple_inj [] (y ∷ ys) h k e = absurd (nil≢cons e)
  bind_tuple_inj (x ∷ xs) [] h k e = absurd (cons≢nil e)
  bind_tuple_inj (x ∷ xs) (y ∷ ys) h k e =
      ap₂ ◌∷◌ (value_inj x y (h x (Memᴰ.head refl)) (k y (Memᴰ.head refl)) (head-eq_of_cons-eq e))
      (bind_tuple_inj xs ys (λ v m. h v (Memᴰ.tail m)) (λ v m. k v (Memᴰ.tail m)) (tail-eq_of_cons-eq e))
