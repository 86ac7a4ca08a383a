-- The key tuple of an instance fact is the instance; the first component that is not covered. Assumes nothing.
use mathlib.Core.Path.{◌≡◌, refl, sym, ap, ap₂, ◌∙◌}
use mathlib.Core.Bool.{Bool, true, false, ◌&&◌, true≢false, cond}
use mathlib.Core.Logic.{◌⊎◌, inl, inr}
use mathlib.Core.List.Memᴰ
use mathlib.Core.List.{List, [], ◌∷◌, ◌++◌, map}
use Prim.Native.Nat.{ℕ, zero, suc, ◌≤◌, ◌<◌}
use native.Mathlib.Omega.{arith}
use lib.Dec.{eqb}
use lib.ListN.{get_or, length, take, length-map}
use lib.Seq.{take-suc, take_all}
use borrow.Author.Tests.{eqb-true, ltb-true}
use Rattle.records.specs.Lists.{In, all, count_by}
use Rattle.records.proofs.Lists.{and_l, and_r, and_i, eqb_same, in_keep_if, keep_if_tail, all_in, get_d_in}
use Rattle.literals.specs.declared.Variable.{Variable}
use Rattle.literals.specs.declared.Object.{Object}
use Rattle.literals.specs.declared.Argument.{Argument}
use Rattle.literals.specs.declared.Argument.TheVariants.{Variable as bound, Every}
use Rattle.literals.specs.declared.Key.{Key}
use Rattle.literals.specs.declared.Label.{Label}
use Rattle.literals.specs.declared.Label.TheVariants.{Key as keyed, Counted}
use Rattle.literals.specs.Domain.{object, key, variables_of, Atom, Literal, Action, Component, is_key, key_below, keys_bound, counted_cleared}
use Rattle.literals.specs.Domain.{keeps_keys, each_key_once, keys_of, Domain}
use Rattle.literals.proofs.Arguments.{keys_bound_lem}
use Rattle.literals.proofs.Bytes.{keys_below_lem, keys_once}
use Rattle.literals.specs.Matching.{under, key_tuple, is_of, tuples_by, tuples_of, matches}
use Rattle.classes.specs.Classes.{classes, covered}
use Rattle.verdict.specs.Binding.{Binding, value_of}
use Rattle.verdict.specs.Decision.{object_under, instance_fact, first_uncovered}
use Rattle.verdict.specs.Claims.{well_formed_action, well_formed_template}
use Rattle.verdict.proofs.Tuples.{matches_of, literal_component, Below}
use Rattle.verdict.proofs.Facts.{Stands, stand_length, key_tuple_stand}
use Rattle.verdict.proofs.Arguments.{filled, filled_stands}
use Rattle.verdict.proofs.WellFormed.{literal_keys, labels_fit_lem}
use Rattle.verdict.proofs.Acts.{class_in}
use Rattle.verdict.proofs.TopWeight.{under_count, tuple_size}

-- ---- a tuple has one element a key

-- a literal's variables under the keys, of which none stands at FF
variables_size : (n : ℕ) (ls : List Label) (vs : List Argument) → keys_bound ls vs ≡ true → length ls ≡ length vs → each_key_once n ls ≡ true
    → length (variables_of (key_tuple n ls vs)) ≡ n
variables_size n ls vs kb e h =
    let s = filled_stands [] vs in
    let l = stand_length (object 0 ∷ []) [] vs (filled [] vs) s in
    let t = ap length (key_tuple_stand (object 0 ∷ []) [] n ls vs (filled [] vs) kb s) in
    let m = length-map (variables_of (key_tuple n ls vs)) (value_of []) in
    let z = tuple_size n ls (filled [] vs) (omega arith) h in
    omega arith

-- where each component has each key once, and none where a literal of its relation has FF
pub class_keys : (D : Domain) (a : Action) → ((c : Component) → In c D.template → each_key_once (keys_of D.template) c.labels ≡ true)
    → ((l : Literal) → In l a.lits → all (λ c. keeps_keys c l.atom) D.template ≡ true)
    → (x : List Variable) → In x (classes D a) → length x ≡ keys_of D.template
class_keys D a once keys x m =
    let l = class_in D a m in
    let c = literal_component D l.0.atom l.2 in
    ap length c.3 ∙ variables_size (keys_of D.template) c.0.labels l.0.atom.args
    (keys_bound_lem c.0 l.0.atom (and_l _ _ c.2) (all_in (λ k. keeps_keys k l.0.atom) D.template (keys l.0 l.1) c.1))
    (eqb-true _ _ (and_r (eqb c.0.rel l.0.atom.rel) _ c.2)) (once c.0 c.1)

pub class_length : (D : Domain) (a : Action) → well_formed_action D a ≡ true → well_formed_template D ≡ true
    → (x : List Variable) → In x (classes D a) → length x ≡ keys_of D.template
class_length D a ok okT = class_keys D a (λ c m. keys_once _ _ (labels_fit_lem D okT c m)) (literal_keys D a ok)

-- ---- the tuple of an instance fact is the instance

-- the objects under a key are all the instance's object of that key
under_object : (s : Object) (y : List Object) (k : Key) (ls : List Label) (o : Object) → In o (under k ls (map (object_under s y) ls)) → o ≡ get_or y k.0 (object 0)
under_object s y k [] o m = absurd (Memᴰ.not-nil m)
under_object s y k (Counted ∷ ls) o m = under_object s y k ls o m
under_object s y k (keyed j ∷ ls) o m =
    go (λ i. under_object s y k ls o i) (in_keep_if (eqb k.0 j.0) (get_or y j.0 (object 0)) (under k ls (map (object_under s y) ls)) m)
  where
    go : (In o (under k ls (map (object_under s y) ls)) → o ≡ get_or y k.0 (object 0))
        → ((eqb k.0 j.0 ≡ true) × (o ≡ get_or y j.0 (object 0))) ⊎ In o (under k ls (map (object_under s y) ls)) → o ≡ get_or y k.0 (object 0)
    go ih (inl h) = h.1 ∙ ap (λ i. get_or y i (object 0)) (sym (eqb-true k.0 j.0 h.0))
    go ih (inr i) = ih i

one_list : (l : List Object) (o : Object) → length l ≡ 1 → ((p : Object) → In p l → p ≡ o) → l ≡ o ∷ []
one_list [] o e h = absurd (omega arith)
one_list (z ∷ []) o e h = ap {B = List Object} (λ w. w ∷ []) (h z (Memᴰ.head refl))
one_list (z ∷ w ∷ ws) o e h = absurd (omega arith)

tuple_take : (s : Object) (y : List Object) (n : ℕ) (ls : List Label) → n ≤ length y → each_key_once n ls ≡ true
    → key_tuple n ls (map (object_under s y) ls) ≡ take n y
tuple_take s y zero ls h k = refl
tuple_take s y (suc n) ls h k =
    let c = eqb-true (count_by (is_key (key n)) ls) 1 (and_r (each_key_once n ls) _ k) in
    let l = under_count (key n) ls (map (object_under s y) ls) (sym (length-map ls (object_under s y))) in
    ap₂ ◌++◌ (tuple_take s y n ls (omega arith) (and_l _ _ k))
    (one_list (under (key n) ls (map (object_under s y) ls)) (get_or y n (object 0)) (omega arith) (under_object s y (key n) ls)) ∙ sym (take-suc y n (object 0) h)

in_tuples : {A : Type 0} (n : ℕ) {c : Component} (cs : List Component) (p : Atom A) → In c cs → is_of c p ≡ true → In (key_tuple n c.labels p.args) (tuples_by n cs p)
in_tuples n {c} cs p (Memᴰ.head {x = d} e) h =
    let k : is_of d p ≡ true = rw e at h in rw k (Memᴰ.head (ap (λ (z : Component). key_tuple n z.labels p.args) e))
in_tuples n cs p (Memᴰ.tail {x = d} {xs = ds} m) h = keep_if_tail (is_of d p) (key_tuple n d.labels p.args) (in_tuples n ds p m h)

module _ (D : Domain) (ok : well_formed_template D ≡ true) (s : Object) (y : List Object) (len : length y ≡ keys_of D.template) (c : Component) (m : In c D.template) where
  pub instance_matches : matches D y (instance_fact s y c) ≡ true
  unfolding tuples_of
  instance_matches = matches_of D y (instance_fact s y c) (rw whole at (in_tuples n D.template (instance_fact s y c) m about))
    where
      n : ℕ
      n = keys_of D.template

      whole : key_tuple n c.labels (map (object_under s y) c.labels) ≡ y
      whole = tuple_take s y n c.labels (omega arith) (keys_once _ _ (labels_fit_lem D ok c m)) ∙ take_all n y (omega arith)

      about : is_of c (instance_fact s y c) ≡ true
      about = and_i (eqb_same c.rel) (rw (length-map c.labels (object_under s y)) (eqb_same (length c.labels)))

  -- its objects are the instance's and the spare one
  pub instance_objects : (o : Object) → In o (instance_fact s y c).args → In o y ⊎ (o ≡ s)
  instance_objects o h =
      let r = Memᴰ.of_map (object_under s y) c.labels h in
      go r.0 (all_in (key_below (keys_of D.template)) c.labels (keys_below_lem _ _ (labels_fit_lem D ok c m)) r.1) r.2
    where
      go : (l : Label) → key_below (keys_of D.template) l ≡ true → object_under s y l ≡ o → In o y ⊎ (o ≡ s)
      go Counted b e = inr (sym e)
      go (keyed k) b e = let z : k.0 < keys_of D.template = ltb-true _ _ b in inl (rw (← e) (get_d_in y k.0 (object 0) (omega arith)))

-- a counted place has the spare object: a literal that stands for the fact has FF there
pub spare_cleared : (objs : List Object) (b : Binding) (s : Object) → (In s b → ⊥)
    → (y : List Object) (ls : List Label) (vs : List Argument) → Below (length b) (variables_of vs)
    → Stands objs b vs (map (object_under s y) ls) → counted_cleared ls vs ≡ true
spare_cleared objs b s out y [] vs h t = refl
spare_cleared objs b s out y (l ∷ ls) [] h t = refl
spare_cleared objs b s out y (keyed k ∷ ls) (bound v ∷ vs) h t = spare_cleared objs b s out y ls vs (λ w m. h w (Memᴰ.tail m)) t.1
spare_cleared objs b s out y (keyed k ∷ ls) (Every ∷ vs) h t = spare_cleared objs b s out y ls vs h t.1
spare_cleared objs b s out y (Counted ∷ ls) (Every ∷ vs) h t = spare_cleared objs b s out y ls vs h t.1
spare_cleared objs b s out y (Counted ∷ ls) (bound v ∷ vs) h t =
    absurd (out (Memᴰ.cast (Memᴰ.eq_of_singleton t.0) (get_d_in b v.0 (object 0) (h v (Memᴰ.head refl)))))

-- ---- the first component that is not covered

pub first_uncovered_lem : (ps : List (Atom Argument)) (cs : List Component) → all (covered ps) cs ≡ false
    → (u : Component) × In u cs × (covered ps u ≡ false) × (first_uncovered ps cs ≡ u ∷ [])
first_uncovered_lem ps [] h = absurd (true≢false h)
first_uncovered_lem ps (c ∷ cs) h = go (covered ps c) refl h (λ k. first_uncovered_lem ps cs k)
  where
    go : (b : Bool) → covered ps c ≡ b → b && all (covered ps) cs ≡ false
        → (all (covered ps) cs ≡ false → (u : Component) × In u cs × (covered ps u ≡ false) × (first_uncovered ps cs ≡ u ∷ []))
        → (u : Component) × In u (c ∷ cs) × (covered ps u ≡ false) × (cond b (first_uncovered ps cs) (c ∷ []) ≡ u ∷ [])
    go true e k ih = let r = ih k in (r.0, Memᴰ.tail r.1, r.2, r.3)
    go false e k ih = (c, Memᴰ.head refl, e, refl)
