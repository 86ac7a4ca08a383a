-- The further facts of an instance are the facts over the objects that it matches. Assumes nothing.
use mathlib.Core.Path.{◌≡◌, refl, sym, ap, ap₂, ◌∙◌}
use mathlib.Core.Bool.{true, ◌&&◌}
use mathlib.Core.Logic.{◌⊎◌, inl, inr}
use mathlib.Core.List.Memᴰ
use mathlib.Core.List.{List, [], ◌∷◌, map}
use Prim.Native.Nat.{ℕ, ◌≤◌, ◌<◌}
use native.Mathlib.Omega.{arith}
use lib.Dec.{eqb}
use lib.ListN.{get_or, length, length-map}
use borrow.Author.Tests.{eqb-true}
use Rattle.records.specs.Lists.{In, count_by}
use Rattle.records.proofs.Lists.{and_l, and_r, and_i, get_d_in, flat_map_in, in_flat_map}
use Rattle.literals.specs.declared.Object.{Object}
use Rattle.literals.specs.declared.Label.{Label}
use Rattle.literals.specs.declared.Label.TheVariants.{Key as keyed, Counted}
use Rattle.literals.specs.Domain.{object, Fact, Component, is_counted, keys_of, Domain}
use Rattle.literals.specs.Matching.{key_tuple, is_of, matches}
use Rattle.verdict.specs.Decision.{object_under, instance_fact}
use Rattle.verdict.specs.Claims.{has_arity, is_instance, is_fact, well_formed_template}
use Rattle.verdict.proofs.Equality.{atom_of_lem}
use Rattle.verdict.proofs.Tuples.{matches_tuple, component_of_lem}
use Rattle.verdict.proofs.WellFormed.{template_well_formed, component_arity_lem, labels_fit_lem}
use Rattle.verdict.proofs.Instances.{instance_matches, instance_objects}
use Rattle.verdict.proofs.Objects.{among_of, among_in}
use Rattle.services.proofs.KeyTuples.{Reads, reads_tail, read_head, tuple_reads, one_counted}
use Rattle.trying.specs.Trying.{facts_under, instance_facts}
use Rattle.trying.specs.Claims.{FurtherFacts}

-- ---- arguments read back from the instance

-- the argument in the counted place, or d
counted : List Label → List Object → Object → Object
counted [] vs d = d
counted (l ∷ ls) [] d = d
counted (keyed k ∷ ls) (v ∷ vs) d = counted ls vs d
counted (Counted ∷ ls) (v ∷ vs) d = v

counted_in : (ls : List Label) (vs : List Object) (d : Object) → In (counted ls vs d) vs ⊎ (counted ls vs d ≡ d)
unfolding counted
counted_in [] vs d = inr refl
counted_in (l ∷ ls) [] d = inr refl
counted_in (keyed k ∷ ls) (v ∷ vs) d = go (counted_in ls vs d)
  where
    go : In (counted ls vs d) vs ⊎ (counted ls vs d ≡ d) → In (counted ls vs d) (v ∷ vs) ⊎ (counted ls vs d ≡ d)
    go (inl m) = inl (Memᴰ.tail m)
    go (inr e) = inr e
counted_in (Counted ∷ ls) (v ∷ vs) d = inl (Memᴰ.head refl)

keys_back : (y : List Object) (o : Object) (ls : List Label) (vs : List Object) → length ls ≡ length vs → count_by is_counted ls ≡ 0
    → Reads (object 0) y ls vs → map (object_under o y) ls ≡ vs
keys_back y o [] [] e z h = refl
keys_back y o [] (v ∷ vs) e z h = absurd (omega arith)
keys_back y o (l ∷ ls) [] e z h = absurd (omega arith)
keys_back y o (keyed k ∷ ls) (v ∷ vs) e z h =
    ap₂ ◌∷◌ (read_head (object 0) y k.0 ls v vs h) (keys_back y o ls vs (omega arith) z (reads_tail (object 0) y (keyed k) ls v vs h))
keys_back y o (Counted ∷ ls) (v ∷ vs) e z h = absurd (omega arith)

args_back : (y : List Object) (d : Object) (ls : List Label) (vs : List Object) → length ls ≡ length vs → count_by is_counted ls ≤ 1
    → Reads (object 0) y ls vs → map (object_under (counted ls vs d) y) ls ≡ vs
unfolding counted
args_back y d [] [] e z h = refl
args_back y d [] (v ∷ vs) e z h = absurd (omega arith)
args_back y d (l ∷ ls) [] e z h = absurd (omega arith)
args_back y d (keyed k ∷ ls) (v ∷ vs) e z h =
    ap₂ ◌∷◌ (read_head (object 0) y k.0 ls v vs h) (args_back y d ls vs (omega arith) z (reads_tail (object 0) y (keyed k) ls v vs h))
args_back y d (Counted ∷ ls) (v ∷ vs) e z h =
    ap {B = List Object} (λ l. v ∷ l) (keys_back y v ls vs (omega arith) (omega arith) (reads_tail (object 0) y Counted ls v vs h))

module _ (D : Domain) (okT : well_formed_template D ≡ true) (objs y : List Object) where
  -- ---- a further fact is a fact of the domain over the objects that the instance matches

  further_is : (f : Fact) → In f (instance_facts D objs y)
      → (o : Object) × (c : Component) × In o objs × In c D.template × (f ≡ instance_fact o y c)
  unfolding instance_facts
  further_is f m =
      let r = flat_map_in (facts_under objs y) D.template m in
      let k = Memᴰ.of_map (λ o. instance_fact o y r.0) objs r.2 in
      (k.0, r.0, k.1, r.1, sym k.2)

  pub in_further : (o : Object) (c : Component) → In o objs → In c D.template → In (instance_fact o y c) (instance_facts D objs y)
  unfolding instance_facts
  in_further o c mo mc = in_flat_map (facts_under objs y) mc (Memᴰ.map (λ o. instance_fact o y c) mo)

  module _ (inst : is_instance D objs y ≡ true) where
    size : length y ≡ keys_of D.template
    size = eqb-true _ _ (and_l _ _ inst)

    inside : (o : Object) → In o objs → (p : Object) → In p y ⊎ (p ≡ o) → In p objs
    inside o mo p (inl m) = among_in objs y (and_r (eqb (length y) (keys_of D.template)) _ inst) p m
    inside o mo p (inr e) = Memᴰ.cast e mo

    fits : (o : Object) (c : Component) → In o objs → In c D.template
        → is_fact D objs (instance_fact o y c) && matches D y (instance_fact o y c) ≡ true
    fits o c mo mc =
        let ar : has_arity D c.rel (map (object_under o y) c.labels) ≡ true =
        rw (length-map c.labels (object_under o y)) (component_arity_lem D okT c mc) in
        and_i (and_i ar (among_of objs (map (object_under o y) c.labels)
        (λ p h. inside o mo p (instance_objects D okT o y size c mc p h))))
        (instance_matches D okT o y size c mc)

    pub further_fits : (f : Fact) → In f (instance_facts D objs y) → is_fact D objs f && matches D y f ≡ true
    further_fits f m = let r = further_is f m in rw r.4 (fits r.0 r.1 r.2 r.3)

    -- ---- and such a fact is a further fact

    fits_further : 0 < length objs → (f : Fact) → is_fact D objs f && matches D y f ≡ true → In f (instance_facts D objs y)
    fits_further some f t = go (component_of_lem D f (matches_tuple D y f (and_r (is_fact D objs f) _ t)))
      where
        go : (c : Component) × In c D.template × (is_of c f ≡ true) × (y ≡ key_tuple (keys_of D.template) c.labels f.args)
            → In f (instance_facts D objs y)
        go (c, mc, is, e) = Memᴰ.cast same (in_further o c mo mc)
          where
            n : ℕ
            n = keys_of D.template

            len : length c.labels ≡ length f.args
            len = eqb-true _ _ (and_r (eqb c.rel f.rel) _ is)

            d : Object
            d = get_or objs 0 (object 0)

            o : Object
            o = counted c.labels f.args d

            mo : In o objs
            mo = by (counted_in c.labels f.args d)
              where
                by : In o f.args ⊎ (o ≡ d) → In o objs
                by (inl m) = among_in objs f.args (and_r (has_arity D f.rel f.args) _ (and_l _ _ t)) o m
                by (inr q) = Memᴰ.cast q (get_d_in objs 0 (object 0) some)

            few : count_by is_counted c.labels ≤ 1
            few = one_counted n c.labels (labels_fit_lem D okT c mc)

            reads : Reads (object 0) y c.labels f.args
            reads k v m =
                ap (λ (l : List Object). get_or l k (object 0)) e
                ∙ tuple_reads n c.labels f.args (object 0) len (labels_fit_lem D okT c mc) k v m

            same : f ≡ instance_fact o y c
            same = atom_of_lem (sym (eqb-true c.rel f.rel (and_l _ _ is))) (sym (args_back y d c.labels f.args len few reads))

pub further_facts : FurtherFacts
further_facts D wf objs y some inst f =
    let okT = template_well_formed D wf in
    (further_fits D okT objs y inst f, fits_further D okT objs y inst some f)
