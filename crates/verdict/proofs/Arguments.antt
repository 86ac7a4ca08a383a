-- Where a literal has FF in the counted place of its component, the key tuple says all that it stands for. Assumes nothing.
use mathlib.Core.Path.{◌≡◌, refl, sym, ap, ap₂, ◌∙◌}
use mathlib.Core.Bool.{Bool, true, false, false≢true}
use mathlib.Core.Logic.{◌⊎◌, inl, inr}
use mathlib.Core.List.Memᴰ
use mathlib.Core.List.{List, [], ◌∷◌, ◌++◌, head-eq_of_cons-eq, tail-eq_of_cons-eq}
use Prim.Native.Nat.{ℕ, zero, suc, ◌+◌, ◌<◌}
use native.Mathlib.Omega.{arith}
use lib.Dec.{eqb, ltb}
use lib.ListN.{length, length-append}
use borrow.Author.Tests.{ltb-true, eqb-true, eqb-false}
use Rattle.records.specs.Lists.{In, keep_if, all}
use Rattle.records.proofs.Lists.{and_l, and_r, bool_cases, eqb_same, all_in}
use Rattle.literals.specs.declared.Variable.{Variable}
use Rattle.literals.specs.declared.Object.{Object}
use Rattle.literals.specs.declared.Argument.{Argument}
use Rattle.literals.specs.declared.Argument.TheVariants.{Variable as bound, Every}
use Rattle.literals.specs.declared.Key.{Key}
use Rattle.literals.specs.declared.Label.{Label}
use Rattle.literals.specs.declared.Label.TheVariants.{Key as keyed, Counted}
use Rattle.literals.specs.Domain.{object, key, variables_of, Atom, Fact, Component, is_key, key_below, keys_bound, counted_cleared, keeps_keys}
use Rattle.literals.specs.Domain.{keys_of, Domain}
use Rattle.literals.proofs.Arguments.{keys_bound_lem}
use Rattle.literals.proofs.Bytes.{keys_below_lem}
use Rattle.literals.specs.Matching.{under, key_tuple, is_of, matches}
use Rattle.classes.specs.Classes.{belongs}
use Rattle.verdict.specs.Binding.{Binding, value_of, bind_tuple, facts_of}
use Rattle.verdict.specs.Claims.{well_formed_template}
use Rattle.verdict.proofs.Tuples.{belongs_tuple, matches_tuple, component_of_lem, literal_component}
use Rattle.verdict.proofs.Facts.{Stands, stand_length, key_tuple_stand, in_facts}
use Rattle.verdict.proofs.WellFormed.{one_component, labels_fit_lem}

module _ {A : Type 0} where
  append_split : (xs us ys vs : List A) → length xs ≡ length us → xs ++ ys ≡ us ++ vs → (xs ≡ us) × (ys ≡ vs)
  append_split [] [] ys vs l e = (refl, e)
  append_split [] (u ∷ us) ys vs l e = absurd (omega arith)
  append_split (x ∷ xs) [] ys vs l e = absurd (omega arith)
  append_split (x ∷ xs) (u ∷ us) ys vs l e =
      let r = append_split xs us ys vs (omega arith) (tail-eq_of_cons-eq e) in (ap₂ ◌∷◌ (head-eq_of_cons-eq e) r.0, r.1)

  under_length : (k : Key) (ls : List Label) (u w : List A) → length u ≡ length w → length (under k ls u) ≡ length (under k ls w)
  under_length k [] u w e = refl
  under_length k (l ∷ ls) [] [] e = refl
  under_length k (l ∷ ls) [] (y ∷ w) e = absurd (omega arith)
  under_length k (l ∷ ls) (x ∷ u) [] e = absurd (omega arith)
  under_length k (l ∷ ls) (x ∷ u) (y ∷ w) e = go (is_key k l) (under_length k ls u w (omega arith))
    where
      go : (b : Bool) → length (under k ls u) ≡ length (under k ls w) → length (keep_if b x (under k ls u)) ≡ length (keep_if b y (under k ls w))
      go true h = ap suc h
      go false h = h

  pub key_tuple_length : (n : ℕ) (ls : List Label) (u w : List A) → length u ≡ length w → length (key_tuple n ls u) ≡ length (key_tuple n ls w)
  key_tuple_length zero ls u w e = refl
  key_tuple_length (suc n) ls u w e = simp length-append (ap₂ ◌+◌ (key_tuple_length n ls u w e) (under_length (key n) ls u w e))

  -- equal tuples have equal arguments under each key
  tuple_under : (n : ℕ) (ls : List Label) (u w : List A) → length u ≡ length w → key_tuple n ls u ≡ key_tuple n ls w
      → (k : ℕ) → k < n → under (key k) ls u ≡ under (key k) ls w
  tuple_under zero ls u w e h k l = absurd (omega arith)
  tuple_under (suc n) ls u w e h k l =
      let r = append_split (key_tuple n ls u) (key_tuple n ls w) (under (key n) ls u) (under (key n) ls w) (key_tuple_length n ls u w e) h in
      go r.1 (λ b. tuple_under n ls u w e r.0 k b) (bool_cases (eqb k n))
    where
      go : under (key n) ls u ≡ under (key n) ls w → (k < n → under (key k) ls u ≡ under (key k) ls w) → (eqb k n ≡ true) ⊎ (eqb k n ≡ false)
          → under (key k) ls u ≡ under (key k) ls w
      go r ih (inl t) = rw (eqb-true k n t) r
      go r ih (inr f) = let ne : (k ≡ n) → ⊥ = eqb-false k n f in ih (omega arith)

-- an object for each argument, whatever it is for FF
abbrev pub filled : Binding → List Argument → List Object
filled b [] = []
filled b (bound v ∷ vs) = value_of b v ∷ filled b vs
filled b (Every ∷ vs) = object 0 ∷ filled b vs

pub filled_stands : (b : Binding) (vs : List Argument) → Stands (object 0 ∷ []) b vs (filled b vs)
filled_stands b [] = tt
filled_stands b (bound v ∷ vs) = (Memᴰ.head refl, filled_stands b vs)
filled_stands b (Every ∷ vs) = (Memᴰ.head refl, filled_stands b vs)

-- variables at the keys, FF at the counted place
args_stand : (objs : List Object) (b : Binding) (n : ℕ) (ls : List Label) (vs : List Argument) (os : List Object) → keys_bound ls vs ≡ true
    → counted_cleared ls vs ≡ true
    → all (key_below n) ls ≡ true → length ls ≡ length vs → length ls ≡ length os
    → ((k : ℕ) → k < n → under (key k) ls os ≡ under (key k) ls (filled b vs))
    → ((o : Object) → In o os → In o objs) → Stands objs b vs os
args_stand objs b n [] [] [] kb cc h lv lo e over = tt
args_stand objs b n [] [] (o ∷ os) kb cc h lv lo e over = absurd (omega arith)
args_stand objs b n [] (v ∷ vs) os kb cc h lv lo e over = absurd (omega arith)
args_stand objs b n (l ∷ ls) [] os kb cc h lv lo e over = absurd (omega arith)
args_stand objs b n (l ∷ ls) (v ∷ vs) [] kb cc h lv lo e over = absurd (omega arith)
args_stand objs b n (Counted ∷ ls) (bound v ∷ vs) (o ∷ os) kb cc h lv lo e over = absurd (false≢true cc)
args_stand objs b n (keyed k ∷ ls) (Every ∷ vs) (o ∷ os) kb cc h lv lo e over = absurd (false≢true kb)
args_stand objs b n (Counted ∷ ls) (Every ∷ vs) (o ∷ os) kb cc h lv lo e over = (
  over o (Memᴰ.head refl),
  args_stand objs b n ls vs os kb cc h (omega arith) (omega arith) e (λ o m. over o (Memᴰ.tail m)),
)
args_stand objs b n (keyed k ∷ ls) (bound v ∷ vs) (o ∷ os) kb cc h lv lo e over =
    let q : ◌≡◌ {A = List Object} (o ∷ under k ls os) (value_of b v ∷ under k ls (filled b vs)) =
    rw (eqb_same k.0) at (e k.0 (ltb-true k.0 n (and_l _ _ h))) in (
      Memᴰ.head (head-eq_of_cons-eq q),
      args_stand objs b n ls vs os kb cc (and_r (ltb k.0 n) _ h) (omega arith) (omega arith)
          (λ i li. rest i (bool_cases (eqb i k.0)) q (e i li)) (λ o m. over o (Memᴰ.tail m)),
    )
  where
    rest : (i : ℕ) → (eqb i k.0 ≡ true) ⊎ (eqb i k.0 ≡ false)
        → ◌≡◌ {A = List Object} (o ∷ under k ls os) (value_of b v ∷ under k ls (filled b vs))
        → keep_if (eqb i k.0) o (under (key i) ls os) ≡ keep_if (eqb i k.0) (value_of b v) (under (key i) ls (filled b vs))
        → under (key i) ls os ≡ under (key i) ls (filled b vs)
    rest i (inl t) q r = rw (eqb-true i k.0 t) (tail-eq_of_cons-eq q)
    rest i (inr f) q r = rw f at r

-- a literal of the class that is bound to the instance, with FF in the counted place of its component if there is one, stands for every
-- fact of its relation that the instance matches
pub standing : (D : Domain) → well_formed_template D ≡ true → (objs : List Object) (b : Binding) (x : List Variable) (p : Atom Argument)
    → belongs D x p ≡ true
    → all (λ c. keeps_keys c p) D.template ≡ true → (f : Fact) → matches D (bind_tuple b x) f ≡ true → f.rel ≡ p.rel
    → ((c : Component) → In c D.template → c.rel ≡ f.rel → counted_cleared c.labels p.args ≡ true)
    → ((o : Object) → In o f.args → In o objs)
    → In f (facts_of objs b p)
standing D ok objs b x p hp ks f hf e clear over =
    go (component_of_lem D f (matches_tuple D (bind_tuple b x) f hf)) (literal_component D p (belongs_tuple D x p hp))
  where
    n : ℕ
    n = keys_of D.template

    go : (c : Component) × In c D.template × (is_of c f ≡ true) × (bind_tuple b x ≡ key_tuple n c.labels f.args)
        → (d : Component) × In d D.template × (is_of d p ≡ true) × (x ≡ variables_of (key_tuple n d.labels p.args))
        → In f (facts_of objs b p)
    go (c, mc, cf, tf) (d, md, dp, tp) =
        let rc : c.rel ≡ f.rel = eqb-true _ _ (and_l _ _ cf) in
        let dc : d ≡ c = one_component D ok d c md mc (eqb-true _ _ (and_l _ _ dp) ∙ sym e ∙ sym rc) in
        let lf : length c.labels ≡ length f.args = eqb-true _ _ (and_r (eqb c.rel f.rel) _ cf) in
        let cp : is_of c p ≡ true = rw dc at dp in
        let lp : length c.labels ≡ length p.args = eqb-true _ _ (and_r (eqb c.rel p.rel) _ cp) in
        let tp' : x ≡ variables_of (key_tuple n c.labels p.args) = rw dc at tp in
        let kb = keys_bound_lem c p (and_l _ _ cp) (all_in (λ c. keeps_keys c p) D.template ks mc) in
        let ll : length (filled b p.args) ≡ length p.args =
        stand_length (object 0 ∷ []) b p.args (filled b p.args) (filled_stands b p.args) in
        let tt' : key_tuple n c.labels f.args ≡ key_tuple n c.labels (filled b p.args)
        = sym tf ∙ ap (bind_tuple b) tp'
        ∙ sym (key_tuple_stand (object 0 ∷ []) b n c.labels p.args (filled b p.args) kb (filled_stands b p.args)) in
        in_facts objs b p f e
        (args_stand objs b n c.labels p.args f.args kb (clear c mc rc) (keys_below_lem _ _ (labels_fit_lem D ok c mc)) lp lf
        (tuple_under n c.labels f.args (filled b p.args) (omega arith) tt') over)
