-- The facts that a literal stands for over chosen objects. Assumes nothing.
use mathlib.Core.Path.{◌≡◌, refl, sym, ap, ap₂, ◌∙◌}
use mathlib.Core.Bool.{Bool, true, false, ◌&&◌, ◌||◌, false≢true}
use mathlib.Core.List.Memᴰ
use mathlib.Core.List.{List, [], ◌∷◌, ◌++◌, map, flat_map, map-append}
use Prim.Native.Nat.{ℕ, zero, suc}
use native.Mathlib.Omega.{arith}
use lib.Dec.{eqb}
use lib.ListN.{length}
use borrow.Author.Tests.{eqb-true, eq-eqb}
use Rattle.records.specs.Lists.{In, keep_if, count_by, all, same_list, distinct}
use Rattle.records.proofs.Lists.{and_l, and_r, and_i, get_d_in, flat_map_in, in_flat_map}
use Rattle.literals.specs.declared.Variable.{Variable}
use Rattle.literals.specs.declared.Object.{Object}
use Rattle.literals.specs.declared.Argument.{Argument}
use Rattle.literals.specs.declared.Argument.TheVariants.{Variable as bound, Every}
use Rattle.literals.specs.declared.Key.{Key}
use Rattle.literals.specs.declared.Label.{Label}
use Rattle.literals.specs.declared.Label.TheVariants.{Key as keyed, Counted}
use Rattle.literals.specs.Domain.{object, key, same_variable, same_object, meet_argument, is_every, variables_of, Atom, Fact, meets, Component}
use Rattle.literals.specs.Domain.{is_key, is_counted, keys_bound, keeps_keys, keys_of, Domain}
use Rattle.literals.proofs.Arguments.{variables_append, keys_bound_lem}
use Rattle.literals.specs.Matching.{under, key_tuple, is_of, tuples_by, tuples_of, matches}
use Rattle.classes.specs.Classes.{literal_tuples, belongs}
use Rattle.verdict.specs.Binding.{Binding, value_of, bind_tuple, values_of, argument_rows, facts_of, bind}
use Rattle.verdict.proofs.Equality.{variable_eq, variable_self, atom_of_lem}
use Rattle.verdict.proofs.Tuples.{belongs_tuple, matches_of, matches_tuple, Below, value_inj}

-- ---- one object for each argument: its variable's, or any of the chosen ones for FF

abbrev pub Stands : List Object → Binding → List Argument → List Object → Type 0
Stands objs b [] [] = Unit {0}
Stands objs b [] (o ∷ os) = ⊥
Stands objs b (v ∷ vs) [] = ⊥
Stands objs b (v ∷ vs) (o ∷ os) = In o (values_of objs b v) × Stands objs b vs os

-- ---- arguments

-- without FF, equal arguments alone meet
meet_plain : (vs ws : List Argument) → count_by is_every vs ≡ 0 → count_by is_every ws ≡ 0 → same_list meet_argument vs ws ≡ true → vs ≡ ws
meet_plain [] [] h g c = refl
meet_plain [] (w ∷ ws) h g c = absurd (false≢true c)
meet_plain (v ∷ vs) [] h g c = absurd (false≢true c)
meet_plain (Every ∷ vs) (w ∷ ws) h g c = absurd (omega arith)
meet_plain (bound v ∷ vs) (Every ∷ ws) h g c = absurd (omega arith)
meet_plain (bound v ∷ vs) (bound w ∷ ws) h g c =
    ap₂ ◌∷◌ (ap bound (variable_eq v w (and_l _ _ c))) (meet_plain vs ws h g (and_r (same_variable v w) _ c))

-- ---- the facts

module _ (objs : List Object) (b : Binding) where
  rows_stand : (vs : List Argument) (os : List Object) → In os (argument_rows objs b vs) → Stands objs b vs os
  unfolding argument_rows
  rows_stand [] os m = rw (Memᴰ.eq_of_singleton m) tt
  rows_stand (v ∷ vs) os m =
      let r = flat_map_in (λ o. map (λ (os : List Object). o ∷ os) (argument_rows objs b vs)) (values_of objs b v) m in
      let s = Memᴰ.of_map (λ (os : List Object). r.0 ∷ os) (argument_rows objs b vs) r.2 in
      rw (← s.2) (r.1, rows_stand vs s.0 s.1)

  stand_rows : (vs : List Argument) (os : List Object) → Stands objs b vs os → In os (argument_rows objs b vs)
  unfolding argument_rows
  stand_rows [] [] s = Memᴰ.head refl
  stand_rows [] (o ∷ os) s = absurd s
  stand_rows (v ∷ vs) [] s = absurd s
  stand_rows (v ∷ vs) (o ∷ os) s =
      in_flat_map (λ o. map (λ (os : List Object). o ∷ os) (argument_rows objs b vs)) s.0
      (Memᴰ.map (λ (os : List Object). o ∷ os) (stand_rows vs os s.1))

  pub facts_in_lem : (p : Atom Argument) (f : Fact) → In f (facts_of objs b p) → (f.rel ≡ p.rel) × Stands objs b p.args f.args
  unfolding facts_of
  facts_in_lem p f m =
      let r = Memᴰ.of_map (λ (os : List Object). record { rel = p.rel; args = os }) (argument_rows objs b p.args) m in
      rw (← r.2) (refl, rows_stand p.args r.0 r.1)

  pub in_facts : (p : Atom Argument) (f : Fact) → f.rel ≡ p.rel → Stands objs b p.args f.args → In f (facts_of objs b p)
  unfolding facts_of
  in_facts p f e s =
      Memᴰ.cast (atom_of_lem {f = f} {g = record { rel = p.rel; args = f.args }} e refl)
      (Memᴰ.map (λ (os : List Object). record { rel = p.rel; args = os }) (stand_rows p.args f.args s))

  pub stand_length : (vs : List Argument) (os : List Object) → Stands objs b vs os → length os ≡ length vs
  stand_length [] [] s = refl
  stand_length [] (o ∷ os) s = absurd s
  stand_length (v ∷ vs) [] s = absurd s
  stand_length (v ∷ vs) (o ∷ os) s = ap suc (stand_length vs os s.1)

  -- where the binding is over the chosen objects, they are too
  stand_over : ((o : Object) → In o b → In o objs) → (vs : List Argument) (os : List Object) → Below (length b) (variables_of vs)
      → Stands objs b vs os
      → (o : Object) → In o os → In o objs
  stand_over h [] [] k s o m = absurd (Memᴰ.not-nil m)
  stand_over h [] (q ∷ os) k s o m = absurd s
  stand_over h (v ∷ vs) [] k s o m = absurd s
  stand_over h (bound v ∷ vs) (q ∷ os) k s o (Memᴰ.head e) =
      h o (Memᴰ.cast (e ∙ Memᴰ.eq_of_singleton s.0) (get_d_in b v.0 (object 0) (k v (Memᴰ.head refl))))
  stand_over h (bound v ∷ vs) (q ∷ os) k s o (Memᴰ.tail m) = stand_over h vs os (λ u i. k u (Memᴰ.tail i)) s.1 o m
  stand_over h (Every ∷ vs) (q ∷ os) k s o (Memᴰ.head e) = Memᴰ.cast e s.0
  stand_over h (Every ∷ vs) (q ∷ os) k s o (Memᴰ.tail m) = stand_over h vs os k s.1 o m

  pub facts_over : ((o : Object) → In o b → In o objs) → (p : Atom Argument) → Below (length b) (variables_of p.args) → (f : Fact)
      → In f (facts_of objs b p)
      → (o : Object) → In o f.args → In o objs
  facts_over h p k f m = stand_over h p.args f.args k (facts_in_lem p f m).1

  -- ---- their key tuples, where no key stands at FF

  under_stand : (k : Key) (ls : List Label) (vs : List Argument) (os : List Object) → keys_bound ls vs ≡ true → Stands objs b vs os
      → under k ls os ≡ bind_tuple b (variables_of (under k ls vs))
  under_stand k [] vs os h s = refl
  under_stand k (l ∷ ls) [] [] h s = refl
  under_stand k (l ∷ ls) [] (o ∷ os) h s = absurd s
  under_stand k (l ∷ ls) (v ∷ vs) [] h s = absurd s
  under_stand k (l ∷ ls) (bound v ∷ vs) (o ∷ os) h s =
      go (is_key k l) (Memᴰ.eq_of_singleton s.0) (under_stand k ls vs os (and_r (is_counted l || true) _ h) s.1)
    where
      go : (t : Bool) → o ≡ value_of b v → under k ls os ≡ bind_tuple b (variables_of (under k ls vs))
          → keep_if t o (under k ls os) ≡ bind_tuple b (variables_of (keep_if t (bound v) (under k ls vs)))
      go true e h = ap₂ ◌∷◌ e h
      go false e h = h
  under_stand k (keyed j ∷ ls) (Every ∷ vs) (o ∷ os) h s = absurd (false≢true h)
  under_stand k (Counted ∷ ls) (Every ∷ vs) (o ∷ os) h s = under_stand k ls vs os h s.1

  pub key_tuple_stand : (n : ℕ) (ls : List Label) (vs : List Argument) (os : List Object) → keys_bound ls vs ≡ true → Stands objs b vs os
      → key_tuple n ls os ≡ bind_tuple b (variables_of (key_tuple n ls vs))
  key_tuple_stand zero ls vs os h s = refl
  key_tuple_stand (suc n) ls vs os h s =
      ap₂ ◌++◌ (key_tuple_stand n ls vs os h s) (under_stand (key n) ls vs os h s)
      ∙ sym (map-append (value_of b) (variables_of (key_tuple n ls vs)) (variables_of (under (key n) ls vs)))
      ∙ ap (bind_tuple b) (sym (variables_append (key_tuple n ls vs) (under (key n) ls vs)))

  tuples_stand : (n : ℕ) (cs : List Component) (p : Atom Argument) (f : Fact) → f.rel ≡ p.rel → Stands objs b p.args f.args
      → all (λ c. keeps_keys c p) cs ≡ true
      → tuples_by n cs f ≡ map (bind_tuple b) (map variables_of (tuples_by n cs p))
  tuples_stand n [] p f e s h = refl
  tuples_stand n (c ∷ cs) p f e s h =
      ap₂ (λ (r l : ℕ). keep_if (eqb c.rel r && eqb (length c.labels) l) (key_tuple n c.labels f.args) (tuples_by n cs f)) e
      (stand_length p.args f.args s)
      ∙ go (is_of c p) refl (tuples_stand n cs p f e s (and_r (keeps_keys c p) _ h))
    where
      go : (t : Bool) → is_of c p ≡ t → tuples_by n cs f ≡ map (bind_tuple b) (map variables_of (tuples_by n cs p))
          → keep_if t (key_tuple n c.labels f.args) (tuples_by n cs f)
          ≡ map (bind_tuple b) (map variables_of (keep_if t (key_tuple n c.labels p.args) (tuples_by n cs p)))
      go true q ih = ap₂ ◌∷◌ (key_tuple_stand n c.labels p.args f.args (keys_bound_lem c p (and_l _ _ q) (and_l _ _ h)) s) ih
      go false q ih = ih

  module _ (D : Domain) (p : Atom Argument) (ks : all (λ c. keeps_keys c p) D.template ≡ true) (f : Fact)
      (m : In f (facts_of objs b p)) where
    pub tuples_fact : tuples_of D f ≡ map (bind_tuple b) (literal_tuples D p)
    unfolding tuples_of literal_tuples
    tuples_fact = let r = facts_in_lem p f m in tuples_stand (keys_of D.template) D.template p f r.0 r.1 ks

    -- a fact of a literal of the class is a fact of the bound instance
    pub matches_fact : (x : List Variable) → belongs D x p ≡ true → matches D (bind_tuple b x) f ≡ true
    matches_fact x h = matches_of D (bind_tuple b x) f (rw tuples_fact (Memᴰ.map (bind_tuple b) (belongs_tuple D x p h)))

    -- a fact of a literal that the instance y matches: the literal's tuple, bound, is y
    pub bound_tuple : (y : List Object) → matches D y f ≡ true → (u : List Variable) × In u (literal_tuples D p) × (bind_tuple b u ≡ y)
    bound_tuple y h = Memᴰ.of_map (bind_tuple b) (literal_tuples D p) (rw tuples_fact at (matches_tuple D y f h))

  -- ---- literals without FF

  pub plain_stand : (vs : List Argument) (os : List Object) → count_by is_every vs ≡ 0 → Stands objs b vs os
      → os ≡ bind_tuple b (variables_of vs)
  plain_stand [] [] h s = refl
  plain_stand [] (o ∷ os) h s = absurd s
  plain_stand (v ∷ vs) [] h s = absurd s
  plain_stand (bound v ∷ vs) (o ∷ os) h s = ap₂ ◌∷◌ (Memᴰ.eq_of_singleton s.0) (plain_stand vs os h s.1)
  plain_stand (Every ∷ vs) (o ∷ os) h s = absurd (omega arith)

  stand_plain : (vs : List Argument) → count_by is_every vs ≡ 0 → Stands objs b vs (bind_tuple b (variables_of vs))
  stand_plain [] h = tt
  stand_plain (bound v ∷ vs) h = (Memᴰ.head refl, stand_plain vs h)
  stand_plain (Every ∷ vs) h = absurd (omega arith)

  -- it stands for one fact
  pub plain_in : (p : Atom Argument) → count_by is_every p.args ≡ 0 → In (bind b p) (facts_of objs b p)
  plain_in p h = in_facts p (bind b p) refl (stand_plain p.args h)

  pub plain_fact : (p : Atom Argument) → count_by is_every p.args ≡ 0 → (f : Fact) → In f (facts_of objs b p) → f ≡ bind b p
  plain_fact p h f m = let r = facts_in_lem p f m in atom_of_lem {f = f} {g = bind b p} r.0 (plain_stand p.args f.args h r.1)

  pub plain_facts : (p : Atom Argument) → count_by is_every p.args ≡ 0 → facts_of objs b p ≡ bind b p ∷ []
  unfolding facts_of argument_rows flat_map
  plain_facts p h = ap (map (λ (os : List Object). record { rel = p.rel; args = os })) (rows p.args h)
    where
      rows : (vs : List Argument) → count_by is_every vs ≡ 0 → argument_rows objs b vs ≡ bind_tuple b (variables_of vs) ∷ []
      rows [] h = refl
      rows (bound v ∷ vs) h = ap (λ (l : List (List Object)). map (λ (os : List Object). value_of b v ∷ os) l ++ []) (rows vs h)
      rows (Every ∷ vs) h = absurd (omega arith)

  -- ---- literals that meet

  meet_stand : (vs ws : List Argument) (os : List Object) → count_by is_every ws ≡ 0 → same_list meet_argument vs ws ≡ true
      → Stands objs b ws os → ((o : Object) → In o os → In o objs) → Stands objs b vs os
  meet_stand [] [] os k h s over = s
  meet_stand [] (w ∷ ws) os k h s over = absurd (false≢true h)
  meet_stand (v ∷ vs) [] os k h s over = absurd (false≢true h)
  meet_stand (v ∷ vs) (w ∷ ws) [] k h s over = absurd s
  meet_stand (v ∷ vs) (Every ∷ ws) (o ∷ os) k h s over = absurd (omega arith)
  meet_stand (bound v ∷ vs) (bound w ∷ ws) (o ∷ os) k h s over = (
    Memᴰ.head (Memᴰ.eq_of_singleton s.0 ∙ ap (value_of b) (sym (variable_eq v w (and_l _ _ h)))),
    meet_stand vs ws os k (and_r (same_variable v w) _ h) s.1 (λ o m. over o (Memᴰ.tail m)),
  )
  meet_stand (Every ∷ vs) (bound w ∷ ws) (o ∷ os) k h s over =
      (over o (Memᴰ.head refl), meet_stand vs ws os k h s.1 (λ o m. over o (Memᴰ.tail m)))

  -- a literal that meets one without FF stands for its fact
  pub meet_facts : (p q : Atom Argument) → count_by is_every q.args ≡ 0 → meets p q ≡ true → (f : Fact) → In f (facts_of objs b q)
      → ((o : Object) → In o f.args → In o objs) → In f (facts_of objs b p)
  meet_facts p q k h f m over =
      let r = facts_in_lem q f m in
      in_facts p f (r.0 ∙ sym (eqb-true p.rel q.rel (and_l _ _ h)))
      (meet_stand p.args q.args f.args k (and_r (eqb p.rel q.rel) _ h) r.1 over)

  module _ (dis : distinct same_object b ≡ true) where
    stands_meet : (vs ws : List Argument) (os : List Object) → Below (length b) (variables_of vs) → Below (length b) (variables_of ws)
        → Stands objs b vs os → Stands objs b ws os → same_list meet_argument vs ws ≡ true
    stands_meet [] [] os hv hw s t = refl
    stands_meet [] (w ∷ ws) [] hv hw s t = absurd t
    stands_meet [] (w ∷ ws) (o ∷ os) hv hw s t = absurd s
    stands_meet (v ∷ vs) ws [] hv hw s t = absurd s
    stands_meet (v ∷ vs) [] (o ∷ os) hv hw s t = absurd t
    stands_meet (bound v ∷ vs) (Every ∷ ws) (o ∷ os) hv hw s t = stands_meet vs ws os (λ u m. hv u (Memᴰ.tail m)) hw s.1 t.1
    stands_meet (Every ∷ vs) (Every ∷ ws) (o ∷ os) hv hw s t = stands_meet vs ws os hv hw s.1 t.1
    stands_meet (Every ∷ vs) (bound w ∷ ws) (o ∷ os) hv hw s t = stands_meet vs ws os hv (λ u m. hw u (Memᴰ.tail m)) s.1 t.1
    stands_meet (bound v ∷ vs) (bound w ∷ ws) (o ∷ os) hv hw s t =
        let e : v ≡ w =
        value_inj b dis v w (hv v (Memᴰ.head refl)) (hw w (Memᴰ.head refl))
        (sym (Memᴰ.eq_of_singleton s.0) ∙ Memᴰ.eq_of_singleton t.0) in
        and_i {a = same_variable v w} (rw e (variable_self w))
        (stands_meet vs ws os (λ u m. hv u (Memᴰ.tail m)) (λ u m. hw u (Memᴰ.tail m)) s.1 t.1)

    -- two literals that stand for one fact meet
    pub facts_meet : (p q : Atom Argument) → Below (length b) (variables_of p.args) → Below (length b) (variables_of q.args)
        → (f : Fact) → In f (facts_of objs b p) → In f (facts_of objs b q) → meets p q ≡ true
    facts_meet p q hp hq f m n =
        let r = facts_in_lem p f m in
        let s = facts_in_lem q f n in
        and_i (eq-eqb p.rel q.rel (sym r.0 ∙ s.0)) (stands_meet p.args q.args f.args hp hq r.1 s.1)

    -- without FF they are the same
    pub facts_same : (p q : Atom Argument) → Below (length b) (variables_of p.args) → Below (length b) (variables_of q.args)
        → count_by is_every p.args ≡ 0 → count_by is_every q.args ≡ 0
        → (f : Fact) → In f (facts_of objs b p) → In f (facts_of objs b q) → p ≡ q
    facts_same p q hp hq kp kq f m n =
        let h = facts_meet p q hp hq f m n in
        atom_of_lem {f = p} {g = q} (eqb-true p.rel q.rel (and_l _ _ h))
        (meet_plain p.args q.args kp kq (and_r (eqb p.rel q.rel) _ h))

-- literals without FF stand for one fact each, in order
pub plain_flat : (objs : List Object) (b : Binding) (ps : List (Atom Argument))
    → ((p : Atom Argument) → In p ps → count_by is_every p.args ≡ 0)
    → flat_map (facts_of objs b) ps ≡ map (bind b) ps
unfolding flat_map
plain_flat objs b [] h = refl
plain_flat objs b (p ∷ ps) h =
    ap₂ {C = List Fact} (λ (x y : List Fact). x ++ y) (plain_facts objs b p (h p (Memᴰ.head refl)))
    (plain_flat objs b ps (λ q m. h q (Memᴰ.tail m)))
