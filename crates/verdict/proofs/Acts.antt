-- What an event does to an instance, read off the name of its class and moment. Assumes nothing.
use mathlib.Core.Path.{◌≡◌, refl, sym, ap, ◌∙◌}
use mathlib.Core.Bool.{Bool, true, false, ◌&&◌, cond, false≢true}
use mathlib.Core.Logic.{◌⊎◌, inl, inr}
use mathlib.Core.List.Memᴰ
use mathlib.Core.List.{List, [], ◌∷◌, ◌++◌, flat_map}
use Prim.Native.Nat.{ℕ, suc}
use native.Mathlib.Omega.{arith}
use lib.Dec.{eqb, leb, leb-zero, leb-suc-suc, eqb-suc-zero}
use lib.ListN.{length}
use borrow.Author.Tests.{ne_eqb, eqb-true, leb-true}
use Rattle.records.specs.Lists.{In, count_by, all, same_list, elem, distinct}
use Rattle.records.proofs.Lists.{and_l, and_r, and_i, or_cases, not_true, clash, filter_in, in_filter, any_in, all_in, elem_in, in_dedup}
use Rattle.records.proofs.Lists.{dedup_in, flat_map_in, in_flat_map}
use Rattle.literals.specs.declared.Variable.{Variable}
use Rattle.literals.specs.declared.Object.{Object}
use Rattle.literals.specs.declared.Argument.{Argument}
use Rattle.literals.specs.declared.Time.TheVariants.{AtStart, OverAll, AtEnd}
use Rattle.literals.specs.declared.Usage.{Usage}
use Rattle.literals.specs.declared.Usage.TheVariants.{Positive, Negative, Add, Delete}
use Rattle.literals.specs.declared.Role.{Role}
use Rattle.literals.specs.Domain.{same_variable, same_object, is_every, variables_of, Atom, Fact, same_literal, meets, same_time, same_usage}
use Rattle.literals.specs.Domain.{Literal, may_clear, clears_once, Action, Component, counted_cleared, keeps_keys, Domain}
use Rattle.literals.specs.declared.Moment.{Moment}
use Rattle.literals.specs.declared.Moment.TheVariants.{Start, End}
use Rattle.classes.specs.declared.Name.{Name}
use Rattle.classes.specs.declared.Name.TheVariants.{Unreachable, Irrelevant, Heavy, Balanced, Unbalanced, Bounded, Unbounded}
use Rattle.literals.specs.Matching.{own, over_all, asked, literals_at, required, matches}
use Rattle.classes.specs.Classes.{literal_tuples, belongs, classes, in_class, reach_in, name_by, deleted_by, changed_by, covered, excluding}
use Rattle.classes.specs.Classes.{name_of, journey}
use Rattle.classes.proofs.Roles.{literals_at_in, required_in, own_required, own_reach, class_distinct, reach_distinct}
use Rattle.verdict.specs.Binding.{Binding, bind_tuple, facts_of, bind}
use Rattle.verdict.specs.Claims.{among, well_formed_action, well_formed_template}
use Rattle.verdict.proofs.Equality.{literal_eq, literal_self, variables_eq}
use Rattle.verdict.proofs.Steps.{Effect, Act, idle, moves, fills, leaves, arrives}
use Rattle.verdict.proofs.Tuples.{belongs_of, matches_tuple, component_of_lem, Below, tuple_below, bind_tuple_inj}
use Rattle.verdict.proofs.Facts.{facts_over, matches_fact, bound_tuple, plain_in, plain_fact, meet_facts, facts_same}
use Rattle.verdict.proofs.Objects.{among_of, among_in}
use Rattle.verdict.proofs.WellFormed.{literal_below, literal_clears, literal_keys, one_component}
use Rattle.verdict.proofs.Arguments.{standing}

-- ---- the classes of an action

pub class_in : (D : Domain) (a : Action) {u : List Variable} → In u (classes D a)
    → (l : Literal) × In l a.lits × In u (literal_tuples D l.atom)
unfolding classes
class_in D a m = flat_map_in (λ (l : Literal). literal_tuples D l.atom) a.lits (dedup_in (same_list same_variable) _ m)

pub in_class_lem : (D : Domain) (a : Action) {l : Literal} {u : List Variable} → In l a.lits → In u (literal_tuples D l.atom)
    → In u (classes D a)
unfolding classes
in_class_lem D a h m = in_dedup (same_list same_variable) variables_eq (in_flat_map (λ (l : Literal). literal_tuples D l.atom) h m)

-- the usage of a literal that counts is the one that it counts for
clear_same : (c d : Usage) → same_usage c d ≡ true → may_clear d ≡ may_clear c
clear_same Positive Positive t = refl
clear_same Positive Negative t = absurd (false≢true t)
clear_same Positive Add t = refl
clear_same Positive Delete t = absurd (false≢true t)
clear_same Negative Positive t = absurd (false≢true t)
clear_same Negative Negative t = refl
clear_same Negative Add t = absurd (false≢true t)
clear_same Negative Delete t = refl
clear_same Add Positive t = refl
clear_same Add Negative t = absurd (false≢true t)
clear_same Add Add t = refl
clear_same Add Delete t = absurd (false≢true t)
clear_same Delete Positive t = absurd (false≢true t)
clear_same Delete Negative t = refl
clear_same Delete Add t = absurd (false≢true t)
clear_same Delete Delete t = refl

asked_usage : (m : Moment) (c : Usage) (r : Role) → asked m c r ≡ true → same_usage c r.usage ≡ true
asked_usage Start c r h = and_r (same_time AtStart r.time) _ h
asked_usage End c r h = go (or_cases (own End c r) _ h)
  where
    go : (own End c r ≡ true) ⊎ (over_all c r ≡ true) → same_usage c r.usage ≡ true
    go (inl k) = and_r (same_time AtEnd r.time) _ k
    go (inr k) = and_r (same_time OverAll r.time) _ k

-- true conditions and adds have no FF
pub plain_of : (l : Literal) → clears_once l ≡ true → may_clear l.role.usage ≡ false → count_by is_every l.atom.args ≡ 0
plain_of l h k = let z = leb-true (count_by is_every l.atom.args) 0 (rw k at h) in omega arith

pub asked_plain : (a : Action) → ((l : Literal) → In l a.lits → clears_once l ≡ true) → (m : Moment) (c : Usage) → may_clear c ≡ false
    → (p : Atom Argument) → In p (required a m c) → count_by is_every p.args ≡ 0
asked_plain a clears m c k p h =
    let r = required_in a m c h in
    rw r.3 (plain_of r.0 (clears r.0 r.1) (clear_same c r.0.role.usage (asked_usage m c r.0.role r.2) ∙ k))

-- the literals of a usage that are asked, of a well-formed action
module _ (D : Domain) (a : Action) (ok : well_formed_action D a ≡ true) (m : Moment) (c : Usage) (p : Atom Argument) where
  pub required_below : In p (required a m c) → Below a.vars (variables_of p.args)
  required_below h = let r = required_in a m c h in rw r.3 (literal_below D a ok r.0 r.1)

  pub required_plain : In p (required a m c) → may_clear c ≡ false → count_by is_every p.args ≡ 0
  required_plain h k = asked_plain a (literal_clears D a ok) m c k p h

  pub required_keys : In p (required a m c) → all (λ k. keeps_keys k p) D.template ≡ true
  required_keys h = let r = required_in a m c h in rw r.3 (literal_keys D a ok r.0 r.1)

  -- and its own are among them
  pub literals_below : In p (literals_at a m c) → Below a.vars (variables_of p.args)
  literals_below h = required_below (own_required a m c h)

  pub literals_plain : In p (literals_at a m c) → may_clear c ≡ false → count_by is_every p.args ≡ 0
  literals_plain h = required_plain (own_required a m c h)

  literals_keys : In p (literals_at a m c) → all (λ k. keeps_keys k p) D.template ≡ true
  literals_keys h = required_keys (own_required a m c h)

-- ---- the names as a table, by the lists themselves

-- dd: two or more true conditions count towards unreachable. (Two or more own ones do, so that the table's last line is never met without it.)
abbrev pub name_table : Bool → List (Atom Argument) → List (Atom Argument) → Bool → Bool → Name
name_table true ps as' ch cov = Unreachable
name_table false ps [] ch cov = Irrelevant
name_table false ps (a ∷ b ∷ as') ch cov = Heavy
name_table false [] (a ∷ []) ch cov = cond cov Bounded Unbounded
name_table false (p ∷ []) (a ∷ []) ch cov = cond ch Balanced Unbalanced
name_table false (p ∷ q ∷ ps) (a ∷ []) ch cov = cond cov Bounded Unbounded

pub two_or_more : (n : ℕ) → leb 2 (suc (suc n)) ≡ true
two_or_more n = leb-suc-suc 1 (suc n) ∙ leb-suc-suc 0 n ∙ leb-zero n

more_than_one : (n : ℕ) → eqb (suc (suc n)) 1 ≡ false
more_than_one n = ne_eqb (suc (suc n)) 1 (λ e. omega arith)

list_two : {A : Type 0} (l : List A) → leb 2 (length l) ≡ true → (x y : A) × ((zs : List A) × (l ≡ x ∷ y ∷ zs))
list_two [] e = absurd (false≢true e)
list_two (x ∷ []) e = absurd (false≢true e)
list_two (x ∷ y ∷ zs) e = (x, y, (zs, refl))

name_table_lem : (n : ℕ) (dd : Bool) → leb 2 n ≡ dd → (ps as' : List (Atom Argument)) (ch cov : Bool)
    → name_by n (length ps) (length as') ch cov ≡ name_table dd ps as' ch cov
unfolding name_by
name_table_lem n true e ps as' ch cov = rw e
name_table_lem n false e ps [] ch cov = rw e
name_table_lem n false e ps (c ∷ d ∷ cs) ch cov = rw (e, two_or_more (length cs), eqb-suc-zero (suc (length cs)))
name_table_lem n false e [] (c ∷ []) ch cov = rw e
name_table_lem n false e (p ∷ []) (c ∷ []) ch cov = rw e
name_table_lem n false e (p ∷ q ∷ ps) (c ∷ []) ch cov = rw (e, more_than_one (length ps))

pub name_of_lem : (D : Domain) (a : Action) (x : List Variable) (m : Moment)
    → name_of D a x m ≡ name_table (leb 2 (length (reach_in D a x m))) (in_class D a x m Positive) (in_class D a x m Add)
    (all (changed_by (in_class D a x m Add) (in_class D a x m Delete)) (in_class D a x m Positive)) (all (covered (excluding D a x m)) D.template)
unfolding name_of
name_of_lem D a x m = name_table_lem (length (reach_in D a x m)) (leb 2 (length (reach_in D a x m))) refl (in_class D a x m Positive) (in_class D a x m Add) _ _

-- ---- names that keep an instance safe; v: bounded moments may add

abbrev pub Harmless : Bool → Name → Type 0
Harmless v Unreachable = Unit {0}
Harmless v Irrelevant = Unit {0}
Harmless v Heavy = ⊥
Harmless v Balanced = Unit {0}
Harmless v Unbalanced = ⊥
Harmless v Bounded = v ≡ true
Harmless v Unbounded = ⊥

-- a journey's literals, one by one
pub record IsJourney (D : Domain) (a : Action) (x : List Variable) : Type 0 where
  pub from : Atom Argument
  pub to : Atom Argument
  pub one_condition : in_class D a x Start Positive ≡ from ∷ []
  pub no_add : in_class D a x Start Add ≡ []
  pub by : Atom Argument
  pub struck : In by (in_class D a x Start Delete)
  pub meeting : meets by from ≡ true
  pub one_add : in_class D a x End Add ≡ to ∷ []

list_none : {A : Type 0} (l : List A) → eqb (length l) 0 ≡ true → l ≡ []
list_none [] e = refl
list_none (x ∷ xs) e = absurd (false≢true (sym (eqb-suc-zero (length xs)) ∙ e))

list_one : {A : Type 0} (l : List A) → eqb (length l) 1 ≡ true → (x : A) × (l ≡ x ∷ [])
list_one [] e = absurd (false≢true e)
list_one (x ∷ []) e = (x, refl)
list_one (x ∷ y ∷ ys) e = let z = eqb-true (suc (suc (length ys))) 1 e in absurd (omega arith)

pub journey_lasts : (D : Domain) (a : Action) (x : List Variable) → journey D a x ≡ true → a.lasting ≡ true
unfolding journey
journey_lasts D a x e = and_l _ _ (and_l _ _ (and_l _ _ (and_l _ _ (and_l _ _ e))))

pub journey_of : (D : Domain) (a : Action) (x : List Variable) → journey D a x ≡ true → IsJourney D a x
unfolding journey
journey_of D a x e = go (list_one positive (and_r test1 _ up_to2)) (list_one (in_class D a x End Add) (and_r test4 _ e))
  where
    positive : List (Atom Argument)
    positive = in_class D a x Start Positive

    test1 : Bool
    test1 = a.lasting && eqb (length (in_class D a x Start Add)) 0

    test2 : Bool
    test2 = test1 && eqb (length positive) 1

    test3 : Bool
    test3 = test2 && all (deleted_by (in_class D a x Start Delete)) positive

    test4 : Bool
    test4 = test3 && eqb (length (in_class D a x End Positive)) 0

    up_to3 : test3 ≡ true
    up_to3 = and_l _ _ (and_l test4 _ e)

    up_to2 : test2 ≡ true
    up_to2 = and_l _ _ up_to3

    go : (p : Atom Argument) × (positive ≡ p ∷ []) → (q : Atom Argument) × (in_class D a x End Add ≡ q ∷ []) → IsJourney D a x
    go (p, ep) (q, eq) =
        let hp : In p positive = rw ep (Memᴰ.head refl) in
        let r =
        any_in (λ q. meets q p) (in_class D a x Start Delete)
        (all_in (deleted_by (in_class D a x Start Delete)) positive (and_r test2 _ up_to3) hp) in
        record {
          from = p;
          to = q;
          one_condition = ep;
          no_add = list_none _ (and_r a.lasting _ (and_l test1 _ up_to2));
          by = r.0;
          struck = r.1;
          meeting = r.2;
          one_add = eq;
        }

-- ---- an action with an injective binding over the chosen objects, and an instance

-- a fact of the instance, over the chosen objects
abbrev pub instance_has : Domain → List Object → List Object → Fact → Bool
instance_has D objs y f = matches D y f && among objs f.args

-- the facts of its own literals
abbrev pub effect : List Object → Action → Binding → Moment → Effect
effect objs a b m c = flat_map (facts_of objs b) (literals_at a m c)

-- the facts of all that is asked, an end's over-all conditions too
abbrev pub asks : List Object → Action → Binding → Moment → Effect
asks objs a b m c = flat_map (facts_of objs b) (required a m c)

-- no two of these facts are facts of the instance: of what an event asks, it is so where all of it holds in a state with at most one fact of the instance
abbrev pub Alive : (Fact → Bool) → List Fact → Type 0
Alive fit fs = (f g : Fact) → In f fs → In g fs → fit f ≡ true → fit g ≡ true → f ≡ g

module _ (D : Domain) (a : Action) (ok : well_formed_action D a ≡ true) (objs : List Object) (b : Binding) (len : length b ≡ a.vars)
    (d : distinct same_object b ≡ true)
    (inside : (o : Object) → In o b → In o objs) (y : List Object) where
  lit_below : (l : Literal) → In l a.lits → Below (length b) (variables_of l.atom.args)
  lit_below l m = rw len (literal_below D a ok l m)

  pub at_below : (m : Moment) (c : Usage) (p : Atom Argument) → In p (literals_at a m c) → Below (length b) (variables_of p.args)
  at_below m c p h = rw len (literals_below D a ok m c p h)

  pub at_plain : (m : Moment) (c : Usage) → may_clear c ≡ false → (p : Atom Argument) → In p (literals_at a m c)
      → count_by is_every p.args ≡ 0
  at_plain m c k p h = literals_plain D a ok m c p h k

  at_keys : (m : Moment) (c : Usage) (p : Atom Argument) → In p (literals_at a m c) → all (λ k. keeps_keys k p) D.template ≡ true
  at_keys m c p h = literals_keys D a ok m c p h

  -- two of some different literals without FF are bound to two facts
  two_facts : (l : List (Atom Argument)) → distinct same_literal l ≡ true
      → ((p : Atom Argument) → In p l → Below (length b) (variables_of p.args))
      → ((p : Atom Argument) → In p l → count_by is_every p.args ≡ 0)
      → (p q : Atom Argument) (ps : List (Atom Argument)) → l ≡ p ∷ q ∷ ps → bind b p ≡ bind b q → ⊥
  two_facts l dl below plain p q ps e h =
      let hp : In p l = rw e (Memᴰ.head refl) in
      let hq : In q l = rw e (Memᴰ.tail (Memᴰ.head refl)) in
      let pq : p ≡ q = facts_same objs b d p q (below p hp) (below q hq) (plain p hp) (plain q hq)
      (bind b p) (plain_in objs b p (plain p hp)) (Memᴰ.cast h (plain_in objs b q (plain q hq))) in
      let o : distinct same_literal (p ∷ q ∷ ps) ≡ true = rw e at dl in
      clash (sym (ap (same_literal p) pq) ∙ literal_self p) (not_true (same_literal p q) (and_l _ _ (and_l _ _ o)))

  pub class_below : (x : List Variable) → In x (classes D a) → Below (length b) x
  class_below x h = let r = class_in D a h in tuple_below D (length b) r.0.atom (lit_below r.0 r.1) r.2

  -- the facts of an event are over the chosen objects
  pub effect_over : (m : Moment) (c : Usage) (f : Fact) → In f (effect objs a b m c) → (o : Object) → In o f.args → In o objs
  effect_over m c f h =
      let r = flat_map_in (facts_of objs b) (literals_at a m c) h in
      facts_over objs b inside r.0 (at_below m c r.0 r.1) f r.2

  fits : (m : Moment) (c : Usage) (f : Fact) → In f (effect objs a b m c) → matches D y f ≡ true → instance_has D objs y f ≡ true
  fits m c f h t = and_i t (among_of objs f.args (effect_over m c f h))

  -- a fact of the event that the instance matches belongs to a class that is bound to the instance
  pub some_class : (m : Moment) (c : Usage) (f : Fact) → In f (effect objs a b m c) → matches D y f ≡ true
      → (x : List Variable) × In x (classes D a) × (bind_tuple b x ≡ y)
      × ((p : Atom Argument) × In p (in_class D a x m c) × In f (facts_of objs b p))
  unfolding in_class
  some_class m c f h t = let o = flat_map_in (facts_of objs b) (literals_at a m c) h in go o.0 o.1 o.2
    where
      go : (p : Atom Argument) → In p (literals_at a m c) → In f (facts_of objs b p)
          → (x : List Variable) × In x (classes D a) × (bind_tuple b x ≡ y)
          × ((p : Atom Argument) × In p (in_class D a x m c) × In f (facts_of objs b p))
      go p i e =
          let r = literals_at_in a m c i in
          let u = bound_tuple objs b D p (at_keys m c p i) f e y t in (
            u.0,
            in_class_lem D a r.1 (lift r.0 u.0 r.3 u.1),
            u.2,
            (p, in_filter (belongs D u.0) i (belongs_of D u.0 p u.1), e),
          )
        where
          lift : (l : Literal) (u : List Variable) → p ≡ l.atom → In u (literal_tuples D p) → In u (literal_tuples D l.atom)
          lift l u e m = rw e at m

  -- at most one class is bound to the instance
  pub one_class : (x z : List Variable) → In x (classes D a) → In z (classes D a) → bind_tuple b x ≡ y → bind_tuple b z ≡ y → x ≡ z
  one_class x z hx hz ex ez = bind_tuple_inj b d x z (class_below x hx) (class_below z hz) (ex ∙ sym ez)

  module _ (x : List Variable) (hx : In x (classes D a)) (ex : bind_tuple b x ≡ y) (m : Moment) where
    pub back : (c : Usage) (f : Fact) → In f (effect objs a b m c) → matches D y f ≡ true
        → (p : Atom Argument) × In p (in_class D a x m c) × In f (facts_of objs b p)
    back c f h t = let r = some_class m c f h t in rw (one_class x r.0 hx r.1 ex r.2) r.3

    pub class_at_lem : (c : Usage) (p : Atom Argument) → In p (in_class D a x m c) → In p (literals_at a m c)
    unfolding in_class
    class_at_lem c p h = (filter_in (belongs D x) (literals_at a m c) h).0

    pub class_belongs : (c : Usage) (p : Atom Argument) → In p (in_class D a x m c) → belongs D x p ≡ true
    unfolding in_class
    class_belongs c p h = (filter_in (belongs D x) (literals_at a m c) h).1

    pub forth : (c : Usage) (p : Atom Argument) → In p (in_class D a x m c) → (f : Fact) → In f (facts_of objs b p)
        → In f (effect objs a b m c)
    forth c p h f i = in_flat_map (facts_of objs b) (class_at_lem c p h) i

    forth_matches : (c : Usage) (p : Atom Argument) → In p (in_class D a x m c) → (f : Fact) → In f (facts_of objs b p)
        → matches D y f ≡ true
    forth_matches c p h f i = rw (← ex) (matches_fact objs b D p (at_keys m c p (class_at_lem c p h)) f i x (class_belongs c p h))

    -- of a usage without FF
    module _ (c : Usage) (k : may_clear c ≡ false) where
      pub class_plain : (p : Atom Argument) → In p (in_class D a x m c) → count_by is_every p.args ≡ 0
      class_plain p h = at_plain m c k p (class_at_lem c p h)

      pub plain_forth : (p : Atom Argument) → In p (in_class D a x m c) → In (bind b p) (effect objs a b m c)
      plain_forth p h = forth c p h (bind b p) (plain_in objs b p (class_plain p h))

      pub plain_matches : (p : Atom Argument) → In p (in_class D a x m c) → matches D y (bind b p) ≡ true
      plain_matches p h = forth_matches c p h (bind b p) (plain_in objs b p (class_plain p h))

      plain_fits : (p : Atom Argument) → In p (in_class D a x m c) → instance_has D objs y (bind b p) ≡ true
      plain_fits p h = fits m c (bind b p) (plain_forth p h) (plain_matches p h)

      pub only : (q : Atom Argument) → in_class D a x m c ≡ q ∷ [] → (f : Fact) → In f (effect objs a b m c) → matches D y f ≡ true
          → f ≡ bind b q
      only q e f h t =
          let r = back c f h t in plain_fact objs b r.0 (class_plain r.0 r.1) f r.2
          ∙ ap (bind b) (Memᴰ.eq_of_singleton (rw e at r.1))

    pub gone : (c : Usage) → in_class D a x m c ≡ [] → (f : Fact) → In f (effect objs a b m c) → matches D y f ≡ true → ⊥
    gone c e f h t = let r = back c f h t in Memᴰ.not-nil (rw e at r.1)

    one_in : (c : Usage) {q : Atom Argument} {l : List (Atom Argument)} → in_class D a x m c ≡ q ∷ l → In q (in_class D a x m c)
    one_in c e = rw e (Memᴰ.head refl)

    -- two literals of a usage without FF are bound to two facts
    pub twice : (c : Usage) → may_clear c ≡ false → (p q : Atom Argument) (ps : List (Atom Argument)) → in_class D a x m c ≡ p ∷ q ∷ ps
        → bind b p ≡ bind b q → ⊥
    twice c k = two_facts (in_class D a x m c) (class_distinct D a x m c) (λ p h. at_below m c p (class_at_lem c p h)) (class_plain c k)

    -- ---- what is asked: an event with two true conditions in the class never happens where the instance has at most one fact

    module _ (alive : Alive (instance_has D objs y) (asks objs a b m Positive)) where
      reach_at_lem : (p : Atom Argument) → In p (reach_in D a x m) → In p (required a m Positive) × (belongs D x p ≡ true)
      unfolding reach_in
      reach_at_lem p h = filter_in (belongs D x) (required a m Positive) h

      reach_plain : (p : Atom Argument) → In p (reach_in D a x m) → count_by is_every p.args ≡ 0
      reach_plain p h = required_plain D a ok m Positive p (reach_at_lem p h).0 refl

      reach_below : (p : Atom Argument) → In p (reach_in D a x m) → Below (length b) (variables_of p.args)
      reach_below p h = rw len (required_below D a ok m Positive p (reach_at_lem p h).0)

      reach_fact : (p : Atom Argument) → In p (reach_in D a x m) → In (bind b p) (facts_of objs b p)
      reach_fact p h = plain_in objs b p (reach_plain p h)

      reach_fits : (p : Atom Argument) → In p (reach_in D a x m) → instance_has D objs y (bind b p) ≡ true
      reach_fits p h =
          let r = reach_at_lem p h in
          and_i {a = matches D y (bind b p)}
          (rw (← ex) (matches_fact objs b D p (required_keys D a ok m Positive p r.0) (bind b p) (reach_fact p h) x r.1))
          (among_of objs (bind b p).args (facts_over objs b inside p (reach_below p h) (bind b p) (reach_fact p h)))

      reach_one : (p q : Atom Argument) → In p (reach_in D a x m) → In q (reach_in D a x m) → bind b p ≡ bind b q
      reach_one p q hp hq =
          alive (bind b p) (bind b q) (in_flat_map (facts_of objs b) (reach_at_lem p hp).0 (reach_fact p hp))
          (in_flat_map (facts_of objs b) (reach_at_lem q hq).0 (reach_fact q hq)) (reach_fits p hp) (reach_fits q hq)

      -- it is not unreachable
      never_two : leb 2 (length (reach_in D a x m)) ≡ true → ⊥
      never_two t = go (list_two (reach_in D a x m) t)
        where
          go : (p q : Atom Argument) × ((ps : List (Atom Argument)) × (reach_in D a x m ≡ p ∷ q ∷ ps)) → ⊥
          go (p, q, (ps, e)) =
              two_facts (reach_in D a x m) (reach_distinct D a x m) reach_below reach_plain p q ps e
              (reach_one p q (rw e (Memᴰ.head refl)) (rw e (Memᴰ.tail (Memᴰ.head refl))))

      -- nor has it two own true conditions
      never_two_own : (p q : Atom Argument) (ps : List (Atom Argument)) → in_class D a x m Positive ≡ p ∷ q ∷ ps → ⊥
      never_two_own p q ps e =
          twice Positive refl p q ps e
          (reach_one p q (own_reach D a x m (rw e (Memᴰ.head refl))) (own_reach D a x m (rw e (Memᴰ.tail (Memᴰ.head refl)))))

    -- a delete of the class strikes the fact of a true condition that it meets
    pub struck_by : (q p : Atom Argument) → In q (in_class D a x m Delete) → In p (in_class D a x m Positive) → meets q p ≡ true
        → In (bind b p) (effect objs a b m Delete)
    struck_by q p hq hp k =
        forth Delete q hq (bind b p)
        (meet_facts objs b q p (class_plain Positive refl p hp) k (bind b p) (plain_in objs b p (class_plain Positive refl p hp))
        (effect_over m Positive (bind b p) (plain_forth Positive refl p hp)))

    module _ (v : Bool) (okT : well_formed_template D ≡ true) (s t : ℕ) where
      -- all components are covered: no fact of the instance stays beside the one that is added
      excluded : (q : Atom Argument) → in_class D a x m Add ≡ q ∷ [] → all (covered (excluding D a x m)) D.template ≡ true
          → (f : Fact) → instance_has D objs y f ≡ true
          → In f (effect objs a b m Negative) ⊎ (In f (effect objs a b m Delete) ⊎ (f ≡ bind b q))
      unfolding excluding
      excluded q ea cov f t =
          let t' = and_l (matches D y f) _ t in
          let k = component_of_lem D f (matches_tuple D y f t') in
          let cv = all_in (covered (excluding D a x m)) D.template cov k.1 in
          let r =
          any_in (λ (p : Atom Argument). eqb k.0.rel p.rel && counted_cleared k.0.labels p.args) (excluding D a x m) cv in
          let kf : k.0.rel ≡ f.rel = eqb-true k.0.rel f.rel (and_l _ _ k.2) in
          let rel : f.rel ≡ r.0.rel = sym kf ∙ eqb-true k.0.rel r.0.rel (and_l _ _ r.2) in
          let clear : (c : Component) → In c D.template → c.rel ≡ f.rel → counted_cleared c.labels r.0.args ≡ true
          = λ c mc ec. ap (λ (z : Component). counted_cleared z.labels r.0.args)
          (one_component D okT c k.0 mc k.1 (ec ∙ sym kf)) ∙ and_r (eqb k.0.rel r.0.rel) _ r.2 in
          which r.0 rel clear (Memᴰ.append_cases (in_class D a x m Negative) r.1)
        where
          is : (c : Usage) (p : Atom Argument) → f.rel ≡ p.rel
              → ((c : Component) → In c D.template → c.rel ≡ f.rel → counted_cleared c.labels p.args ≡ true)
              → In p (in_class D a x m c) → In f (facts_of objs b p)
          is c p e clear h =
              standing D okT objs b x p (class_belongs c p h) (at_keys m c p (class_at_lem c p h)) f
              (ap (λ (z : List Object). matches D z f) ex ∙ and_l (matches D y f) _ t) e clear
              (among_in objs f.args (and_r (matches D y f) _ t))

          which : (p : Atom Argument) → f.rel ≡ p.rel
              → ((c : Component) → In c D.template → c.rel ≡ f.rel → counted_cleared c.labels p.args ≡ true)
              → In p (in_class D a x m Negative) ⊎ In p (in_class D a x m Add ++ in_class D a x m Delete)
              → In f (effect objs a b m Negative) ⊎ (In f (effect objs a b m Delete) ⊎ (f ≡ bind b q))
          which p e clear (inl h) = inl (forth Negative p h f (is Negative p e clear h))
          which p e clear (inr h) = inr (rest (Memᴰ.append_cases (in_class D a x m Add) h))
            where
              rest : In p (in_class D a x m Add) ⊎ In p (in_class D a x m Delete) → In f (effect objs a b m Delete) ⊎ (f ≡ bind b q)
              rest (inl h) =
                  inr (plain_fact objs b p (class_plain Add refl p h) f (is Add p e clear h)
                  ∙ ap (bind b) (Memᴰ.eq_of_singleton (rw ea at h)))
              rest (inr h) = inl (forth Delete p h f (is Delete p e clear h))

      by_name : Alive (instance_has D objs y) (asks objs a b m Positive) → s ≡ 0 → t ≡ 0
          → (dd : Bool) (ps as' : List (Atom Argument)) (ch cov : Bool)
          → leb 2 (length (reach_in D a x m)) ≡ dd → in_class D a x m Positive ≡ ps → in_class D a x m Add ≡ as'
          → all (changed_by (in_class D a x m Add) (in_class D a x m Delete)) (in_class D a x m Positive) ≡ ch
          → all (covered (excluding D a x m)) D.template ≡ cov → Harmless v (name_table dd ps as' ch cov)
          → Act (instance_has D objs y) v (effect objs a b m) s t
      by_name alive s0 t0 true ps as' ch cov ed ep ea ec ev hl = absurd (never_two alive ed)
      by_name alive s0 t0 false ps [] ch cov ed ep ea ec ev hl = idle s0 t0 (λ f h k. gone Add ea f h (and_l _ _ k))
      by_name alive s0 t0 false ps (c ∷ c' ∷ cs) ch cov ed ep ea ec ev hl = absurd hl
      by_name alive s0 t0 false [] (c ∷ []) ch true ed ep ea ec ev hl =
          fills (bind b c) hl s0 t0 (λ f h k. only Add refl c ea f h (and_l _ _ k)) (excluded c ea ev)
      by_name alive s0 t0 false [] (c ∷ []) ch false ed ep ea ec ev hl = absurd hl
      by_name alive s0 t0 false (p ∷ q ∷ ps) (c ∷ []) ch cov ed ep ea ec ev hl = absurd (never_two_own alive p q ps ep)
      by_name alive s0 t0 false (p ∷ []) (c ∷ []) true cov ed ep ea ec ev hl =
          let hp = one_in Positive ep in
          moves (bind b p) (bind b c) s0 t0 (plain_forth Positive refl p hp) (plain_fits Positive refl p hp)
          (λ f h k. only Add refl c ea f h (and_l _ _ k))
          (changed hp (or_cases _ _ (all_in (changed_by (in_class D a x m Add) (in_class D a x m Delete)) (in_class D a x m Positive) ec hp)))
        where
          changed : In p (in_class D a x m Positive)
              → (elem same_literal p (in_class D a x m Add) ≡ true) ⊎ (deleted_by (in_class D a x m Delete) p ≡ true)
              → In (bind b p) (effect objs a b m Delete) ⊎ (bind b p ≡ bind b c)
          changed hp (inl h) =
              inr (ap (bind b) (Memᴰ.eq_of_singleton (rw ea at (elem_in same_literal literal_eq p (in_class D a x m Add) h))))
          changed hp (inr h) = let r = any_in (λ q. meets q p) (in_class D a x m Delete) h in inl (struck_by r.0 p r.1 hp r.2)
      by_name alive s0 t0 false (p ∷ []) (c ∷ []) false cov ed ep ea ec ev hl = absurd hl

      pub harmless_act : Alive (instance_has D objs y) (asks objs a b m Positive) → s ≡ 0 → t ≡ 0 → Harmless v (name_of D a x m)
          → Act (instance_has D objs y) v (effect objs a b m) s t
      harmless_act alive s0 t0 hl =
          by_name alive s0 t0 (leb 2 (length (reach_in D a x m))) (in_class D a x m Positive) (in_class D a x m Add) _ _ refl refl refl refl refl (rw (name_of_lem D a x m) at hl)

  -- no class is bound to the instance
  pub apart_act : (v : Bool) (s t : ℕ) (m : Moment) → s ≡ 0 → t ≡ 0 → ((x : List Variable) → In x (classes D a) → bind_tuple b x ≡ y → ⊥)
      → Act (instance_has D objs y) v (effect objs a b m) s t
  apart_act v s t m s0 t0 h = idle s0 t0 (λ f k e. let r = some_class m Add f k (and_l _ _ e) in h r.0 r.1 r.2)

  module _ (x : List Variable) (hx : In x (classes D a)) (ex : bind_tuple b x ≡ y) (j : IsJourney D a x) (v : Bool) (s t : ℕ) where
    pub start_act : v ≡ false → s ≡ 1 → t ≡ 0 → Act (instance_has D objs y) v (effect objs a b Start) s t
    start_act vf s1 t0 =
        let hp = one_in x hx ex Start Positive j.one_condition in
        leaves (bind b j.from) vf s1 t0 (plain_forth x hx ex Start Positive refl j.from hp)
        (struck_by x hx ex Start j.by j.from j.struck hp j.meeting)
        (plain_fits x hx ex Start Positive refl j.from hp) (λ f h k. gone x hx ex Start Add j.no_add f h (and_l _ _ k))

    pub end_act : s ≡ 0 → t ≡ 1 → Act (instance_has D objs y) v (effect objs a b End) s t
    end_act s0 t1 = arrives (bind b j.to) s0 t1 (λ f h k. only x hx ex End Add refl j.to j.one_add f h (and_l _ _ k))
