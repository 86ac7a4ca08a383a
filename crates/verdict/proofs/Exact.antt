-- The witness of a faulty class of an action at once, or of a start, does harm. Assumes nothing.
use mathlib.Core.Path.{◌≡◌, refl, sym, ap, ap₂, ◌∙◌}
use mathlib.Core.Bool.{Bool, true, false, not, ◌&&◌, false≢true}
use mathlib.Core.Logic.{◌⊎◌, inl, inr}
use mathlib.Core.List.Memᴰ
use mathlib.Core.List.{List, [], ◌∷◌, ◌++◌, map}
use Prim.Native.Nat.{ℕ, suc, ◌≤◌, ◌<◌}
use native.Mathlib.Omega.{arith}
use lib.Dec.{eqb, leb, ltb}
use lib.ListN.{length, length-map}
use borrow.Author.Tests.{eqb-true, eq-eqb, lt-ltb}
use Rattle.records.specs.Lists.{In, all, count_by, elem, distinct, dedup}
use Rattle.records.proofs.Lists.{and_l, and_r, and_i, or_l, or_r, off, not_true, clash, eqb_comm, in_any, all_of, all_append, get_d_in}
use Rattle.records.proofs.Lists.{in_elem, in_dedup, dedup_in, distinct_dedup, pairwise_in, count_single, single_count, flat_map_in}
use Rattle.literals.specs.declared.Variable.{Variable}
use Rattle.literals.specs.declared.Object.{Object}
use Rattle.literals.specs.declared.Argument.{Argument}
use Rattle.literals.specs.declared.Time.{Time}
use Rattle.literals.specs.declared.Time.TheVariants.{AtStart}
use Rattle.literals.specs.declared.Usage.{Usage}
use Rattle.literals.specs.declared.Usage.TheVariants.{Positive, Negative, Add, Delete}
use Rattle.literals.specs.declared.Role.{Role}
use Rattle.literals.proofs.Arguments.{meets_comm}
use Rattle.literals.specs.Domain.{object, same_object, is_every, variables_of, Atom, Fact, same_fact, same_literal, meets, first_role}
use Rattle.literals.specs.Domain.{usage_number, same_time, same_usage, Literal, may_clear, Action, Component, counted_cleared, keys_of, Domain}
use Rattle.literals.specs.Domain.{arity, action}
use Rattle.literals.specs.Decode.{repeats, contrary, together, contradicts}
use Rattle.literals.specs.declared.Moment.TheVariants.{Start}
use Rattle.literals.specs.Matching.{own, literals_at, required, matches}
use Rattle.classes.specs.Classes.{classes, in_class, reach_in, excluding, covered, changed_by, name_of, deleted_by}
use Rattle.classes.proofs.Roles.{literals_at_in}
use Rattle.verdict.specs.Binding.{Binding, value_of, bind, bind_tuple, same_numbers, spare, facts_of}
use Rattle.verdict.specs.Decision.{fault_by, object_under, instance_fact, first_uncovered, witness_by, witness_at}
use Rattle.verdict.specs.Machine.{Event, event_facts, required_facts, conditions_hold, allowed, facts_after, next, weight, legal}
use Rattle.verdict.specs.Claims.{has_arity, is_fact, well_formed_action, well_formed_template, well_formed, Harm, plain_objects, plain_event}
use Rattle.verdict.proofs.Equality.{literal_self, fact_eq, fact_self}
use Rattle.verdict.proofs.Events.{elem_fact, fact_elem, in_after}
use Rattle.verdict.proofs.Steps.{Effect}
use Rattle.verdict.proofs.Tuples.{Below}
use Rattle.verdict.proofs.Facts.{facts_in_lem, stand_length, plain_in, facts_meet, facts_same, plain_flat}
use Rattle.verdict.proofs.WellFormed.{literal_arity_lem, literals_apart, action_well_formed, template_well_formed, component_arity_lem}
use Rattle.verdict.proofs.Acts.{name_table, two_or_more, name_of_lem, effect, at_below, class_below, back, class_at_lem, gone, only, twice}
use Rattle.verdict.proofs.Acts.{at_plain, effect_over, plain_forth, plain_matches}
use Rattle.verdict.proofs.Objects.{objects_length, objects_range, object_in, objects_distinct, among_of}
use Rattle.verdict.proofs.Instances.{class_length, instance_matches, instance_objects, first_uncovered_lem, spare_cleared}

-- ---- no condition is both true and false at a start

contrary_of : (c d : Usage) → same_usage Positive c ≡ true → same_usage Negative d ≡ true → (contrary c d ≡ true) × (contrary d c ≡ true)
contrary_of Positive Positive s t = absurd (false≢true t)
contrary_of Positive Negative s t = (refl, refl)
contrary_of Positive Add s t = absurd (false≢true t)
contrary_of Positive Delete s t = absurd (false≢true t)
contrary_of Negative d s t = absurd (false≢true s)
contrary_of Add d s t = absurd (false≢true s)
contrary_of Delete d s t = absurd (false≢true s)

together_of : (t u : Time) → same_time AtStart t ≡ true → same_time AtStart u ≡ true → together t u ≡ true
together_of t u s r = rw (eqb_comm (first_role t) 0, s, eqb_comm (first_role u) 0, r)

own_of : (c : Usage) (r : Role) → own Start c r ≡ true → (same_time AtStart r.time ≡ true) × (same_usage c r.usage ≡ true)
own_of c r k = (and_l _ _ k, and_r (same_time AtStart r.time) _ k)

-- no false condition meets a true one
never_both : (D : Domain) (a : Action) → well_formed_action D a ≡ true → (p q : Atom Argument)
    → In p (literals_at a Start Positive) → In q (literals_at a Start Negative) → meets q p ≡ true → ⊥
never_both D a ok p q m n h =
    let l = literals_at_in a Start Positive m in
    let k = literals_at_in a Start Negative n in
    go l.0 k.0 (own_of Positive l.0.role l.2) (own_of Negative k.0.role k.2) (sym (ap₂ meets k.3 l.3) ∙ h)
    (pairwise_in (λ l m. not (repeats l m) && not (contradicts l m)) a.lits (literals_apart D a ok) l.1 k.1)
  where
    go : (l k : Literal) → (same_time AtStart l.role.time ≡ true) × (same_usage Positive l.role.usage ≡ true)
        → (same_time AtStart k.role.time ≡ true) × (same_usage Negative k.role.usage ≡ true) → meets k.atom l.atom ≡ true
        → (l ≡ k) ⊎ ((not (repeats l k) && not (contradicts l k) ≡ true) ⊎ (not (repeats k l) && not (contradicts k l) ≡ true)) → ⊥
    go l k hl hk e (inl same) =
        let y = eqb-true 0 (usage_number l.role.usage) hl.1 in
        let z = eqb-true 1 (usage_number k.role.usage) hk.1 in
        let w : usage_number l.role.usage ≡ usage_number k.role.usage = ap (λ (l : Literal). usage_number l.role.usage) same in omega arith
    go l k hl hk e (inr (inl h)) =
        clash (and_i (and_i (contrary_of l.role.usage k.role.usage hl.1 hk.1).0 (together_of l.role.time k.role.time hl.0 hk.0))
        (meets_comm l.atom k.atom ∙ e)) (not_true _ (and_r (not (repeats l k)) _ h))
    go l k hl hk e (inr (inr h)) =
        clash (and_i (and_i (contrary_of l.role.usage k.role.usage hl.1 hk.1).1 (together_of k.role.time l.role.time hk.0 hl.0))
        e) (not_true _ (and_r (not (repeats k l)) _ h))

module _ (D : Domain) (wf : well_formed D ≡ true) (i : ℕ) (idx : i < length D.actions) where
  abbrev act : Action
  act = action D i

  abbrev b : Binding
  b = same_numbers (action D i)

  abbrev ev : Event
  ev = plain_event D i

  ok : well_formed_action D act ≡ true
  ok = action_well_formed D wf i idx

  ok_t : well_formed_template D ≡ true
  ok_t = template_well_formed D wf

  len : length b ≡ act.vars
  len = objects_length 0 act.vars

  dis : distinct same_object b ≡ true
  dis = objects_distinct 0 act.vars

  -- ---- objects

  pub bound_in : (o : Object) → In o b → In o (plain_objects D i)
  bound_in o m = let r = objects_range 0 act.vars o m in let h = r.1 in object_in 0 (suc act.vars) o (omega arith) (omega arith)

  value_in : (u : List Variable) → Below (length b) u → (o : Object) → In o (bind_tuple b u) → In o b
  value_in u h o m = let r = Memᴰ.of_map (value_of b) u m in Memᴰ.cast (sym r.2) (get_d_in b r.0.0 (object 0) (h r.0 r.1))

  spare_out : In (spare act) b → ⊥
  spare_out m = let r = (objects_range 0 act.vars (spare act) m).1 in omega arith

  -- the facts of its literals of a usage
  abbrev facts : Effect
  facts = effect (plain_objects D i) act b Start

  pub below : (c : Usage) (p : Atom Argument) → In p (literals_at act Start c) → Below (length b) (variables_of p.args)
  below = at_below D act ok (plain_objects D i) b len dis bound_in [] Start

  pub plain : (c : Usage) → may_clear c ≡ false → (p : Atom Argument) → In p (literals_at act Start c) → count_by is_every p.args ≡ 0
  plain = at_plain D act ok (plain_objects D i) b len dis bound_in [] Start

  pub held_fact : (c : Usage) (f : Fact) → In f (facts c) → is_fact D (plain_objects D i) f ≡ true
  held_fact c f m =
      let r = flat_map_in (facts_of (plain_objects D i) b) (literals_at act Start c) m in
      let g = facts_in_lem (plain_objects D i) b r.0 f r.2 in
      let l = literals_at_in act Start c r.1 in
      let ar : has_arity D r.0.rel r.0.args ≡ true = rw l.3 (literal_arity_lem D act ok l.0 l.1) in
      and_i {a = has_arity D f.rel f.args}
      (ap₂ (λ (q n : ℕ). ltb q (length D.arities) && eqb n (arity D q)) g.0
      (stand_length (plain_objects D i) b r.0.args f.args g.1) ∙ ar)
      (among_of (plain_objects D i) f.args (effect_over D act ok (plain_objects D i) b len dis bound_in [] Start c f m))

  -- ---- facts from which the event leaves two facts of the instance

  pub ev_legal : legal D ev ≡ true
  unfolding legal
  ev_legal = and_i (and_i (lt-ltb i (length D.actions) idx) refl) (eq-eqb (length b) act.vars len)

  -- a true condition and a false one stand for no fact in common
  unlike : (f : Fact) → In f (facts Negative) → In f (facts Positive) → ⊥
  unlike f m n =
      let p = flat_map_in (facts_of (plain_objects D i) b) (literals_at act Start Negative) m in
      let q = flat_map_in (facts_of (plain_objects D i) b) (literals_at act Start Positive) n in
      never_both D act ok q.0 p.0 q.1 p.1
      (facts_meet (plain_objects D i) b dis p.0 q.0 (below Negative p.0 p.1) (below Positive q.0 q.1) f p.2 q.2)

  module _ (y : List Object) (size : length y ≡ keys_of D.template) (over : (o : Object) → In o y → In o (plain_objects D i)) where
    does_harm : (seen : List Fact) → all (is_fact D (plain_objects D i)) seen ≡ true
        → ((f : Fact) → In f (facts Positive) → In f seen) → ((f : Fact) → In f (facts Negative) → In f seen → ⊥)
        → ((f g : Fact) → In f seen → In g seen → matches D y f ≡ true → matches D y g ≡ true → f ≡ g) → (f g : Fact)
        → In f (facts Add) → In g (facts Add) ⊎ (In g seen × (In g (facts Delete) → ⊥))
        → matches D y f ≡ true → matches D y g ≡ true → (f ≡ g → ⊥) → Harm D (plain_objects D i) seen y ev
    unfolding weight next allowed conditions_hold required_facts event_facts required literals_at
    does_harm seen fo held lacked single f g mf mg ff fg ne = record {
      facts_over = fo;
      instance = and_i (eq-eqb (length y) (keys_of D.template) size) (among_of (plain_objects D i) y over);
      event = and_i (and_i ev_legal dis) (among_of (plain_objects D i) b bound_in);
      before = single_count (matches D y) same_fact fact_self (dedup same_fact seen) (distinct_dedup same_fact seen)
          (λ f g m n. single f g (dedup_in same_fact seen m) (dedup_in same_fact seen n));
      can = and_i (and_i (and_i refl (and_i holds refl)) refl) refl;
      after = let two : count_by (matches D y) (facts_after D (plain_objects D i) (dedup same_fact seen) (ev ∷ [])) ≤ 1 → ⊥
          = λ le. ne (count_single (matches D y) (facts_after D (plain_objects D i) (dedup same_fact seen) (ev ∷ [])) le f g (new f mf)
          (place mg) ff fg) in omega arith;
    }
      where
        holds : conditions_hold D (plain_objects D i) (dedup same_fact seen) ev ≡ true
        holds =
            and_i (all_of (λ f. elem same_fact f (dedup same_fact seen)) (event_facts D (plain_objects D i) ev Positive)
            (λ f m. fact_elem (in_dedup same_fact fact_eq (held f m))))
            (all_of (λ f. not (elem same_fact f (dedup same_fact seen))) (event_facts D (plain_objects D i) ev Negative)
            (λ f m. ap not (off (elem same_fact f (dedup same_fact seen)) (λ t. lacked f m (dedup_in same_fact seen (elem_fact f (dedup same_fact seen) t))))))

        new : (h : Fact) → In h (facts Add) → In h (facts_after D (plain_objects D i) (dedup same_fact seen) (ev ∷ []))
        new h m = in_after D (plain_objects D i) (dedup same_fact seen) (ev ∷ []) h (inr (ev, Memᴰ.head refl, m))

        place : In g (facts Add) ⊎ (In g seen × (In g (facts Delete) → ⊥))
            → In g (facts_after D (plain_objects D i) (dedup same_fact seen) (ev ∷ []))
        place (inl m) = new g m
        place (inr m) =
            in_after D (plain_objects D i) (dedup same_fact seen) (ev ∷ []) g
            (inl (in_dedup same_fact fact_eq m.0, λ e k d. m.1 (gone_by e k d)))
          where
            gone_by : (e : Event) → In e (ev ∷ []) → In g (event_facts D (plain_objects D i) e Delete) → In g (facts Delete)
            gone_by e k d = rw (Memᴰ.eq_of_singleton k) at d

    -- the true conditions alone
    alone_harm : ((f g : Fact) → In f (facts Positive) → In g (facts Positive) → matches D y f ≡ true → matches D y g ≡ true → f ≡ g)
        → (f g : Fact) → In f (facts Add)
        → In g (facts Add) ⊎ (In g (facts Positive) × (In g (facts Delete) → ⊥))
        → matches D y f ≡ true → matches D y g ≡ true → (f ≡ g → ⊥) → Harm D (plain_objects D i) (facts Positive) y ev
    alone_harm = does_harm (facts Positive) (all_of (is_fact D (plain_objects D i)) (facts Positive) (held_fact Positive)) (λ f m. m) unlike

  module _ (x : List Variable) (hx : In x (classes D act)) where
    abbrev y : List Object
    y = bind_tuple (same_numbers (action D i)) x

    pub size : length y ≡ keys_of D.template
    size = length-map x (value_of b) ∙ class_length D act ok ok_t x hx

    pub over : (o : Object) → In o y → In o (plain_objects D i)
    over o m = bound_in o (value_in x (class_below D act ok (plain_objects D i) b len dis bound_in y x hx) o m)

    class_literal : (c : Usage) (p : Atom Argument) → In p (in_class D act x Start c) → In p (literals_at act Start c)
    class_literal = class_at_lem D act ok (plain_objects D i) b len dis bound_in y x hx refl Start

    -- of a usage without FF
    fact_of : (c : Usage) → may_clear c ≡ false → (p : Atom Argument) → In p (in_class D act x Start c) → In (bind b p) (facts c)
    fact_of = plain_forth D act ok (plain_objects D i) b len dis bound_in y x hx refl Start

    fact_matches : (c : Usage) → may_clear c ≡ false → (p : Atom Argument) → In p (in_class D act x Start c) → matches D y (bind b p) ≡ true
    fact_matches = plain_matches D act ok (plain_objects D i) b len dis bound_in y x hx refl Start

    literal_of_lem : (c : Usage) (f : Fact) → In f (facts c) → matches D y f ≡ true
        → (p : Atom Argument) × In p (in_class D act x Start c) × In f (facts_of (plain_objects D i) b p)
    literal_of_lem = back D act ok (plain_objects D i) b len dis bound_in y x hx refl Start

    -- a true condition of the class whose fact is one of a usage: a literal of that usage meets it
    met_by : (c : Usage) (p : Atom Argument) → In p (in_class D act x Start Positive) → In (bind b p) (facts c)
        → (q : Atom Argument) × In q (in_class D act x Start c) × (meets q p ≡ true)
    met_by c p h m =
        let r = literal_of_lem c (bind b p) m (fact_matches Positive refl p h) in
        let hp = class_literal Positive p h in
        let kp = plain Positive refl p hp in (
          r.0,
          r.1,
          facts_meet (plain_objects D i) b dis r.0 p (below c r.0 (class_literal c r.0 r.1)) (below Positive p hp)
              (bind b p) r.2 (plain_in (plain_objects D i) b p kp),
        )

    -- of the adds: it is one of them
    added_too : (p : Atom Argument) → In p (in_class D act x Start Positive) → In (bind b p) (facts Add) → In p (in_class D act x Start Add)
    added_too p h m =
        let r = literal_of_lem Add (bind b p) m (fact_matches Positive refl p h) in
        let hp = class_literal Positive p h in
        let hq = class_literal Add r.0 r.1 in
        let kp = plain Positive refl p hp in
        Memᴰ.cast (facts_same (plain_objects D i) b dis p r.0 (below Positive p hp) (below Add r.0 hq) kp (plain Add refl r.0 hq)
        (bind b p) (plain_in (plain_objects D i) b p kp) r.2) r.1

    no_hold : in_class D act x Start Positive ≡ []
        → (f g : Fact) → In f (facts Positive) → In g (facts Positive) → matches D y f ≡ true → matches D y g ≡ true → f ≡ g
    no_hold e f g m n s t = absurd (gone D act ok (plain_objects D i) b len dis bound_in y x hx refl Start Positive e f m s)

    one_hold : (p : Atom Argument) → in_class D act x Start Positive ≡ p ∷ []
        → (f g : Fact) → In f (facts Positive) → In g (facts Positive) → matches D y f ≡ true → matches D y g ≡ true → f ≡ g
    one_hold p e f g m n s t = only D act ok (plain_objects D i) b len dis bound_in y x hx refl Start Positive refl p e f m s
        ∙ sym (only D act ok (plain_objects D i) b len dis bound_in y x hx refl Start Positive refl p e g n t)

    two_adds : (c c' : Atom Argument) (cs : List (Atom Argument)) → in_class D act x Start Add ≡ c ∷ c' ∷ cs
        → ((f g : Fact) → In f (facts Positive) → In g (facts Positive) → matches D y f ≡ true → matches D y g ≡ true → f ≡ g)
        → Harm D (plain_objects D i) (facts Positive) y ev
    two_adds c c' cs e single =
        let m : In c (in_class D act x Start Add) = rw e (Memᴰ.head refl) in
        let n : In c' (in_class D act x Start Add) = rw e (Memᴰ.tail (Memᴰ.head refl)) in
        alone_harm y size over single (bind b c) (bind b c') (fact_of Add refl c m) (inl (fact_of Add refl c' n))
        (fact_matches Add refl c m) (fact_matches Add refl c' n)
        (twice D act ok (plain_objects D i) b len dis bound_in y x hx refl Start Add refl c c' cs e)

    stays : (p c : Atom Argument) → in_class D act x Start Positive ≡ p ∷ [] → in_class D act x Start Add ≡ c ∷ []
        → all (changed_by (in_class D act x Start Add) (in_class D act x Start Delete)) (in_class D act x Start Positive) ≡ false
        → Harm D (plain_objects D i) (facts Positive) y ev
    stays p c ep ea ch =
        let hp : In p (in_class D act x Start Positive) = rw ep (Memᴰ.head refl) in
        let hc : In c (in_class D act x Start Add) = rw ea (Memᴰ.head refl) in
        alone_harm y size over (one_hold p ep) (bind b c) (bind b p) (fact_of Add refl c hc)
        (inr (
          fact_of Positive refl p hp,
          λ k. let q = met_by Delete p hp k in unchanged
              (or_r (elem same_literal p (in_class D act x Start Add)) (in_any (λ q. meets q p) q.1 q.2)),
        ))
        (fact_matches Add refl c hc) (fact_matches Positive refl p hp)
        (λ e. unchanged (or_l (deleted_by (in_class D act x Start Delete) p)
        (in_elem same_literal literal_self (added_too p hp (Memᴰ.cast (sym e) (fact_of Add refl c hc))))))
      where
        unchanged : changed_by (in_class D act x Start Add) (in_class D act x Start Delete) p ≡ true → ⊥
        unchanged t = clash (rw ep (and_i t refl)) ch

    open_place : (c : Atom Argument) → in_class D act x Start Positive ≡ [] → in_class D act x Start Add ≡ c ∷ []
        → all (covered (excluding D act x Start)) D.template ≡ false
        → Harm D (plain_objects D i)
        (facts Positive ++ map (instance_fact (spare act) y) (first_uncovered (excluding D act x Start) D.template)) y ev
    unfolding excluding
    open_place c ep ea un = go (first_uncovered_lem (excluding D act x Start) D.template un)
      where
        go : (u : Component) × In u D.template × (covered (excluding D act x Start) u ≡ false) × (first_uncovered (excluding D act x Start) D.template ≡ u ∷ [])
            → Harm D (plain_objects D i)
            (facts Positive ++ map (instance_fact (spare act) y) (first_uncovered (excluding D act x Start) D.template)) y ev
        go (u, mu, cu, eu) =
            rw eu (does_harm y size over (facts Positive ++ (f ∷ []))
            (all_append (is_fact D (plain_objects D i)) (facts Positive) (f ∷ [])
            (all_of (is_fact D (plain_objects D i)) (facts Positive) (held_fact Positive)) (and_i fact refl))
            (λ g m. Memᴰ.append_left (f ∷ []) m) (λ g m n. lacking g m (Memᴰ.append_cases (facts Positive) n))
            (λ g h m n s t. is g (Memᴰ.append_cases (facts Positive) m) s ∙ sym (is h (Memᴰ.append_cases (facts Positive) n) t))
            (bind b c) f (fact_of Add refl c hc)
            (inr (
              Memᴰ.append_right (facts Positive) (Memᴰ.head refl),
              bad Delete (λ q j. Memᴰ.append_right (in_class D act x Start Negative) (Memᴰ.append_right (in_class D act x Start Add) j)),
            ))
            (fact_matches Add refl c hc) fm
            (λ e. bad Add (λ q j. Memᴰ.append_right (in_class D act x Start Negative) (Memᴰ.append_left (in_class D act x Start Delete) j))
            (Memᴰ.cast (sym e) (fact_of Add refl c hc))))
          where
            f : Fact
            f = instance_fact (spare act) y u

            hc : In c (in_class D act x Start Add)
            hc = rw ea (Memᴰ.head refl)

            fm : matches D y f ≡ true
            fm = instance_matches D ok_t (spare act) y size u mu

            fact : is_fact D (plain_objects D i) f ≡ true
            fact = and_i {a = has_arity D u.rel f.args} (rw (length-map u.labels (object_under (spare act) y)) (component_arity_lem D ok_t u mu))
                (among_of (plain_objects D i) f.args (λ o m. inside o (instance_objects D ok_t (spare act) y size u mu o m)))
              where
                inside : (o : Object) → In o y ⊎ (o ≡ spare act) → In o (plain_objects D i)
                inside o (inl m) = over o m
                inside o (inr e) = rw e (object_in 0 (suc act.vars) (spare act) (omega arith) (omega arith))

            is : (g : Fact) → In g (facts Positive) ⊎ In g (f ∷ []) → matches D y g ≡ true → g ≡ f
            is g (inl m) t = absurd (gone D act ok (plain_objects D i) b len dis bound_in y x hx refl Start Positive ep g m t)
            is g (inr m) t = Memᴰ.eq_of_singleton m

            -- the instance fact of a component that is not covered is no fact of the event
            bad : (k : Usage) → ((q : Atom Argument) → In q (in_class D act x Start k) → In q (excluding D act x Start)) → In f (facts k)
                → ⊥
            bad k up m =
                let r = literal_of_lem k f m fm in
                let g = facts_in_lem (plain_objects D i) b r.0 f r.2 in
                clash (in_any (λ (p : Atom Argument). eqb u.rel p.rel && counted_cleared u.labels p.args) (up r.0 r.1)
                (and_i (eq-eqb u.rel r.0.rel g.0)
                (spare_cleared (plain_objects D i) b (spare act) spare_out y u.labels r.0.args
                (below k r.0 (class_literal k r.0 r.1)) g.1))) cu

            lacking : (g : Fact) → In g (facts Negative) → In g (facts Positive) ⊎ In g (f ∷ []) → ⊥
            lacking g m (inl n) = unlike g m n
            lacking g m (inr n) = bad Negative (λ q j. Memᴰ.append_left _ j) (Memᴰ.cast (sym (Memᴰ.eq_of_singleton n)) m)

    -- a faulty class: its witness does harm
    by_fault : (dd : Bool) (ps as' : List (Atom Argument)) (ch cov : Bool) → leb 2 (length ps) ≡ dd → in_class D act x Start Positive ≡ ps
        → in_class D act x Start Add ≡ as'
        → all (changed_by (in_class D act x Start Add) (in_class D act x Start Delete)) (in_class D act x Start Positive) ≡ ch
        → all (covered (excluding D act x Start)) D.template ≡ cov → (fault_by (name_table dd ps as' ch cov) false ≡ 0 → ⊥)
        → Harm D (plain_objects D i)
        (witness_by (name_table dd ps as' ch cov) (facts Positive)
        (map (instance_fact (spare act) y) (first_uncovered (excluding D act x Start) D.template))) y ev
    by_fault true ps as' ch cov ed ep ea ec eu ne = absurd (ne refl)
    by_fault false (p ∷ q ∷ ps) as' ch cov ed ep ea ec eu ne = absurd (clash (two_or_more (length ps)) ed)
    by_fault false [] [] ch cov ed ep ea ec eu ne = absurd (ne refl)
    by_fault false [] (c ∷ []) ch true ed ep ea ec eu ne = absurd (ne refl)
    by_fault false [] (c ∷ []) ch false ed ep ea ec eu ne = open_place c ep ea eu
    by_fault false [] (c ∷ c' ∷ cs) ch cov ed ep ea ec eu ne = two_adds c c' cs ea (no_hold ep)
    by_fault false (p ∷ []) [] ch cov ed ep ea ec eu ne = absurd (ne refl)
    by_fault false (p ∷ []) (c ∷ []) true cov ed ep ea ec eu ne = absurd (ne refl)
    by_fault false (p ∷ []) (c ∷ []) false cov ed ep ea ec eu ne = stays p c ep ea ec
    by_fault false (p ∷ []) (c ∷ c' ∷ cs) ch cov ed ep ea ec eu ne = two_adds c c' cs ea (one_hold p ep)

    -- over all counts at ends alone
    reach_start : reach_in D act x Start ≡ in_class D act x Start Positive
    unfolding reach_in in_class required literals_at
    reach_start = refl

    name_start : name_of D act x Start ≡ name_table (leb 2 (length (in_class D act x Start Positive))) (in_class D act x Start Positive) (in_class D act x Start Add)
        (all (changed_by (in_class D act x Start Add) (in_class D act x Start Delete)) (in_class D act x Start Positive)) (all (covered (excluding D act x Start)) D.template)
    name_start =
        name_of_lem D act x Start
        ∙ ap (λ (l : List (Atom Argument)). name_table (leb 2 (length l)) (in_class D act x Start Positive) (in_class D act x Start Add)
        (all (changed_by (in_class D act x Start Add) (in_class D act x Start Delete)) (in_class D act x Start Positive)) (all (covered (excluding D act x Start)) D.template)) reach_start

    pub fault_harms : (fault_by (name_of D act x Start) false ≡ 0 → ⊥) → Harm D (plain_objects D i) (witness_at D act x Start) y ev
    unfolding witness_at required literals_at
    fault_harms ne =
        rw (sym (plain_flat (plain_objects D i) b (literals_at act Start Positive) (plain Positive refl)), name_start)
        (by_fault (leb 2 (length (in_class D act x Start Positive))) (in_class D act x Start Positive) (in_class D act x Start Add) _ _ refl refl refl refl refl (rw name_start at ne))
