-- Safety: an accepted template keeps every instance at weight at most one, in every state that a run reaches; and under verdict 1 weight and open journeys together never rise.
-- Assumes nothing.
use mathlib.Core.Path.{◌≡◌, refl, sym, ap, ◌∙◌}
use mathlib.Core.Bool.{Bool, true, false, ◌&&◌, cond}
use mathlib.Core.Logic.{◌⊎◌, inl, inr}
use mathlib.Core.Option.{Option, none, some}
use mathlib.Core.List.Memᴰ
use mathlib.Core.List.{List, [], ◌∷◌, ◌++◌, map}
use Prim.Native.Nat.{ℕ, zero, suc, ◌+◌, ◌≤◌, ◌<◌}
use native.Mathlib.Omega.{arith}
use lib.ListN.{length}
use borrow.Author.Tests.{le-leb}
use Rattle.records.specs.Lists.{In, all, any, count_by, same_list, distinct, dedup}
use Rattle.records.proofs.Lists.{and_l, and_r, and_i, bool_cases, clash, in_any, any_in, all_in, all_of, dedup_in, count_pos, count_none}
use Rattle.records.proofs.Lists.{count_some, count_single, single_count, distinct_dedup}
use Rattle.literals.specs.declared.Variable.{Variable}
use Rattle.literals.specs.declared.Object.{Object}
use Rattle.literals.specs.declared.Usage.TheVariants.{Positive}
use Rattle.literals.specs.Domain.{same_variable, same_object, Fact, same_fact, Action, Domain, action}
use Rattle.literals.specs.declared.Moment.{Moment}
use Rattle.literals.specs.declared.Moment.TheVariants.{Start, End}
use Rattle.literals.specs.Matching.{matches}
use Rattle.classes.specs.Classes.{classes, name_of, journey}
use Rattle.classes.proofs.Members.{classes_distinct}
use Rattle.verdict.specs.Binding.{Binding, bind_tuple}
use Rattle.verdict.specs.Decision.{Row, journey_end_at, rows, decision}
use Rattle.verdict.specs.Judged.{answer_row, decided}
use Rattle.verdict.specs.Machine.{GroundAction, Event, State, same_event, event_facts, required_facts, has_moment, legal, legal_step, injective, is_open, conditions_hold, over_all_hold, independent, allowed, facts_after, close_all, opened_by, next, start_state, run, weight}
use Rattle.verdict.specs.Claims.{well_formed_action, well_formed, among, is_event, Chosen, Safe, Safety, journeys_for, total, never_rising}
use Rattle.verdict.specs.Claims.{NeverRises}
use Rattle.verdict.proofs.Equality.{fact_self, variables_self, objects_eq, objects_self}
use Rattle.verdict.proofs.Steps.{Inv, Act, sum, inv_after, inv_less, none_after}
use Rattle.verdict.proofs.Events.{after_in, legal_listed, legal_moment, legal_length, asked_holds, holds_of, quiets_of}
use Rattle.verdict.proofs.Objects.{among_of, among_in}
use Rattle.verdict.proofs.Weight.{distinct_after}
use Rattle.verdict.proofs.WellFormed.{action_well_formed, template_well_formed}
use Rattle.verdict.proofs.Acts.{instance_has, Alive, Harmless, journey_lasts, journey_of, one_class, harmless_act, apart_act}
use Rattle.verdict.proofs.Acts.{start_act, end_act}
use Rattle.verdict.proofs.Over.{Over, after_over}
use Rattle.verdict.proofs.Open.{ends_at, starts_at, ends, starts, close_all_sum, running_sum}
use Rattle.verdict.proofs.Rows.{RowOf, row_of_lem, fine_rows, harmless_of}

-- ---- the journeys of an entry

abbrev journey_for : Domain → List Object → GroundAction → List Variable → Bool
journey_for D y g x = journey D (action D g.action) x && same_list same_object (bind_tuple g.binding x) y

-- x is a journey of the entry g that belongs to the instance y
pub record BoundJourney (D : Domain) (y : List Object) (g : GroundAction) (x : List Variable) : Type 0 where
  pub listed : In x (classes D (action D g.action))
  pub is_journey : journey D (action D g.action) x ≡ true
  pub bound : bind_tuple g.binding x ≡ y

module _ (D : Domain) (y : List Object) (g : GroundAction) where
  bound_of : (x : List Variable) → In x (classes D (action D g.action)) → journey_for D y g x ≡ true → BoundJourney D y g x
  bound_of x m t = record { listed = m; is_journey = and_l _ _ t; bound = objects_eq _ y (and_r (journey D (action D g.action) x) _ t) }

  bound_test : (x : List Variable) → BoundJourney D y g x → journey_for D y g x ≡ true
  bound_test x j = and_i j.is_journey (rw j.bound (objects_self y))

  pub journeys_none : ((x : List Variable) → BoundJourney D y g x → ⊥) → journeys_for D y g ≡ 0
  unfolding journeys_for
  journeys_none h = count_none (journey_for D y g) (classes D (action D g.action)) (λ x m t. h x (bound_of x m t))

  -- an entry has one such journey where at most one of its classes is bound to the instance
  pub journeys_one : ((x z : List Variable) → BoundJourney D y g x → BoundJourney D y g z → x ≡ z) → (x : List Variable) → BoundJourney D y g x → journeys_for D y g ≡ 1
  unfolding journeys_for
  journeys_one one x j =
      let le : count_by (journey_for D y g) (classes D (action D g.action)) ≤ 1
      = single_count (journey_for D y g) (same_list same_variable) variables_self (classes D (action D g.action)) (classes_distinct D (action D g.action))
      (λ u w m n s t. one u w (bound_of u m s) (bound_of w n t)) in
      let ge : 1 ≤ count_by (journey_for D y g) (classes D (action D g.action)) = count_pos (journey_for D y g) j.listed (bound_test x j) in
      omega arith

-- the journeys that count; v: verdict 0, where none needs to
unfoldable pub measure : Bool → Domain → List Object → GroundAction → ℕ
unfolding journeys_for
measure v D y g = cond v 0 (journeys_for D y g)

-- ---- a step that somebody chooses

pub record InjectiveStep (D : Domain) (objs : List Object) (es : List Event) : Type 0 where
  pub legal_events : all (legal D) es ≡ true
  pub different : distinct same_event es ≡ true
  pub injective_events : all injective es ≡ true
  pub events_over : all (λ (e : Event). among objs e.act.binding) es ≡ true

module _ (D : Domain) (wf : well_formed D ≡ true) (v : Bool) (acc : (decision D).number ≡ cond v 0 1) (objs : List Object)
    (y : List Object) where
  abbrev c : GroundAction → ℕ
  c = measure v D y

  none_counted : (g : GroundAction) → (v ≡ false → (x : List Variable) → BoundJourney D y g x → ⊥) → c g ≡ 0
  unfolding measure
  none_counted g h = go v (λ f. journeys_none D y g (h f))
    where
      go : (v : Bool) → (v ≡ false → journeys_for D y g ≡ 0) → cond v 0 (journeys_for D y g) ≡ 0
      go true h = refl
      go false h = h refl

  one_counted : (g : GroundAction) → v ≡ false → ((x z : List Variable) → BoundJourney D y g x → BoundJourney D y g z → x ≡ z)
      → (x : List Variable) → BoundJourney D y g x → c g ≡ 1
  unfolding measure
  one_counted g vf one x j = rw vf (journeys_one D y g one x j)

  not_lasting : (g : GroundAction) → (action D g.action).lasting ≡ false → c g ≡ 0
  not_lasting g h = none_counted g (λ _ x j. clash (journey_lasts D (action D g.action) x j.is_journey) h)

  none_starts : (m : Moment) (g : GroundAction) → c g ≡ 0 → starts_at c m g ≡ 0
  none_starts Start g h = h
  none_starts End g h = refl

  none_ends : (m : Moment) (g : GroundAction) → c g ≡ 0 → ends_at c m g ≡ 0
  none_ends Start g h = refl
  none_ends End g h = h

  end_only : (a : Action) (x : List Variable) (m : Moment) → journey D a x ≡ false → journey_end_at D a x m ≡ false
  end_only a x Start h = refl
  end_only a x End h = h

  harmless_row : (a : Action) (x : List Variable) (m : Moment) → RowOf D a x m (rows D) → (v ≡ false → journey D a x ≡ false) → Harmless v (name_of D a x m)
  harmless_row a x m r j = harmless_of v (name_of D a x m) (journey_end_at D a x m) (fine_rows D v acc _ r.2) (λ vf. end_only a x m (j vf))

  -- what an event of the domain does to the instance, where what it asks has at most one fact of the instance
  event_act : (m : Moment) (g : GroundAction) → legal D (record { moment = m; act = g }) ≡ true → distinct same_object g.binding ≡ true
      → among objs g.binding ≡ true
      → Alive (instance_has D objs y) (required_facts D objs (record { moment = m; act = g }) Positive)
      → Act (instance_has D objs y) v (event_facts D objs (record { moment = m; act = g })) (starts_at c m g) (ends_at c m g)
  unfolding event_facts required_facts
  event_act m g h dis over alive = by_class (bool_cases (any (λ x. same_list same_object (bind_tuple b x) y) (classes D a)))
    where
      a : Action
      a = action D g.action

      b : Binding
      b = g.binding

      e : Event
      e = record { moment = m; act = g }

      idx : g.action < length D.actions
      idx = legal_listed D e h

      has : has_moment a m ≡ true
      has = legal_moment D e h

      len : length b ≡ a.vars
      len = legal_length D e h

      ok : well_formed_action D a ≡ true
      ok = action_well_formed D wf g.action idx

      inside : (o : Object) → In o b → In o objs
      inside = among_in objs b over

      one : (x z : List Variable) → BoundJourney D y g x → BoundJourney D y g z → x ≡ z
      one x z j k = one_class D a ok objs b len dis inside y x z j.listed k.listed j.bound k.bound

      at_journey : (m : Moment) (x : List Variable) → BoundJourney D y g x → v ≡ false
          → Act (instance_has D objs y) v (event_facts D objs (record { moment = m; act = g })) (starts_at c m g) (ends_at c m g)
      at_journey Start x j vf =
          start_act D a ok objs b len dis inside y x j.listed j.bound (journey_of D a x j.is_journey) v _ _ vf
          (one_counted g vf one x j) refl
      at_journey End x j vf =
          end_act D a ok objs b len dis inside y x j.listed j.bound (journey_of D a x j.is_journey) v _ _ refl
          (one_counted g vf one x j)

      elsewhere : (x : List Variable) → In x (classes D a) → bind_tuple b x ≡ y → (v ≡ false → journey D a x ≡ false)
          → Act (instance_has D objs y) v (event_facts D objs (record { moment = m; act = g })) (starts_at c m g) (ends_at c m g)
      elsewhere x hx ex nj =
          let z : c g ≡ 0 = none_counted g (λ vf u j.
          clash (sym (ap (journey D a) (one_class D a ok objs b len dis inside y u x j.listed hx j.bound ex)) ∙ j.is_journey)
          (nj vf)) in
          harmless_act D a ok objs b len dis inside y x hx ex m v (template_well_formed D wf) _ _ alive (none_starts m g z)
          (none_ends m g z)
          (harmless_row a x m (row_of_lem D g.action x m idx has hx) nj)

      by_journey : (x : List Variable) → In x (classes D a) → bind_tuple b x ≡ y → (v ≡ true) ⊎ (v ≡ false) → (journey D a x ≡ true) ⊎ (journey D a x ≡ false)
          → Act (instance_has D objs y) v (event_facts D objs (record { moment = m; act = g })) (starts_at c m g) (ends_at c m g)
      by_journey x hx ex (inl vt) j = elsewhere x hx ex (λ vf. absurd (clash vt vf))
      by_journey x hx ex (inr vf) (inl t) = at_journey m x (record { listed = hx; is_journey = t; bound = ex }) vf
      by_journey x hx ex (inr vf) (inr f) = elsewhere x hx ex (λ _. f)

      by_class : (any (λ x. same_list same_object (bind_tuple b x) y) (classes D a) ≡ true) ⊎ (any (λ x. same_list same_object (bind_tuple b x) y) (classes D a) ≡ false)
          → Act (instance_has D objs y) v (event_facts D objs (record { moment = m; act = g })) (starts_at c m g) (ends_at c m g)
      by_class (inl t) =
          let r = any_in (λ x. same_list same_object (bind_tuple b x) y) (classes D a) t in
          by_journey r.0 r.1 (objects_eq _ y r.2) (bool_cases v) (bool_cases (journey D a r.0))
      by_class (inr f) =
          let none : (x : List Variable) → In x (classes D a) → bind_tuple b x ≡ y → ⊥
          = λ x hx ex. clash (in_any (λ x. same_list same_object (bind_tuple b x) y) hx (rw ex (objects_self y))) f in
          let z : c g ≡ 0 = none_counted g (λ _ x j. none x j.listed j.bound) in
          apart_act D a ok objs b len dis inside y v _ _ m (none_starts m g z) (none_ends m g z) none

  -- ---- states

  -- each fact once, all over the chosen objects, and at most one fact of the instance or open journey of its
  pub record Guarded (s : State) : Type 0 where
    pub facts_once : distinct same_fact s.facts ≡ true
    pub facts_over : (f : Fact) → In f s.facts → Over objs f
    pub inv : Inv (instance_has D objs y) v (λ f. In f s.facts) (sum c s.running)

  -- what an allowed step gives the argument
  record Taken (s : State) (es : List Event) : Type 0 where
    conditions : all (conditions_hold D objs s.facts) es ≡ true
    apart : independent D objs es ≡ true
    acts : (e : Event) → In e es → Act (instance_has D objs y) v (event_facts D objs e) (starts c e) (ends c e)
    ended : sum c (close_all es s.running) + sum (ends c) es ≡ sum c s.running
    moved : sum c (close_all es s.running ++ opened_by D es) + sum (ends c) es ≡ sum c s.running + sum (starts c) es

  -- the over-all conditions of an end are used here, in the state that the step is taken from: `alive`
  taken : (s : State) (es : List Event) → InjectiveStep D objs es → allowed D objs s es ≡ true → Guarded s → Taken s es
  unfolding allowed
  taken s es l al k =
      let op : (e : Event) → In e es → is_open s.running e ≡ true = λ e m. all_in (is_open s.running) es (and_l _ _ (and_l _ _ (and_l _ _ al))) m in
      let met : all (conditions_hold D objs s.facts) es ≡ true = and_r (all (is_open s.running) es) _ (and_l _ _ (and_l _ _ al)) in
      let alive : (e : Event) → In e es → Alive (instance_has D objs y) (required_facts D objs e Positive)
      = λ e m. let h = asked_holds D objs s.facts e (all_in (conditions_hold D objs s.facts) es met m) in
      λ f g mf mg. k.inv.single f g (h.yes f mf) (h.yes g mg) in
      record {
        conditions = met;
        apart =
            and_r (all (is_open s.running) es && all (conditions_hold D objs s.facts) es
            && all (over_all_hold D objs s.facts) s.running) _ al;
        acts =
            λ e m. event_act e.moment e.act (all_in (legal D) es l.legal_events m) (all_in injective es l.injective_events m)
            (all_in (λ (e : Event). among objs e.act.binding) es l.events_over m) (alive e m);
        ended = close_all_sum c es s.running op l.different;
        moved = running_sum c D not_lasting es s.running op l.different;
      }

  over_next : (s : State) (es : List Event) → InjectiveStep D objs es → ((f : Fact) → In f s.facts → Over objs f) → (f : Fact)
      → In f (facts_after D objs s.facts es) → Over objs f
  over_next s es l k =
      after_over D wf objs s.facts es
      (λ e m. and_i (and_i (all_in (legal D) es l.legal_events m) (all_in injective es l.injective_events m))
      (all_in (λ (e : Event). among objs e.act.binding) es l.events_over m)) k

  -- a fact of a guarded state that the instance matches
  fits : (f : Fact) → Over objs f → matches D y f ≡ true → instance_has D objs y f ≡ true
  fits f over t = and_i t (among_of objs f.args over)

  guarded_next : (s : State) (es : List Event) → InjectiveStep D objs es → allowed D objs s es ≡ true → Guarded s
      → Guarded (next D objs s es)
  unfolding next
  guarded_next s es l al k =
      let t = taken s es l al k in
      let ended = t.ended in
      record {
        facts_once = distinct_after D objs s.facts es k.facts_once;
        facts_over = over_next s es l k.facts_over;
        inv = inv_less (instance_has D objs y) v (after_in D objs s.facts es)
            (inv_after (instance_has D objs y) v (event_facts D objs) (starts c) (ends c) (λ f. In f s.facts) es (sum c s.running)
            (sum c (close_all es s.running ++ opened_by D es)) k.inv
            (λ e m. holds_of D objs s.facts e (all_in (conditions_hold D objs s.facts) es t.conditions m))
            (quiets_of D objs es t.apart) t.acts (omega arith) t.moved);
      }

  guarded_weight : (s : State) → Guarded s → weight D y s.facts ≤ 1
  unfolding weight
  guarded_weight s k = single_count (matches D y) same_fact fact_self s.facts k.facts_once
      (λ f g m n e q. k.inv.single f g m n (fits f (k.facts_over f m) e) (fits g (k.facts_over g n) q))

  guarded_start : (fs : List Fact) → all (λ (f : Fact). among objs f.args) fs ≡ true → weight D y (start_state fs).facts ≤ 1
      → Guarded (start_state fs)
  unfolding weight
  guarded_start fs over w = record {
    facts_once = distinct_dedup same_fact fs;
    facts_over = λ f m. among_in objs f.args (all_in (λ (f : Fact). among objs f.args) fs over (dedup_in same_fact fs m));
    inv =
        record {
          single = λ f g m n e q. count_single (matches D y) (dedup same_fact fs) w f g m n (and_l _ _ e)
              (and_l _ _ q);
          free = λ f i t. refl;
          few = omega arith;
          none_open = λ _. refl;
        };
  }

  guarded_run : (s : State) (steps : List (List Event)) → ((es : List Event) → In es steps → InjectiveStep D objs es) → Guarded s
      → (r : State) → In r (run D objs s steps) → Guarded r
  unfolding run
  guarded_run s [] l k r (Memᴰ.head e) = rw e k
  guarded_run s [] l k r (Memᴰ.tail m) = absurd (Memᴰ.not-nil m)
  guarded_run s (es ∷ rest) l k r (Memᴰ.head e) = rw e k
  guarded_run s (es ∷ rest) l k r (Memᴰ.tail m) =
      go (allowed D objs s es) refl
      (λ al i. guarded_run (next D objs s es) rest (λ ds n. l ds (Memᴰ.tail n))
      (guarded_next s es (l es (Memᴰ.head refl)) al k) r i) m
    where
      go : (b : Bool) → allowed D objs s es ≡ b → (allowed D objs s es ≡ true → In r (run D objs (next D objs s es) rest) → Guarded r)
          → In r (cond b (run D objs (next D objs s es) rest) []) → Guarded r
      go true e ih m = ih e m
      go false e ih m = absurd (Memᴰ.not-nil m)

  -- ---- verdict 1

  abbrev pub counted : State → ℕ
  counted s = weight D y s.facts + sum c s.running

  counted_few : (s : State) → Guarded s → counted s ≤ 1
  unfolding weight
  counted_few s k = go (guarded_weight s k) (either (count_by (matches D y) s.facts) refl)
    where
      either : (n : ℕ) → count_by (matches D y) s.facts ≡ n → (count_by (matches D y) s.facts ≡ 0) ⊎ (sum c s.running ≡ 0)
      either zero e = inl e
      either (suc n) e =
          let r = count_some (matches D y) s.facts (omega arith) in inr
          (k.inv.free r.0 r.1 (fits r.0 (k.facts_over r.0 r.1) r.2))

      go : count_by (matches D y) s.facts ≤ 1 → (count_by (matches D y) s.facts ≡ 0) ⊎ (sum c s.running ≡ 0)
          → count_by (matches D y) s.facts + sum c s.running ≤ 1
      go w (inl z) = let f = k.inv.few in omega arith
      go w (inr z) = omega arith

  counted_next : v ≡ false → (s : State) (es : List Event) → InjectiveStep D objs es → allowed D objs s es ≡ true → Guarded s
      → counted (next D objs s es) ≤ counted s
  unfolding next weight
  counted_next vf s es l al k = go (counted s) refl
    where
      go : (n : ℕ) → counted s ≡ n → counted (next D objs s es) ≤ counted s
      go (suc n) e = let f = counted_few (next D objs s es) (guarded_next s es l al k) in omega arith
      go zero e =
          let t = taken s es l al k in
          let ended = t.ended in
          let moved = t.moved in
          let na =
          none_after (instance_has D objs y) v (event_facts D objs) (starts c) (ends c) (λ f. In f s.facts) es vf
          (λ f m t. let p = count_pos (matches D y) m (and_l _ _ t) in omega arith)
          (λ e m. holds_of D objs s.facts e (all_in (conditions_hold D objs s.facts) es t.conditions m)) t.acts (omega arith) in
          let z =
          count_none (matches D y) (facts_after D objs s.facts es)
          (λ f m t. na.0 f (after_in D objs s.facts es f m) (fits f (over_next s es l k.facts_over f m) t)) in
          let j = na.1 in
          omega arith

  total_counted : v ≡ false → (s : State) → total D y s ≡ counted s
  unfolding total measure
  total_counted vf s = rw vf refl

  never_rising_cons : (n : ℕ) (s : State) (steps : List (List Event)) → total D y s ≤ n
      → never_rising (map (total D y) (run D objs s steps)) ≡ true
      → never_rising (n ∷ map (total D y) (run D objs s steps)) ≡ true
  unfolding run
  never_rising_cons n s [] le h = and_i (le-leb (total D y s) n le) h
  never_rising_cons n s (es ∷ rest) le h = and_i (le-leb (total D y s) n le) h

  never_rising_run : v ≡ false → (s : State) (steps : List (List Event)) → ((es : List Event) → In es steps → InjectiveStep D objs es)
      → Guarded s
      → never_rising (map (total D y) (run D objs s steps)) ≡ true
  unfolding run
  never_rising_run vf s [] l k = refl
  never_rising_run vf s (es ∷ rest) l k =
      go (allowed D objs s es) refl
      (λ al. never_rising_run vf (next D objs s es) rest (λ ds n. l ds (Memᴰ.tail n))
      (guarded_next s es (l es (Memᴰ.head refl)) al k))
    where
      falls : allowed D objs s es ≡ true → total D y (next D objs s es) ≤ total D y s
      falls al =
          let f = counted_next vf s es (l es (Memᴰ.head refl)) al k in
          let p = total_counted vf s in
          let q = total_counted vf (next D objs s es) in omega arith

      go : (b : Bool) → allowed D objs s es ≡ b
          → (allowed D objs s es ≡ true → never_rising (map (total D y) (run D objs (next D objs s es) rest)) ≡ true)
          → never_rising (total D y s ∷ map (total D y) (cond b (run D objs (next D objs s es) rest) [])) ≡ true
      go true e ih = never_rising_cons (total D y s) (next D objs s es) rest (falls e) (ih e)
      go false e ih = refl

-- ---- the claims

pub decided_number : (D : Domain) → (decided D).number ≡ (decision D).number
unfolding decided
decided_number D = go (decision D).number (decision D).place
  where
    go : (n : ℕ) (o : Option Row) → (answer_row n o).number ≡ n
    go n none = refl
    go n (some r) = refl

pub steps_injective : (D : Domain) (objs : List Object) (fs : List Fact) (y : List Object) (steps : List (List Event)) → Chosen D objs fs y steps
    → (es : List Event) → In es steps → InjectiveStep D objs es
unfolding legal_step
steps_injective D objs fs y steps ch es m =
    let l = all_in (legal_step D) steps ch.steps_legal m in
    let ev = all_in (all (is_event D objs)) steps ch.events m in
    record {
      legal_events = and_l _ _ l;
      different = and_r (all (legal D) es) _ l;
      injective_events = all_of injective es (λ e n. and_r (legal D e) _ (and_l _ _ (all_in (is_event D objs) es ev n)));
      events_over =
          all_of (λ (e : Event). among objs e.act.binding) es
          (λ e n. and_r (legal D e && injective e) _ (all_in (is_event D objs) es ev n));
    }

safe : (D : Domain) → well_formed D ≡ true → (v : Bool) → (decision D).number ≡ cond v 0 1 → Safe D
safe D wf v acc objs fs y steps ch w s m =
    guarded_weight D wf v acc objs y s
    (guarded_run D wf v acc objs y (start_state fs) steps (steps_injective D objs fs y steps ch)
    (guarded_start D wf v acc objs y fs ch.facts_over w) s m)

pub safety : Safety
safety D wf (inl z) = safe D wf true (sym (decided_number D) ∙ z)
safety D wf (inr z) = safe D wf false (sym (decided_number D) ∙ z)

pub never_rises : NeverRises
never_rises D wf z objs fs y steps ch w =
    let acc : (decision D).number ≡ 1 = sym (decided_number D) ∙ z in
    never_rising_run D wf false acc objs y refl (start_state fs) steps (steps_injective D objs fs y steps ch)
    (guarded_start D wf false acc objs y fs ch.facts_over w)
