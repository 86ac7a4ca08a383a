-- Of an action at once: a class is faulty exactly where its witness does harm, and all harm is of a faulty class. Assumes nothing.
use mathlib.Core.Path.{◌≡◌, refl, sym, ap, ◌∙◌}
use mathlib.Core.Bool.{true, false, ◌&&◌}
use mathlib.Core.Logic.{◌⊎◌, inl, inr}
use mathlib.Core.List.Memᴰ
use mathlib.Core.List.{List, [], ◌∷◌}
use Prim.Native.Nat.{ℕ, ◌≤◌, ◌<◌}
use native.Mathlib.Omega.{arith}
use lib.ListN.{length}
use Rattle.records.specs.Lists.{In, all, any, same_list, distinct, dedup}
use Rattle.records.proofs.Lists.{and_l, and_r, and_i, bool_cases, clash, in_any, any_in, all_in, get_d_in, in_get_d, count_single}
use Rattle.records.proofs.Lists.{single_count, distinct_dedup, dedup_in}
use Rattle.literals.specs.declared.Variable.{Variable}
use Rattle.literals.specs.declared.Object.{Object}
use Rattle.literals.specs.declared.Usage.TheVariants.{Positive}
use Rattle.literals.specs.Domain.{same_object, Fact, same_fact, Action, Domain, action}
use Rattle.literals.specs.declared.Moment.{Moment}
use Rattle.literals.specs.declared.Moment.TheVariants.{Start, End}
use Rattle.classes.specs.declared.Name.{Name}
use Rattle.classes.specs.declared.Name.TheVariants.{Unreachable, Irrelevant, Heavy, Balanced, Unbalanced, Bounded, Unbounded}
use Rattle.literals.specs.Matching.{matches}
use Rattle.classes.specs.Classes.{classes, name_of}
use Rattle.verdict.specs.Binding.{Binding, bind_tuple}
use Rattle.verdict.specs.Decision.{fault_by, class_at, witness_at}
use Rattle.verdict.specs.Machine.{Event, event_facts, required_facts, has_moment, legal, is_open, conditions_hold, allowed, facts_after}
use Rattle.verdict.specs.Machine.{next, start_state, weight, injective}
use Rattle.verdict.specs.Claims.{well_formed_action, well_formed, Harm, plain_objects, plain_instance, plain_event, ClassExactness}
use Rattle.verdict.specs.Claims.{HarmIsOfFaultyClass, has_arity, is_event, is_fact}
use Rattle.verdict.proofs.Equality.{fact_self, objects_eq, objects_self}
use Rattle.verdict.proofs.Steps.{Inv, Act, inv_after, inv_less}
use Rattle.verdict.proofs.Events.{after_in, legal_listed, legal_moment, legal_length, asked_holds, holds_of, quiets_of}
use Rattle.verdict.proofs.Weight.{distinct_after}
use Rattle.verdict.proofs.WellFormed.{action_well_formed, template_well_formed}
use Rattle.verdict.proofs.Acts.{Alive, Harmless, effect, harmless_act, apart_act, instance_has}
use Rattle.verdict.proofs.Objects.{among_of, among_in}
use Rattle.verdict.proofs.Over.{Over, after_over}
use Rattle.verdict.proofs.Exact.{fault_harms}

-- outside a journey's end, bounded moments allowed, what is not faulty is harmless
harmless_fault : (n : Name) → fault_by n false ≡ 0 → Harmless true n
harmless_fault Unreachable z = tt
harmless_fault Irrelevant z = tt
harmless_fault Heavy z = absurd (omega arith)
harmless_fault Balanced z = tt
harmless_fault Unbalanced z = absurd (omega arith)
harmless_fault Bounded z = refl
harmless_fault Unbounded z = absurd (omega arith)

-- the conditions of one allowed event hold
met : (D : Domain) (objs : List Object) (fs : List Fact) (e : Event) → allowed D objs (start_state fs) (e ∷ []) ≡ true
    → conditions_hold D objs (start_state fs).facts e ≡ true
unfolding allowed
met D objs fs e al = and_l _ _ (and_r (all (is_open []) (e ∷ [])) _ (and_l _ _ (and_l _ _ al)))

-- what it asks has at most one fact of an instance that weighs at most one
alive_of : (D : Domain) (objs y : List Object) (fs : List Fact) (e : Event) → weight D y (start_state fs).facts ≤ 1
    → allowed D objs (start_state fs) (e ∷ []) ≡ true
    → Alive (instance_has D objs y) (required_facts D objs e Positive)
unfolding weight
alive_of D objs y fs e w al f g mf mg ef eg =
    let h = asked_holds D objs (start_state fs).facts e (met D objs fs e al) in
    count_single (matches D y) (start_state fs).facts w f g (h.yes f mf) (h.yes g mg) (and_l _ _ ef) (and_l _ _ eg)

-- one event that starts and ends no journey keeps the weight at most one
one_event : (D : Domain) → well_formed D ≡ true → (objs : List Object) (y : List Object) (fs : List Fact) (e : Event)
    → all (is_fact D objs) fs ≡ true → is_event D objs e ≡ true → Act (instance_has D objs y) true (event_facts D objs e) 0 0
    → weight D y (start_state fs).facts ≤ 1 → allowed D objs (start_state fs) (e ∷ []) ≡ true
    → weight D y (next D objs (start_state fs) (e ∷ [])).facts ≤ 1
unfolding weight next
one_event D wf objs y fs e fo ev act w al =
    single_count (matches D y) same_fact fact_self (facts_after D objs s (e ∷ []))
    (distinct_after D objs s (e ∷ []) (distinct_dedup same_fact fs))
    (λ f g m n t q. after.single f g m n (fits f m t) (fits g n q))
  where
    s : List Fact
    s = dedup same_fact fs

    holds : all (conditions_hold D objs s) (e ∷ []) ≡ true
    holds = and_i (met D objs fs e al) refl

    before : Inv (instance_has D objs y) true (λ f. In f s) 0
    before =
        record {
          single = λ f g m n t q. count_single (matches D y) s w f g m n (and_l _ _ t)
              (and_l _ _ q);
          free = λ f m t. refl;
          few = omega arith;
          none_open = λ _. refl;
        }

    start_over : (f : Fact) → In f s → Over objs f
    start_over f m =
        among_in objs f.args (and_r (has_arity D f.rel f.args) _ (all_in (is_fact D objs) fs fo (dedup_in same_fact fs m)))

    fits : (f : Fact) → In f (facts_after D objs s (e ∷ [])) → matches D y f ≡ true → instance_has D objs y f ≡ true
    fits f m t =
        and_i t (among_of objs f.args
        (after_over D wf objs s (e ∷ []) (λ d i. ap (is_event D objs) (Memᴰ.eq_of_singleton i) ∙ ev) start_over f m))

    same : (d : Event) → d ≡ e → Act (instance_has D objs y) true (event_facts D objs d) 0 0
    same d q = rw q act

    after : Inv (instance_has D objs y) true (λ f. In f (facts_after D objs s (e ∷ []))) 0
    after = inv_less (instance_has D objs y) true (after_in D objs s (e ∷ []))
        (inv_after (instance_has D objs y) true (event_facts D objs) (λ _. 0) (λ _. 0) (λ f. In f s) (e ∷ []) 0 0 before
        (λ d m. holds_of D objs s d (all_in (conditions_hold D objs s) (e ∷ []) holds m)) (quiets_of D objs (e ∷ []) refl)
        (λ d m. same d (Memᴰ.eq_of_singleton m)) (omega arith) (omega arith))

module _ (D : Domain) (wf : well_formed D ≡ true) (objs : List Object) (fs : List Fact) (y : List Object) (e : Event) (h : Harm D objs fs y e) where
  abbrev a : Action
  a = action D e.act.action

  abbrev b : Binding
  b = e.act.binding

  is_legal : legal D e ≡ true
  is_legal = and_l _ _ (and_l _ _ h.event)

  dis : distinct same_object b ≡ true
  dis = and_r (legal D e) _ (and_l _ _ h.event)

  pub harm_listed : e.act.action < length D.actions
  harm_listed = legal_listed D e is_legal

  len : length b ≡ a.vars
  len = legal_length D e is_legal

  ok : well_formed_action D a ≡ true
  ok = action_well_formed D wf e.act.action harm_listed

  inside : (o : Object) → In o b → In o objs
  inside = among_in objs b (and_r (legal D e && injective e) _ h.event)

  -- the event is not one that keeps the weight
  not_kept : Act (instance_has D objs y) true (effect objs a b e.moment) 0 0 → ⊥
  unfolding event_facts
  not_kept act = let w = one_event D wf objs y fs e h.facts_over h.event act h.before h.can in let z = h.after in omega arith

  faulty : (x : List Variable) → In x (classes D a) → bind_tuple b x ≡ y → fault_by (name_of D a x e.moment) false ≡ 0 → ⊥
  unfolding required_facts
  faulty x hx ex z =
      not_kept (harmless_act D a ok objs b len dis inside y x hx ex e.moment true (template_well_formed D wf) 0 0
      (alive_of D objs y fs e h.before h.can) refl refl (harmless_fault (name_of D a x e.moment) z))

  -- some class is bound to the instance
  bound : (x : List Variable) × In x (classes D a) × (bind_tuple b x ≡ y)
  bound = go (bool_cases (any (λ x. same_list same_object (bind_tuple b x) y) (classes D a)))
    where
      go : (any (λ x. same_list same_object (bind_tuple b x) y) (classes D a) ≡ true) ⊎ (any (λ x. same_list same_object (bind_tuple b x) y) (classes D a) ≡ false)
          → (x : List Variable) × In x (classes D a) × (bind_tuple b x ≡ y)
      go (inl t) = let r = any_in (λ x. same_list same_object (bind_tuple b x) y) (classes D a) t in (r.0, r.1, objects_eq _ y r.2)
      go (inr f) = absurd (not_kept (apart_act D a ok objs b len dis inside y true 0 0 e.moment refl refl
          (λ x hx ex. clash (in_any (λ x. same_list same_object (bind_tuple b x) y) hx (rw ex (objects_self y))) f)))

start_only : (a : Action) (m : Moment) → has_moment a m ≡ true → a.lasting ≡ false → m ≡ Start
start_only a Start h l = refl
start_only a End h l = absurd (clash h l)

pub harm_of_faulty_class : HarmIsOfFaultyClass
unfolding class_at
harm_of_faulty_class D wf objs fs y e h once =
    let r = bound D wf objs fs y e h in
    let k = in_get_d (classes D (action D e.act.action)) [] r.1 in
    let a = action D e.act.action in
    let m : e.moment ≡ Start = start_only (action D e.act.action) e.moment (legal_moment D e (is_legal D wf objs fs y e h)) once in (
      k.0,
      record { listed = harm_listed D wf objs fs y e h; at_once_lem = once; numbered = k.1 },
      ap (bind_tuple e.act.binding) k.2 ∙ r.2,
      λ z. faulty D wf objs fs y e h r.0 r.1 r.2 (ap (λ n. fault_by (name_of D a r.0 n) false) m ∙ ap (λ x. fault_by (name_of D a x Start) false) (sym k.2) ∙ z),
    )

pub class_listed : (D : Domain) (i j : ℕ) → j < length (classes D (action D i)) → In (class_at D i j) (classes D (action D i))
unfolding class_at
class_listed D i j h = get_d_in (classes D (action D i)) j [] h

pub class_exactness : ClassExactness
class_exactness D wf i j c =
    let listed = class_listed D i j c.numbered in (
      λ ne. fault_harms D wf i c.listed (class_at D i j) listed ne,
      λ h z. faulty D wf (plain_objects D i) (witness_at D (action D i) (class_at D i j) Start) (plain_instance D i j) (plain_event D i) h (class_at D i j) listed refl z,
    )
