-- The engine says yes exactly where the class is heavy, unbalanced or unbounded. Assumes nothing.
use mathlib.Core.Path.{◌≡◌, refl, sym, ap, ◌∙◌}
use mathlib.Core.Bool.{Bool, true, false, ◌&&◌, false≢true}
use mathlib.Core.Logic.{◌⊎◌, inl, inr}
use mathlib.Core.List.Memᴰ
use mathlib.Core.List.{List, [], ◌∷◌, ◌++◌, map, append-nil}
use Prim.Native.Nat.{ℕ, suc, ◌<◌}
use native.Mathlib.Omega.{arith}
use lib.Dec.{leb}
use lib.ListN.{length}
use borrow.Author.Tests.{leb-true, le-leb, eq-eqb}
use Rattle.records.specs.Lists.{In, all}
use Rattle.records.proofs.Lists.{and_l, and_r, and_i, bool_cases, off, all_of, all_append, any_in, in_any}
use Rattle.literals.specs.declared.Variable.{Variable}
use Rattle.literals.specs.declared.Object.{Object}
use Rattle.literals.specs.declared.Argument.{Argument}
use Rattle.literals.specs.declared.Usage.TheVariants.{Positive}
use Rattle.literals.specs.declared.Moment.TheVariants.{Start}
use Rattle.literals.specs.Domain.{Atom, Fact, Component, keys_of, Domain, action}
use Rattle.literals.specs.Matching.{literals_at, required}
use Rattle.classes.specs.declared.Name.{Name}
use Rattle.classes.specs.declared.Name.TheVariants.{Unreachable, Irrelevant, Heavy, Balanced, Unbalanced, Bounded, Unbounded}
use Rattle.classes.specs.Classes.{classes, excluding, covered, name_of}
use Rattle.verdict.specs.Binding.{bind_tuple, bind, same_numbers, spare}
use Rattle.verdict.specs.Decision.{fault_by, class_at, instance_fact, first_uncovered, witness_by, witness_at}
use Rattle.verdict.specs.Machine.{required_facts, allowed, start_state, weight}
use Rattle.verdict.specs.Claims.{is_instance, is_fact, well_formed_template, well_formed, Harm, plain_objects, plain_instance, plain_event}
use Rattle.verdict.specs.Claims.{ClassAtOnce, FaultyClass}
use Rattle.verdict.proofs.WellFormed.{action_well_formed, template_well_formed}
use Rattle.verdict.proofs.Objects.{among_of, objects_length, object_in, objects_distinct}
use Rattle.verdict.proofs.Acts.{one_class}
use Rattle.verdict.proofs.Exact.{bound_in, plain, held_fact, ev_legal, size, over}
use Rattle.verdict.proofs.Facts.{plain_flat}
use Rattle.verdict.proofs.Harm.{class_listed, class_exactness, harm_of_faulty_class}
use Rattle.trying.specs.Trying.{held_facts, instance_facts, sets, breaks, tries}
use Rattle.trying.specs.Claims.{is_harmful, TryingExact}
use Rattle.trying.proofs.Further.{in_further, further_fits}

-- ---- the names

fault_harmful : (n : Name) → (fault_by n false ≡ 0 → ⊥) → is_harmful n ≡ true
fault_harmful Unreachable ne = absurd (ne refl)
fault_harmful Irrelevant ne = absurd (ne refl)
fault_harmful Heavy ne = refl
fault_harmful Balanced ne = absurd (ne refl)
fault_harmful Unbalanced ne = refl
fault_harmful Bounded ne = absurd (ne refl)
fault_harmful Unbounded ne = refl

harmful_fault : (n : Name) → is_harmful n ≡ true → fault_by n false ≡ 0 → ⊥
harmful_fault Unreachable h z = false≢true h
harmful_fault Irrelevant h z = false≢true h
harmful_fault Heavy h z = omega arith
harmful_fault Balanced h z = false≢true h
harmful_fault Unbalanced h z = omega arith
harmful_fault Bounded h z = false≢true h
harmful_fault Unbounded h z = omega arith

-- ---- the witness of a faulty class is one of the sets

-- at most one component is listed first
abbrev FirstFew : List (Atom Argument) → List Component → Type 0
FirstFew ps cs = (first_uncovered ps cs ≡ []) ⊎ ((u : Component) × In u cs × (first_uncovered ps cs ≡ u ∷ []))

first_few : (ps : List (Atom Argument)) (cs : List Component) → FirstFew ps cs
first_few ps [] = inl refl
first_few ps (c ∷ cs) = go (covered ps c) refl (first_few ps cs)
  where
    go : (b : Bool) → covered ps c ≡ b → FirstFew ps cs → FirstFew ps (c ∷ cs)
    go true e (inl h) = inl (rw e h)
    go true e (inr h) = inr (h.0, Memᴰ.tail h.1, rw e h.2)
    go false e h = inr (c, Memᴰ.head refl, rw e)

module _ (D : Domain) (wf : well_formed D ≡ true) (i : ℕ) (idx : i < length D.actions) where
  ok_t : well_formed_template D ≡ true
  ok_t = template_well_formed D wf

  module _ (y : List Object) where
    -- the facts that the engine adds one of
    abbrev pub added : List Fact
    added = instance_facts D (plain_objects D i) y

    pub conditions_set : In (held_facts D i) (sets D i y)
    unfolding sets
    conditions_set = Memᴰ.head refl

    pub further_set : (f : Fact) → In f added → In (held_facts D i ++ (f ∷ [])) (sets D i y)
    unfolding sets
    further_set f m = Memᴰ.tail (Memᴰ.map (λ f. held_facts D i ++ (f ∷ [])) m)

    abbrev pub SetCases : List Fact → Type 0
    SetCases fs = (fs ≡ held_facts D i) ⊎ ((f : Fact) × In f added × (fs ≡ held_facts D i ++ (f ∷ [])))

    pub sets_cases : (fs : List Fact) → In fs (sets D i y) → SetCases fs
    unfolding sets
    sets_cases fs (Memᴰ.head e) = inl e
    sets_cases fs (Memᴰ.tail m) =
        let r = Memᴰ.of_map (λ f. held_facts D i ++ (f ∷ [])) added m in inr (r.0, r.1, sym r.2)

    spare_listed : In (spare (action D i)) (plain_objects D i)
    spare_listed = object_in 0 (suc (action D i).vars) (spare (action D i)) (omega arith) (omega arith)

    -- the witness's further fact: that of the first uncovered component with the spare object
    abbrev lacking : List (Atom Argument) → List Fact
    lacking ps = map (instance_fact (spare (action D i)) y) (first_uncovered ps D.template)

    uncovered_set : (ps : List (Atom Argument)) → In (held_facts D i ++ lacking ps) (sets D i y)
    uncovered_set ps = go (first_few ps D.template)
      where
        go : FirstFew ps D.template → In (held_facts D i ++ lacking ps) (sets D i y)
        go (inl e) = rw (e, append-nil (held_facts D i)) conditions_set
        go (inr (u, m, e)) =
            rw e (further_set (instance_fact (spare (action D i)) y u)
            (in_further D ok_t (plain_objects D i) y (spare (action D i)) u spare_listed m))

    witness_set : (n : Name) (ps : List (Atom Argument)) → (fault_by n false ≡ 0 → ⊥)
        → In (witness_by n (held_facts D i) (lacking ps)) (sets D i y)
    witness_set Unreachable ps ne = absurd (ne refl)
    witness_set Irrelevant ps ne = absurd (ne refl)
    witness_set Heavy ps ne = conditions_set
    witness_set Balanced ps ne = absurd (ne refl)
    witness_set Unbalanced ps ne = conditions_set
    witness_set Bounded ps ne = absurd (ne refl)
    witness_set Unbounded ps ne = uncovered_set ps

  -- ---- a step that breaks is harm

  module _ (x : List Variable) (hx : In x (classes D (action D i))) where
    abbrev y : List Object
    y = bind_tuple (same_numbers (action D i)) x

    pub instance : is_instance D (plain_objects D i) y ≡ true
    instance =
        and_i (eq-eqb (length y) (keys_of D.template) (size D wf i idx x hx)) (among_of (plain_objects D i) y (over D wf i idx x hx))

    held_over : all (is_fact D (plain_objects D i)) (held_facts D i) ≡ true
    unfolding required_facts required literals_at
    held_over = all_of (is_fact D (plain_objects D i)) (held_facts D i) (held_fact D wf i idx Positive)

    set_over : (fs : List Fact) → In fs (sets D i y) → all (is_fact D (plain_objects D i)) fs ≡ true
    set_over fs m = go (sets_cases y fs m)
      where
        go : SetCases y fs → all (is_fact D (plain_objects D i)) fs ≡ true
        go (inl e) = rw e held_over
        go (inr (f, k, e)) =
            let one : is_fact D (plain_objects D i) f ≡ true =
            and_l (is_fact D (plain_objects D i) f) _ (further_fits D ok_t (plain_objects D i) y instance f k) in
            rw e (all_append (is_fact D (plain_objects D i)) (held_facts D i) (f ∷ []) held_over
            (and_i {a = is_fact D (plain_objects D i) f} one refl))

    breaks_harm : (fs : List Fact) → In fs (sets D i y) → breaks D (plain_objects D i) (plain_event D i) y fs ≡ true
        → Harm D (plain_objects D i) fs y (plain_event D i)
    unfolding breaks
    breaks_harm fs m t = record {
      facts_over = set_over fs m;
      instance = instance;
      event = and_i (and_i (ev_legal D wf i idx) (objects_distinct 0 (action D i).vars))
          (among_of (plain_objects D i) (same_numbers (action D i)) (bound_in D wf i idx));
      before = leb-true _ 1 (and_l _ _ (and_l _ _ t));
      can = and_r (leb (weight D y (start_state fs).facts) 1) _ (and_l _ _ t);
      after = leb-true 2 _
          (and_r (leb (weight D y (start_state fs).facts) 1 && allowed D (plain_objects D i) (start_state fs) (plain_event D i ∷ [])) _ t);
    }

    harm_breaks : (fs : List Fact) → Harm D (plain_objects D i) fs y (plain_event D i)
        → breaks D (plain_objects D i) (plain_event D i) y fs ≡ true
    unfolding breaks
    harm_breaks fs h = and_i (and_i (le-leb _ 1 h.before) h.can) (le-leb 2 _ h.after)

  -- ---- a class by its number

  module _ (j : ℕ) (c : ClassAtOnce D i j) where
    abbrev x : List Variable
    x = class_at D i j

    abbrev name : Name
    name = name_of D (action D i) (class_at D i j) Start

    listed : In x (classes D (action D i))
    listed = class_listed D i j c.numbered

    -- the conditions have no FF: one fact each
    held_plain : held_facts D i ≡ map (bind (same_numbers (action D i))) (required (action D i) Start Positive)
    unfolding required_facts required literals_at
    held_plain =
        plain_flat (plain_objects D i) (same_numbers (action D i)) (literals_at (action D i) Start Positive) (plain D wf i idx Positive refl)

    witness_listed : FaultyClass D i j → In (witness_at D (action D i) x Start) (sets D i (plain_instance D i j))
    unfolding witness_at
    witness_listed ne =
        Memᴰ.cast (sym (ap (λ (fs : List Fact). witness_by name fs (lacking (plain_instance D i j) (excluding D (action D i) x Start)))
        held_plain)) (witness_set (plain_instance D i j) name (excluding D (action D i) x Start) ne)

    faulty_yes : FaultyClass D i j → tries D i x ≡ true
    unfolding tries
    faulty_yes ne =
        in_any (breaks D (plain_objects D i) (plain_event D i) (plain_instance D i j)) (witness_listed ne)
        (harm_breaks x listed (witness_at D (action D i) x Start) ((class_exactness D wf i j c).0 ne))

    -- harm is of a faulty class with the same instance, and that is this class
    harm_faulty : (fs : List Fact) → Harm D (plain_objects D i) fs (plain_instance D i j) (plain_event D i) → FaultyClass D i j
    harm_faulty fs h =
        go (harm_of_faulty_class D wf (plain_objects D i) fs (plain_instance D i j) (plain_event D i) h c.at_once_lem)
      where
        go : (k : ℕ) × ClassAtOnce D i k × (plain_instance D i k ≡ plain_instance D i j) × FaultyClass D i k → FaultyClass D i j
        go (k, ck, e, ne) z =
            let same : class_at D i k ≡ x =
            one_class D (action D i) (action_well_formed D wf i idx) (plain_objects D i) (same_numbers (action D i))
            (objects_length 0 (action D i).vars) (objects_distinct 0 (action D i).vars) (bound_in D wf i idx)
            (plain_instance D i j) (class_at D i k) x (class_listed D i k ck.numbered) listed e refl in
            ne (ap (λ x. fault_by (name_of D (action D i) x Start) false) same ∙ z)

    yes_faulty : tries D i x ≡ true → FaultyClass D i j
    unfolding tries
    yes_faulty t =
        let r = any_in (breaks D (plain_objects D i) (plain_event D i) (plain_instance D i j)) (sets D i (plain_instance D i j)) t in
        harm_faulty r.0 (breaks_harm x listed r.0 r.1 r.2)

    exact : tries D i x ≡ is_harmful name
    exact = go (bool_cases (tries D i x))
      where
        go : (tries D i x ≡ true) ⊎ (tries D i x ≡ false) → tries D i x ≡ is_harmful name
        go (inl t) = t ∙ sym (fault_harmful name (yes_faulty t))
        go (inr f) = f ∙ sym (off (is_harmful name) (λ t. false≢true (sym f ∙ faulty_yes (harmful_fault name t))))

pub trying_exact : TryingExact
trying_exact D wf i j c = exact D wf i c.listed j c
