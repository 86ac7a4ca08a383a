-- The true conditions of an action, as facts and as rows, and what the step from them leaves. Assumes nothing.
use mathlib.Core.Path.{◌≡◌, refl, sym, ap, ap₂, ◌∙◌, subst}
use mathlib.Core.Bool.{Bool, true, false, not, ◌&&◌}
use mathlib.Core.Logic.{inl, inr}
use mathlib.Core.List.Memᴰ
use mathlib.Core.List.{List, [], ◌∷◌, ◌++◌, map, flat_map, append-nil}
use Prim.Native.Nat.{ℕ, suc, ◌+◌, ◌*◌, ◌≤◌, ◌<◌}
use native.Mathlib.Omega.{arith}
use lib.Dec.{ltb}
use lib.ListN.{length, take, drop, length-append, length-map, take-append-drop}
use borrow.Author.Tests.{eqb-true, eq-eqb}
use Rattle.records.specs.Lists.{In, keep_if, filter_by, count_by, all, pairwise, elem, distinct, dedup}
use Rattle.records.specs.Memory.{over}
use Rattle.records.proofs.Lists.{and_l, and_r, and_i, filter_all, filter_few, dedup_few, in_dedup}
use Rattle.literals.specs.declared.Object.{Object}
use Rattle.literals.specs.declared.Argument.{Argument}
use Rattle.literals.specs.declared.Time.TheVariants.{AtStart}
use Rattle.literals.specs.declared.Usage.{Usage}
use Rattle.literals.specs.declared.Usage.TheVariants.{Positive, Add, Delete}
use Rattle.literals.specs.declared.Role.{Role}
use Rattle.literals.specs.declared.Moment.TheVariants.{Start}
use Rattle.literals.specs.Domain.{is_every, variables_of, Atom, Fact, same_fact, same_literal, first_role, usage_number, same_time, same_role}
use Rattle.literals.specs.Domain.{Literal, Domain, action}
use Rattle.literals.specs.Decode.{byte, repeats, contradicts, max_literals}
use Rattle.literals.specs.Held.{rows_in, Bounded, arity_in, HeadOf}
use Rattle.literals.specs.Matching.{own, with_role, literals_at, required}
use Rattle.literals.proofs.Bounds.{arity_six}
use Rattle.verdict.specs.Binding.{Binding, bind, same_numbers, facts_of}
use Rattle.verdict.specs.Machine.{GroundAction, Event, event_facts, required_facts, conditions_hold, own_hold, allowed, step_facts, facts_after}
use Rattle.verdict.specs.Machine.{next, start_state}
use Rattle.verdict.specs.Held.{pattern_row, FactOver, fact_row}
use Rattle.verdict.specs.Claims.{has_arity, well_formed, plain_objects, plain_event}
use Rattle.verdict.proofs.Equality.{literal_eq, literal_self, fact_eq, fact_self}
use Rattle.verdict.proofs.Asking.{both_ways}
use Rattle.verdict.proofs.Facts.{plain_in, facts_same, plain_flat}
use Rattle.verdict.proofs.WellFormed.{action_in, action_well_formed, literals_apart}
use Rattle.verdict.proofs.Objects.{among_in, objects_range, objects_distinct}
use Rattle.verdict.proofs.Exact.{bound_in, below, plain, held_fact}
use Rattle.verdict.proofs.Steps.{One}
use Rattle.verdict.proofs.Tuples.{Below}
use Rattle.store.specs.Held.{Sized, FactFits}
use Rattle.events.specs.Held.{OverObjects, max_ground, ground_in, Grounded}
use Rattle.events.proofs.Members.{map_in}
use Rattle.events.proofs.FactRows.{length_fact_row}
use Rattle.events.proofs.GroundLiterals.{length_ground}
use Rattle.effects.specs.Held.{literals_in, effects_in, flat, rows_of_usage, at_most}
use Rattle.effects.proofs.Joins.{distinct_map}
use Rattle.effects.proofs.FilledRows.{Whole, length_whole, filled_rows, most_inside}
use Rattle.effects.proofs.EffectRows.{two_few, grounded_rows, plain_rows}
use Rattle.effects.proofs.StepFacts.{fact_bytes_lem}
use Rattle.verdict.specs.Judged.{fact_bytes}
use Rattle.run_semantics.specs.RunFile.{max_facts}
use Rattle.trying.specs.declared.alone.Base.{Base}
use Rattle.trying.specs.Trying.{held_facts}
use Rattle.trying.specs.Held.{BaseOf}
use Rattle.trying.proofs.Sets.{facts_in, left_is}

-- ---- literals that have one role in common stand once

module _ (rs : Role → Bool) (one : (r s : Role) → rs r ≡ true → rs s ≡ true → same_role r s ≡ true) where
  others : (l : Literal) → rs l.role ≡ true → (ls : List Literal) → all (λ m. not (repeats l m)) ls ≡ true
      → all (λ p. not (same_literal l.atom p)) (with_role rs ls) ≡ true
  others l t [] h = refl
  others l t (m ∷ ms) h = go (rs m.role) refl (others l t ms (and_r (not (repeats l m)) _ h))
    where
      go : (b : Bool) → rs m.role ≡ b → all (λ p. not (same_literal l.atom p)) (with_role rs ms) ≡ true
          → all (λ p. not (same_literal l.atom p)) (keep_if b m.atom (with_role rs ms)) ≡ true
      go false e r = r
      go true e r =
          and_i (ap (λ (b : Bool). not (b && same_literal l.atom m.atom)) (sym (one l.role m.role t e)) ∙ and_l _ _ h) r

  role_once : (ls : List Literal) → pairwise (λ l m. not (repeats l m) && not (contradicts l m)) ls ≡ true
      → distinct same_literal (with_role rs ls) ≡ true
  role_once [] h = refl
  role_once (l ∷ ls) h =
      go (rs l.role) refl (role_once ls (and_r (all (λ m. not (repeats l m) && not (contradicts l m)) ls) _ h))
    where
      first : (ms : List Literal) → all (λ m. not (repeats l m) && not (contradicts l m)) ms ≡ true → all (λ m. not (repeats l m)) ms ≡ true
      first [] k = refl
      first (m ∷ ms) k =
          and_i {a = not (repeats l m)} (and_l _ _ (and_l _ _ k)) (first ms (and_r (not (repeats l m) && not (contradicts l m)) _ k))

      go : (b : Bool) → rs l.role ≡ b → distinct same_literal (with_role rs ls) ≡ true
          → distinct same_literal (keep_if b l.atom (with_role rs ls)) ≡ true
      go false e r = r
      go true e r = and_i (others l e ls (first ls (and_l _ _ h))) r

distinct_same : {A : Type 0} (eq : A → A → Bool) (l : List A) → distinct eq l ≡ true → dedup eq l ≡ l
distinct_same eq [] o = refl
distinct_same {A} eq (x ∷ xs) o =
    ap {B = List A} (λ l. x ∷ filter_by (λ y. not (eq x y)) l) (distinct_same eq xs (and_r (all (λ y. not (eq x y)) xs) _ o))
    ∙ ap {B = List A} (λ l. x ∷ l) (filter_all (λ y. not (eq x y)) xs (and_l _ _ o))

role_few : (rs : Role → Bool) (ls : List Literal) → length (with_role rs ls) ≤ length ls
role_few rs [] = omega arith
role_few rs (l ∷ ls) = go (rs l.role) (role_few rs ls)
  where
    go : (b : Bool) → length (with_role rs ls) ≤ length ls → length (keep_if b l.atom (with_role rs ls)) ≤ suc (length ls)
    go true h = omega arith
    go false h = omega arith

-- roles of one time and usage are the same
own_same : (c : Usage) (r s : Role) → own Start c r ≡ true → own Start c s ≡ true → same_role r s ≡ true
own_same c r s h k =
    let a = eqb-true 0 (first_role r.time) (and_l _ _ h) in
    let b = eqb-true 0 (first_role s.time) (and_l _ _ k) in
    let d = eqb-true (usage_number c) (usage_number r.usage) (and_r (same_time AtStart r.time) _ h) in
    let e = eqb-true (usage_number c) (usage_number s.usage) (and_r (same_time AtStart s.time) _ k) in
    and_i (eq-eqb (first_role r.time) (first_role s.time) (sym a ∙ b))
    (eq-eqb (usage_number r.usage) (usage_number s.usage) (sym d ∙ e))

-- ---- the rows of a usage are no more than the ground literals

rows_most : (usage total : ℕ) (memory : List ℕ) → length (rows_of_usage usage (ground_in total memory)) ≤ total
rows_most usage total memory =
    let t = two_few usage (suc usage) (λ e. omega arith) (ground_in total memory) in
    let l = length_ground memory total in omega arith

pub rows_room : (usage total : ℕ) (memory : List ℕ) → total ≤ max_literals
    → 0 + length (rows_of_usage usage (ground_in total memory)) ≤ max_ground
rows_room usage total memory h = let r = rows_most usage total memory in omega arith

pub rows_few : (usage total held : ℕ) (memory : List ℕ) → total ≤ max_literals → held
    ≡ 0 + length (rows_of_usage usage (ground_in total memory))
    → held ≤ max_literals
rows_few usage total held memory h e = let r = rows_most usage total memory in omega arith

-- ---- the rows of facts in a memory

pub rows_held : (fs : List Fact) (out : List ℕ) → ((f : Fact) → In f fs → length f.args ≤ 6)
    → take (8 * length fs) out ≡ fact_bytes fs → 8 * length fs ≤ length out → rows_in (length fs) out ≡ map fact_row fs
unfolding over
rows_held fs out few e room = filled_rows (record { count = sym (length-map fs fact_row); room = room; whole = whole; bytes = bytes })
  where
    whole : Whole (map fact_row fs)
    whole row m = let r = map_in fact_row fs m in ap length r.2 ∙ length_fact_row r.0 (few r.0 r.1)

    bytes : out ≡ over (flat (map fact_row fs)) out
    bytes =
        let n = length_whole (map fact_row fs) whole in
        let k = length-map fs fact_row in
        let z : 8 * length fs ≡ length (flat (map fact_row fs)) = omega arith in
        sym (take-append-drop (8 * length fs) out)
        ∙ ap₂ (λ (new : List ℕ) (j : ℕ). new ++ drop j out) (e ∙ sym (fact_bytes_lem fs)) z

-- ---- of an action at once

module _ (D : Domain) (wf : well_formed D ≡ true) (i : ℕ) (idx : i < length D.actions) where
  abbrev b : Binding
  b = same_numbers (action D i)

  abbrev objs : List Object
  objs = plain_objects D i

  abbrev ev : Event
  ev = plain_event D i

  abbrev conditions : List (Atom Argument)
  conditions = with_role (own Start Positive) (action D i).lits

  once : distinct same_literal conditions ≡ true
  once =
      role_once (own Start Positive) (own_same Positive) (action D i).lits (literals_apart D (action D i) (action_well_formed D wf i idx))

  clear : (p : Atom Argument) → In p conditions → count_by is_every p.args ≡ 0
  unfolding literals_at
  clear p m = plain D wf i idx Positive refl p (in_dedup same_literal literal_eq m)

  low : (p : Atom Argument) → In p conditions → Below (length b) (variables_of p.args)
  unfolding literals_at
  low p m = below D wf i idx Positive p (in_dedup same_literal literal_eq m)

  held_are : held_facts D i ≡ map (bind b) conditions
  unfolding required_facts required
  held_are =
      ap (flat_map (facts_of objs b)) (distinct_same same_literal conditions once) ∙ plain_flat objs b conditions clear

  -- each fact stands once
  pub held_once : distinct same_fact (held_facts D i) ≡ true
  held_once = ap (distinct same_fact) held_are ∙ distinct_map (bind b) same_literal same_fact conditions same ∙ once
    where
      same : (p q : Atom Argument) → In p conditions → In q conditions → same_fact (bind b p) (bind b q) ≡ same_literal p q
      same p q m n =
          both_ways (same_fact (bind b p) (bind b q)) (same_literal p q)
          (λ t.
          let e = facts_same objs b (objects_distinct 0 (action D i).vars) p q (low p m) (low q n) (clear p m) (clear q n) (bind b p)
          (plain_in objs b p (clear p m)) (Memᴰ.cast (fact_eq (bind b p) (bind b q) t) (plain_in objs b q (clear q n))) in
          sym (ap (same_literal p) e) ∙ literal_self p)
          (λ t. sym (ap (λ (r : Atom Argument). same_fact (bind b p) (bind b r)) (literal_eq p q t)) ∙ fact_self (bind b p))

  -- so the machine's start holds just these
  pub start_alone : (start_state (held_facts D i)).facts ≡ held_facts D i
  start_alone = distinct_same same_fact (held_facts D i) held_once

  -- the code takes their rows from the ground literals
  pub held_rows : {head memory : List ℕ} {total : ℕ} → Grounded D head (ev ∷ []) memory total
      → rows_of_usage 1 (ground_in total memory) ≡ map fact_row (held_facts D i)
  unfolding flat_map
  held_rows G =
      grounded_rows G Positive
      ∙ append-nil (map (pattern_row b) conditions)
      ∙ plain_rows b conditions clear
      ∙ ap (map fact_row) (sym held_are)

  -- as the code holds them
  pub base_held : {head : List ℕ} (r : Base) (base after : List ℕ) → r.variables ≡ (action D i).vars
      → Grounded D head (ev ∷ []) (literals_in base) r.literals
      → rows_in r.held (effects_in after) ≡ rows_of_usage 1 (ground_in r.literals (literals_in base)) → literals_in after ≡ literals_in base
      → BaseOf D i head r after
  base_held {head} r base after v G e l =
      record {
        variables = v;
        grounded = subst (λ (t : List ℕ). Grounded D head (ev ∷ []) t r.literals) (sym l) G;
        held = e ∙ held_rows G;
      }

  pub held_few : length (held_facts D i) ≤ length (action D i).lits
  held_few =
      let l = ap length held_are ∙ length-map conditions (bind b) in
      let f = role_few (own Start Positive) (action D i).lits in omega arith

  -- ---- facts over the objects

  fact_over : (c : Usage) (f : Fact) → In f (facts_in D i c) → FactOver D objs f
  unfolding event_facts
  fact_over c f m =
      let t = held_fact D wf i idx c f m in
      record {
        sized = eqb-true _ _ (and_r (ltb f.rel (length D.arities)) _ (and_l _ _ t));
        over = among_in objs f.args (and_r (has_arity D f.rel f.args) _ t);
      }

  held_over : (f : Fact) → In f (held_facts D i) → FactOver D objs f
  unfolding required_facts event_facts required literals_at
  held_over f m = fact_over Positive f m

  pub held_fits : (f : Fact) → In f (held_facts D i) → FactFits D f
  held_fits f m = record { sized = (held_over f m).sized }

  pub left_fits : (f : Fact) → In f (next D objs (start_state (held_facts D i)) (ev ∷ [])).facts → FactFits D f
  left_fits f m = go (left_is D i (held_facts D i) f m)
    where
      go : One (λ g. In g (held_facts D i)) (facts_in D i) f → FactFits D f
      go (inl k) = held_fits f k.0
      go (inr k) = record { sized = (fact_over Add f k).sized }

  pub fits_few : Bounded D → (f : Fact) → FactFits D f → length f.args ≤ 6
  fits_few B f F = let e = F.sized in let k = arity_six D B.arities f.rel in omega arith

  -- their rows are of their relations' arities
  pub held_sized : {head : List ℕ} → HeadOf D head → (rows : List (List ℕ)) → rows ≡ map fact_row (held_facts D i) → Sized head rows
  held_sized {head} H rows e row m =
      let r = map_in fact_row (held_facts D i) (subst (In row) e m) in
      ap (λ (t : List ℕ). byte t 1) r.2
      ∙ (held_fits r.0 r.1).sized
      ∙ sym (H.arities r.0.rel)
      ∙ sym (ap (λ (t : List ℕ). arity_in head (byte t 0)) r.2)

  module _ (B : Bounded D) where
    vars_few : (action D i).vars ≤ 16
    vars_few = B.counts (action D i) (action_in D i idx)

    pub chosen : OverObjects D objs (held_facts D i) (ev.act ∷ [])
    chosen =
        record {
          low = λ o m. let r = (objects_range 0 (suc (action D i).vars) o m).1 in let k = vars_few in omega arith;
          facts = held_over;
          bindings = λ g m o k. bound_in D wf i idx o (subst (λ (h : GroundAction). In o h.binding) (Memᴰ.eq_of_singleton m) k);
        }

    -- ---- the step

    left_are : (next D objs (start_state (held_facts D i)) (ev ∷ [])).facts ≡ facts_after D objs (held_facts D i) (ev ∷ [])
    unfolding next
    left_are = ap (λ (s : List Fact). facts_after D objs s (ev ∷ [])) start_alone

    added_few : length (step_facts D objs (ev ∷ []) Add) ≤ 64
    unfolding step_facts event_facts literals_at flat_map
    added_few =
        let adds : List (Atom Argument) = literals_at (action D i) Start Add in
        let n = length-append (flat_map (facts_of objs b) adds) [] in
        let k = ap length (plain_flat objs b adds (plain D wf i idx Add refl)) ∙ length-map adds (bind b) in
        let d = dedup_few same_literal (with_role (own Start Add) (action D i).lits) in
        let r = role_few (own Start Add) (action D i).lits in
        let l = B.sizes (action D i) (action_in D i idx) in
        omega arith

    after_few : length (facts_after D objs (held_facts D i) (ev ∷ [])) ≤ 128
    unfolding facts_after
    after_few =
        let gone : Fact → Bool = λ f. not (elem same_fact f (step_facts D objs (ev ∷ []) Delete)) in
        let kept : List Fact = filter_by gone (held_facts D i) in
        let added : List Fact = dedup same_fact (step_facts D objs (ev ∷ []) Add) in
        let a = length-append kept (filter_by (λ f. not (elem same_fact f kept)) added) in
        let k = filter_few gone (held_facts D i) in
        let f = filter_few (λ f. not (elem same_fact f kept)) added in
        let d = dedup_few same_fact (step_facts D objs (ev ∷ []) Add) in
        let h = held_few in
        let l = B.sizes (action D i) (action_in D i idx) in
        let n = added_few in
        omega arith

    -- as the code asks whether it is allowed
    pub allowed_is : all (own_hold D objs (held_facts D i)) (ev ∷ []) ≡ allowed D objs (start_state (held_facts D i)) (ev ∷ [])
    unfolding allowed conditions_hold own_hold required_facts event_facts required literals_at
    allowed_is =
        ap (λ (s : List Fact). own_hold D objs s ev && true) (sym start_alone) ∙ go (own_hold D objs (dedup same_fact (held_facts D i)) ev)
      where
        go : (t : Bool) → t && true ≡ true && (t && true) && true && true
        go true = refl
        go false = refl

    -- its facts in a memory
    pub left_rows : (out : List ℕ) → 1024 ≤ length out
        → (length (facts_after D objs (held_facts D i) (ev ∷ [])) ≤ max_facts
        → take (8 * length (facts_after D objs (held_facts D i) (ev ∷ []))) out ≡ fact_bytes (facts_after D objs (held_facts D i) (ev ∷ [])))
        → (n : ℕ) → n ≡ at_most max_facts (length (facts_after D objs (held_facts D i) (ev ∷ [])))
        → rows_in n out ≡ map fact_row (next D objs (start_state (held_facts D i)) (ev ∷ [])).facts
    left_rows out room e n k =
        let f = after_few in
        ap (λ (m : ℕ). rows_in m out) (k ∙ sym (most_inside (length (facts_after D objs (held_facts D i) (ev ∷ []))) (omega arith)))
        ∙ rows_held (facts_after D objs (held_facts D i) (ev ∷ [])) out
        (λ f m. fits_few B f (left_fits f (subst (In f) (sym left_are) m))) (e (omega arith)) (omega arith)
        ∙ ap (map fact_row) (sym left_are)
