-- Further facts by the rows of ground literals: a literal's row meets that of a fact exactly where the literal stands for the fact, so the
-- code's answer for a class is the engine's. Assumes nothing.
use mathlib.Core.Path.{◌≡◌, refl, sym, ap, ap₂, ◌∙◌, subst}
use mathlib.Core.Bool.{Bool, true, false, not, ◌||◌, cond, true≢false}
use mathlib.Core.List.Memᴰ
use mathlib.Core.List.{List, [], ◌∷◌, map, flat_map, append-nil}
use Prim.Native.Nat.{ℕ, zero, suc, ◌+◌, ◌<◌}
use native.Mathlib.Numerals.{add-one}
use native.Mathlib.Omega.{arith}
use lib.Dec.{eqb, ltb}
use lib.ListN.{length, get_or}
use borrow.Author.Tests.{eqb-true, ne_eqb}
use Rattle.records.specs.Lists.{In, any, elem, numbers_from, below}
use Rattle.records.proofs.Lists.{and_l, and_r, and_i, eqb_same, not_true, in_any, any_in, any_map, filter_in, in_filter}
use Rattle.records.proofs.Lists.{flat_map_in, in_flat_map, in_dedup}
use Rattle.literals.specs.declared.Variable.{Variable}
use Rattle.literals.specs.declared.Object.{Object}
use Rattle.literals.specs.declared.Time.TheVariants.{AtStart}
use Rattle.literals.specs.declared.Argument.{Argument}
use Rattle.literals.specs.declared.Usage.{Usage}
use Rattle.literals.specs.declared.Role.{Role}
use Rattle.literals.specs.declared.Moment.TheVariants.{Start}
use Rattle.literals.specs.Domain.{object, Atom, Fact, same_fact, same_literal, usage_number, role_number, role_of, same_time, Literal, keys_of}
use Rattle.literals.specs.Domain.{Domain, action}
use Rattle.literals.specs.Held.{row_of, rows_in, keys_in, component_rows_in, TemplateOf, usage_among, usage_for}
use Rattle.literals.specs.Matching.{own, literals_at}
use Rattle.literals.proofs.Indices.{any_agree, at_all, below_less}
use Rattle.classes.specs.Classes.{classes}
use Rattle.classes.specs.Held.{tuple_row}
use Rattle.classes.proofs.Roles.{in_with_role, literals_at_in}
use Rattle.verdict.specs.Binding.{Binding, bind_tuple, objects_from, same_numbers, facts_of}
use Rattle.verdict.specs.Decision.{instance_fact}
use Rattle.verdict.specs.Machine.{event_facts, allowed, next, start_state, weight}
use Rattle.verdict.specs.Held.{pattern_row, patterns_meet, FactOver, fact_row}
use Rattle.verdict.specs.Claims.{has_arity, is_fact, well_formed, plain_objects, plain_event}
use Rattle.verdict.proofs.Equality.{literal_eq}
use Rattle.verdict.proofs.WellFormed.{action_in, action_well_formed, template_well_formed}
use Rattle.verdict.proofs.Objects.{among_in, objects_length, objects_range, objects_distinct, value_numbers}
use Rattle.verdict.proofs.Acts.{class_below}
use Rattle.verdict.proofs.Exact.{bound_in, size}
use Rattle.verdict.proofs.Events.{elem_fact, fact_elem}
use Rattle.verdict.proofs.Patterns.{any_flat, literal_bound, about_row}
use Rattle.store.specs.Held.{FactFits, row_weight, instance_bytes_in}
use Rattle.store.proofs.InstanceRows.{objects_row, weight_is}
use Rattle.store.proofs.InstanceFacts.{no_component, instance_is}
use Rattle.events.specs.Held.{GroundLiteral, ground_literals, event_literals, ground_in}
use Rattle.events.proofs.Members.{map_in}
use Rattle.literals.proofs.Tables.{kept}
use Rattle.events.proofs.FactRows.{usage_counts}
use Rattle.effects.specs.Held.{literals_in, effects_in}
use Rattle.trying.specs.declared.alone.Alone.{Alone}
use Rattle.trying.specs.Trying.{facts_under, instance_facts, held_facts, tries}
use Rattle.trying.specs.Held.{is_about, component_free, any_free, tries_by, tries_by_rows, AloneOf}
use Rattle.trying.proofs.Further.{further_fits}
use Rattle.trying.proofs.Engine.{instance}
use Rattle.trying.proofs.Sets.{facts_in, tries_by_lem}
use Rattle.trying.proofs.Conditions.{start_alone, held_fits, left_fits}

-- ---- of one literal

-- a role that counts at the start is one of its usage there
own_of : (r : Role) → role_of (role_number r) ≡ r → not (eqb (usage_for AtStart (role_number r)) 0) ≡ true → own Start r.usage r ≡ true
unfolding usage_for
own_of r back t = go (same_time AtStart r.time) refl (ap (λ (q : Role). eqb (usage_among AtStart q) 0) (sym back) ∙ not_true _ t)
  where
    go : (b : Bool) → same_time AtStart r.time ≡ b → eqb (cond b (suc (usage_number r.usage)) 0) 0 ≡ false
        → own Start r.usage r ≡ true
    go true e n = and_i {a = same_time AtStart r.time} e (eqb_same (usage_number r.usage))
    go false e n = absurd (true≢false n)

-- of the objects in order
any_objects : (p : Object → Bool) (k n : ℕ) → any (λ o. p (object o)) (numbers_from k n) ≡ any p (objects_from k n)
any_objects p k zero = refl
any_objects p k (suc n) = ap (λ (b : Bool). p (object k) || b) (any_objects p (k + 1) n ∙ ap (λ j. any p (objects_from j n)) (add-one k))

module _ (D : Domain) (wf : well_formed D ≡ true) (i : ℕ) (idx : i < length D.actions) {head : List ℕ} (H : TemplateOf D head) where
  abbrev b : Binding
  b = same_numbers (action D i)

  abbrev objs : List Object
  objs = plain_objects D i

  abbrev ls : List GroundLiteral
  ls = event_literals D (plain_event D i)

  -- the test of the code
  abbrev about : Fact → Bool
  about f = is_about (event_literals D (plain_event D i)) (fact_row f)

  low : (o : Object) → In o objs → o.0 < 255
  low o m =
      let r = (objects_range 0 (suc (action D i).vars) o m).1 in
      let k = H.bounded.counts (action D i) (action_in D i idx) in omega arith

  about_literal : (l : Literal) → In l (action D i).lits → (f : Fact) → FactOver D objs f
      → elem same_fact f (facts_of objs b l.atom) ≡ patterns_meet (pattern_row b l.atom) (fact_row f)
  about_literal l m f F =
      about_row D objs low b (bound_in D wf i idx) l.atom f
      (literal_bound H.bounded (action_in D i idx) b (objects_length 0 (action D i).vars) l m) F

  abbrev meeting : Fact → GroundLiteral → Bool
  meeting f g = patterns_meet g.row (fact_row f)

  about_facts : (f : Fact) → FactOver D objs f → about f ≡ true → (c : Usage) × In f (facts_in D i c)
  unfolding ground_literals event_facts literals_at
  about_facts f F t =
      let r = any_in (meeting f) ls t in
      let s = map_in _ _ r.1 in
      let l = s.0 in
      let k = filter_in _ (action D i).lits s.1 in
      let o = own_of l.role (kept H.bounded (action_in D i idx) k.0).back k.1 in (
        l.role.usage,
        in_flat_map (facts_of objs b) (in_dedup same_literal literal_eq (in_with_role (own Start l.role.usage) (action D i).lits k.0 o))
            (elem_fact f (facts_of objs b l.atom) (about_literal l k.0 f F ∙ sym (ap (meeting f) s.2) ∙ r.2)),
      )

  facts_about : (f : Fact) → FactOver D objs f → (c : Usage) → In f (facts_in D i c) → about f ≡ true
  unfolding ground_literals event_facts
  facts_about f F c m =
      let r = flat_map_in (facts_of objs b) (literals_at (action D i) Start c) m in
      let l = literals_at_in (action D i) Start c r.1 in
      let e = eqb-true (usage_for AtStart (role_number l.0.role)) (suc (usage_number c))
      (usage_counts AtStart c l.0 (kept H.bounded (action_in D i idx) l.1) ∙ l.2) in
      let counted : not (eqb (usage_for AtStart (role_number l.0.role)) 0) ≡ true =
      ap not (ne_eqb (usage_for AtStart (role_number l.0.role)) 0 (λ z. omega arith)) in
      in_any (meeting f)
      (Memᴰ.map (λ (l : Literal). record { usage = usage_for AtStart (role_number l.role); row = pattern_row b l.atom })
      (in_filter (λ (l : Literal). not (eqb (usage_for AtStart (role_number l.role)) 0)) l.1 counted))
      (sym (about_literal l.0 l.1 f F) ∙ fact_elem (subst (λ (p : Atom Argument). In f (facts_of objs b p)) l.3 r.2))

  -- ---- all further facts

  free_is : (y : List Object) → length y ≡ keys_of D.template
      → any_free head (objects_row y) (suc (action D i).vars) ls ≡ any (λ f. not (about f)) (instance_facts D objs y)
  unfolding any_free instance_facts
  free_is y e =
      ap (λ (n : ℕ). any (component_free head (objects_row y) (suc (action D i).vars) ls) (below n)) H.components
      ∙ any_agree (component_free head (objects_row y) (suc (action D i).vars) ls)
      (λ c. any free (facts_under objs y (get_or D.template c no_component))) (below (length D.template))
      (λ c m. of_component c (below_less (length D.template) m))
      ∙ sym (any_map (λ c. get_or D.template c no_component) (λ u. any free (facts_under objs y u)) (below (length D.template)))
      ∙ ap (any (λ u. any free (facts_under objs y u))) (at_all no_component D.template)
      ∙ sym (any_flat (facts_under objs y) free D.template)
    where
      free : Fact → Bool
      free f = not (about f)

      of_component : (c : ℕ) → c < length D.template
          → component_free head (objects_row y) (suc (action D i).vars) ls c
          ≡ any free (facts_under objs y (get_or D.template c no_component))
      of_component c h =
          any_agree (λ o. not (is_about ls (instance_bytes_in head c o (objects_row y))))
          (λ o. free (instance_fact (object o) y (get_or D.template c no_component))) (below (suc (action D i).vars))
          (λ o m. ap (λ (row : List ℕ). not (is_about ls row)) (instance_is H c h y e o))
          ∙ any_objects (λ o. free (instance_fact o y (get_or D.template c no_component))) 0 (suc (action D i).vars)
          ∙ sym (any_map (λ o. instance_fact o y (get_or D.template c no_component)) free objs)

  -- ---- the answer for a class

  module _ (x : List Variable) (hx : In x (classes D (action D i))) where
    abbrev y : List Object
    y = bind_tuple (same_numbers (action D i)) x

    keys : length y ≡ keys_of D.template
    keys = size D wf i idx x hx

    further_over : (f : Fact) → In f (instance_facts D objs y) → FactOver D objs f
    further_over f m =
        let t = and_l (is_fact D objs f) _ (further_fits D (template_well_formed D wf) objs y (instance D wf i idx x hx) f m) in
        record {
          sized = eqb-true _ _ (and_r (ltb f.rel (length D.arities)) _ (and_l _ _ t));
          over = among_in objs f.args (and_r (has_arity D f.rel f.args) _ t);
        }

    -- its key tuple as an instance: "variable i is object i"
    tuple_objects : tuple_row x ≡ objects_row y
    tuple_objects =
        ap row_of (sym (value_numbers (action D i) x (λ v m.
        let h = class_below D (action D i) (action_well_formed D wf i idx) objs b (objects_length 0 (action D i).vars)
        (objects_distinct 0 (action D i).vars) (bound_in D wf i idx) y x hx v m in
        let e = objects_length 0 (action D i).vars in omega arith)))

    tried_answer : tries D i x
        ≡ tries_by (weight D y (held_facts D i)) (allowed D objs (start_state (held_facts D i)) (plain_event D i ∷ []))
        (weight D y (next D objs (start_state (held_facts D i)) (plain_event D i ∷ [])).facts)
        (any_free head (objects_row y) (suc (action D i).vars) ls)
    tried_answer =
        tries_by_lem D wf i idx x hx about (λ f m. about_facts f (further_over f m)) (λ f m. facts_about f (further_over f m))
        ∙ ap₂ (λ (w : ℕ) (t : Bool). tries_by w (allowed D objs (start_state (held_facts D i)) (plain_event D i ∷ []))
        (weight D y (next D objs (start_state (held_facts D i)) (plain_event D i ∷ [])).facts) t)
        (ap (weight D y) (start_alone D wf i idx)) (sym (free_is y keys))

    module _ {r : Alone} {base after : List ℕ} (A : AloneOf D i head r base after) where
      literals_are : ground_in r.counts.literals (literals_in base) ≡ ls
      unfolding flat_map
      literals_are = A.conditions.grounded.laid.filled ∙ append-nil ls

      weighed : (n : ℕ) (memory : List ℕ) (fs : List Fact) → rows_in n memory ≡ map fact_row fs → ((f : Fact) → In f fs → FactFits D f)
          → row_weight (keys_in head) (component_rows_in head) (rows_in n memory) (objects_row y) ≡ weight D y fs
      weighed n memory fs e fits =
          ap (λ (rows : List (List ℕ)). row_weight (keys_in head) (component_rows_in head) rows (objects_row y)) e ∙ weight_is H y keys fs fits

      pub class_tried : (row : List ℕ) → row ≡ tuple_row x → tries_by_rows head r base after row ≡ tries D i x
      unfolding tries_by_rows
      class_tried row e =
          ap (tries_by_rows head r base after) (e ∙ tuple_objects)
          ∙ ap₂ (λ (w v : ℕ). tries_by w r.allowed v
          (any_free head (objects_row y) (r.counts.variables + 1) (ground_in r.counts.literals (literals_in base))))
          (weighed r.counts.held (effects_in base) (held_facts D i) A.conditions.held (held_fits D wf i idx))
          (weighed r.left after (next D objs (start_state (held_facts D i)) (plain_event D i ∷ [])).facts A.left (left_fits D wf i idx))
          ∙ ap₂ (λ (t : Bool) (gs : List GroundLiteral). tries_by (weight D y (held_facts D i)) t
          (weight D y (next D objs (start_state (held_facts D i)) (plain_event D i ∷ [])).facts)
          (any_free head (objects_row y) (r.counts.variables + 1) gs)) A.allowed literals_are
          ∙ ap (λ (n : ℕ). tries_by (weight D y (held_facts D i)) (allowed D objs (start_state (held_facts D i)) (plain_event D i ∷ []))
          (weight D y (next D objs (start_state (held_facts D i)) (plain_event D i ∷ [])).facts) (any_free head (objects_row y) n ls))
          (ap (λ (m : ℕ). m + 1) A.conditions.variables ∙ add-one (action D i).vars)
          ∙ sym tried_answer
