-- What a record of each kind leads to, in the shape of the code's tests. Assumes nothing.
use mathlib.Core.Path.{◌≡◌, refl, sym, ap, ap₂, subst, ◌∙◌}
use mathlib.Core.Bool.{Bool, true, false, not, ◌&&◌, cond, or-true}
use mathlib.Core.List.{List, [], ◌∷◌, ◌++◌, map, flat_map}
use Prim.Native.Nat.{ℕ, suc, ◌+◌, ◌-◌, ◌*◌, ◌≤◌, ◌<◌}
use native.Mathlib.Omega.{arith}
use lib.Dec.{eqb, ltb, leb}
use lib.ListN.{length, drop, take-append-drop}
use lib.Seq.{take_all}
use borrow.Author.Tests.{le-leb, lt-leb, eq-eqb, ne_eqb, eqb-true, ltb-false}
use Rattle.records.specs.Lists.{In, any, empty, same_list}
use Rattle.std.specs.Prelude.{Result, Ok, Err, is_err, ⊤}
use Rattle.literals.specs.declared.fault.RecordFault.{RecordFault}
use Rattle.literals.specs.Faults.{record_stop}
use Rattle.literals.proofs.Refusals.{fault_some}
use Rattle.records.proofs.Lists.{clash, not_false, empty_no, empty_yes, get_d_in}
use Rattle.records.proofs.Numbers.{number_of, none_passes, rows_split, cond_or}
use Rattle.literals.specs.Decode.{RecordStop}
use Rattle.literals.specs.declared.span.Span.{Span}
use Rattle.literals.specs.Domain.{Literal, clears_once, Action, Component, keys_of, Domain, arity, no_action, action}
use Rattle.literals.specs.Decode.{max_relations, max_arguments, max_actions, max_literals, max_components, RecordKind, relation_record}
use Rattle.literals.specs.Decode.{action_record, literal_record, component_record, closing_record, unknown_record, latest, byte, head_stop}
use Rattle.literals.specs.Decode.{relation_stop, action_stop, literal_of, repeats, contradicts, no_variable, literal_stop, at_record, component_of}
use Rattle.literals.specs.Decode.{label_fault, keys_cleared, cleared_fault, component_fault, component_stop, closing_stop, field_stop, field_place}
use Rattle.literals.specs.Decode.{stop_of, stop_place, extend}
use Rattle.literals.specs.Held.{row_of, literal_row, all_literals, contradicts_row, rows_in, rows_stop, relations_in, actions_in, components_in}
use Rattle.literals.specs.Held.{arity_in, component_rows_in, variables_in, lasting_in, clears_in, HeadOf, Held, SpanOf, Filled, arguments_stop}
use Rattle.literals.specs.Held.{literal_shape, literal_arguments, has_every, component_fields, key_cleared_in}
use Rattle.literals.proofs.Stops.{out_of_order, at_limit, last_fault, faults_split}
use Rattle.literals.proofs.Bounds.{arity_six, variables_below}
use Rattle.literals.proofs.Bytes.{plain_every, some_every_lem}
use Rattle.literals.proofs.Tables.{any_component, Comparable, kept, length_literal_row, rows_flat, literals_stop, none_cleared, cleared_rows}
use Rattle.literals.proofs.Held.{stop_order, stop_limit, stop_field, place_limit, place_field}
use Rattle.literals.proofs.Heads.{arity_limit, literals_after, all_rows_lem}
use Rattle.literals.proofs.Fills.{latest_at}
use Rattle.reading.specs.Held.{domain_after, HeldOver, rows_of}

-- ---- the domain behind a record

pub behind_stop : (D : Domain) (k : RecordKind) (p : List ℕ) {n : ℕ} → stop_of D k p ≡ n → (n ≡ 0 → ⊥) → domain_after D k p ≡ D
unfolding domain_after
behind_stop D k p {n} e h = rw (ne_eqb (stop_of D k p) 0 (λ z. h (sym e ∙ z)))

pub behind_done : (D : Domain) (k : RecordKind) (p : List ℕ) → stop_of D k p ≡ 0 → domain_after D k p ≡ extend D k p
unfolding domain_after
behind_done D k p e = rw (eq-eqb (stop_of D k p) 0 e)

-- the head behind a record that is stopped, and one that is not; and the table beside it
pub take_stop : {D : Domain} {head : List ℕ} → Filled D head → (k : RecordKind) (p : List ℕ) {n : ℕ} → stop_of D k p ≡ n → (n ≡ 0 → ⊥) → (n ≡ stop_of D k p) × Filled (domain_after D k p) head
take_stop {D} {head} F k p e z = (sym e, subst (λ (X : Domain). Filled X head) (sym (behind_stop D k p e z)) F)

pub take_done : (D : Domain) {head : List ℕ} (k : RecordKind) (p : List ℕ) {n : ℕ} → stop_of D k p ≡ n → n ≡ 0 → Filled (extend D k p) head → (n ≡ stop_of D k p) × Filled (domain_after D k p) head
take_done D {head} k p e z F = (sym e, subst (λ (X : Domain). Filled X head) (sym (behind_done D k p (e ∙ z))) F)

pub row_stop : {old : List ℕ} {D : Domain} {head table : List ℕ} → HeldOver old D head table → (k : RecordKind) (p : List ℕ) {n : ℕ}
    → stop_of D k p ≡ n → (n ≡ 0 → ⊥) → (n ≡ stop_of D k p) × HeldOver old (domain_after D k p) head table
row_stop {old} {D} {head} {table} K k p e z = (sym e, subst (λ (X : Domain). HeldOver old X head table) (sym (behind_stop D k p e z)) K)

pub row_done : {old : List ℕ} (D : Domain) {head table : List ℕ} (k : RecordKind) (p : List ℕ) {n : ℕ}
    → stop_of D k p ≡ n → n ≡ 0 → HeldOver old (extend D k p) head table → (n ≡ stop_of D k p) × HeldOver old (domain_after D k p) head table
row_done {old} D {head} {table} k p e z K = (sym e, subst (λ (X : Domain). HeldOver old X head table) (sym (behind_done D k p (e ∙ z))) K)

pub held_over : {old : List ℕ} {D : Domain} {head table : List ℕ} → HeldOver old D head table → Held D head table
held_over {old} K = record { says = K.filled.says; old = old; rows = K.rows }

pub not_zero : (n : ℕ) → suc n ≡ 0 → ⊥
not_zero n e = omega arith

-- what a result says of the number
pub stopped : (r : Result ⊤ RecordFault) → is_err r ≡ true → (record_stop r).number ≡ 0 → ⊥
stopped (Ok u) e z = clash e refl
stopped (Err f) e z = fault_some f.fault z

pub passed : (r : Result ⊤ RecordFault) → is_err r ≡ false → (record_stop r).number ≡ 0
passed (Ok u) e = refl
passed (Err f) e = absurd (clash refl e)

-- ---- the number that stops a relation, an action, the closing record

module _ {D : Domain} {head : List ℕ} (H : HeadOf D head) (p : List ℕ) where
  no_actions : actions_in head ≤ 0 → empty D.actions ≡ true
  no_actions g = let a = H.actions in empty_yes D.actions (omega arith)

  some_actions : 0 < actions_in head → empty D.actions ≡ false
  some_actions g = let a = H.actions in empty_no D.actions (omega arith)

  no_components : components_in head ≤ 0 → empty D.template ≡ true
  no_components g = let a = H.components in empty_yes D.template (omega arith)

  some_components : 0 < components_in head → empty D.template ≡ false
  some_components g = let a = H.components in empty_no D.template (omega arith)

  pub relation_behind_actions : 0 < actions_in head → stop_of D relation_record p ≡ 13
  relation_behind_actions g = stop_order D relation_record p refl (rw (some_actions g))

  module _ (a : actions_in head ≤ 0) where
    pub relation_behind_components : 0 < components_in head → stop_of D relation_record p ≡ 13
    relation_behind_components g = stop_order D relation_record p refl (rw (no_actions a, some_components g))

    module _ (c : components_in head ≤ 0) where
      relation_order : out_of_order D relation_record ≡ false
      relation_order = rw (no_actions a, no_components c)

      pub relation_full : max_relations ≤ relations_in head → stop_of D relation_record p ≡ 14
      relation_full g = let r = H.relations in stop_limit D relation_record p refl relation_order (le-leb max_relations (length D.arities) (omega arith))

      pub relation_number : relations_in head < max_relations → {n : ℕ} → n ≡ relation_stop p → stop_of D relation_record p ≡ n
      unfolding field_stop
      relation_number f e = let r = H.relations in stop_field D relation_record p refl relation_order (lt-leb max_relations (length D.arities) (omega arith)) ∙ sym e

  pub action_behind_components : 0 < components_in head → stop_of D action_record p ≡ 13
  action_behind_components g = stop_order D action_record p refl (rw (some_components g))

  module _ (c : components_in head ≤ 0) where
    action_order : out_of_order D action_record ≡ false
    action_order = rw (no_components c)

    pub action_full : max_actions ≤ actions_in head → stop_of D action_record p ≡ 14
    action_full g = let r = H.actions in stop_limit D action_record p refl action_order (le-leb max_actions (length D.actions) (omega arith))

    pub action_number : actions_in head < max_actions → {n : ℕ} → n ≡ action_stop p → stop_of D action_record p ≡ n
    unfolding field_stop
    action_number f e = let r = H.actions in stop_field D action_record p refl action_order (lt-leb max_actions (length D.actions) (omega arith)) ∙ sym e

  pub closing_long : (length p ≡ 0 → ⊥) → 12 ≡ stop_of D closing_record p
  unfolding field_stop closing_stop
  closing_long g = sym (stop_field D closing_record p refl refl refl ∙ simp (ne_eqb (length p) 0 g))

  pub closing_alone : length p ≡ 0 → components_in head ≡ 0 → 23 ≡ stop_of D closing_record p
  unfolding field_stop closing_stop
  closing_alone g c = sym (stop_field D closing_record p refl refl refl ∙ simp (eq-eqb (length p) 0 g, no_components (omega arith)))

  pub closing_taken : length p ≡ 0 → (components_in head ≡ 0 → ⊥) → 0 ≡ stop_of D closing_record p
  unfolding field_stop closing_stop
  closing_taken g c = sym (stop_field D closing_record p refl refl refl ∙ simp (eq-eqb (length p) 0 g, some_components (omega arith)))

-- of no known kind
pub unknown_stop : (D : Domain) (p : List ℕ) → stop_of D unknown_record p ≡ 11
unfolding stop_of head_stop
unknown_stop D p = refl

-- ---- a component

-- the rows "fields" of a component record, where there are so many relations and that of the component has this arity
abbrev component_field_rows : ℕ → ℕ → List ℕ → List (Bool × ℕ)
component_field_rows relations arity p = (ltb (length p) 1, 12) ∷ (leb relations (byte p 0), 17) ∷ (not (eqb (length p) (1 + arity)), 12) ∷ []

abbrev component_fields_of : Domain → List ℕ → ℕ
component_fields_of D p = number_of (component_field_rows (length D.arities) (arity D (byte p 0)) p) 0

-- the rows "fields" and "component" of a component record
component_split : (D : Domain) (p : List ℕ)
    → component_fault D p
    ≡ cond (eqb (component_fields_of D p) 0)
    (cond (any (λ (d : Component). eqb (byte p 0) d.rel) D.template) (at_record 22) (last_fault D p))
    (at_record (component_fields_of D p))
unfolding component_fault
component_split D p = faults_split (component_field_rows (length D.arities) (arity D (byte p 0)) p) _ refl

-- a component whose fields pass has at most as many labels as a relation has places
pub component_short : (head p : List ℕ) {n : ℕ} → n ≡ component_fields head p → n ≡ 0 → (1 ≤ length p) × (length p ≤ 1 + max_arguments)
unfolding component_fields
component_short head p e z =
    let r = (none_passes (component_field_rows (relations_in head) (arity_in head (byte p 0)) p) 0 refl (sym e ∙ z)).0 in
    let l = eqb-true (length p) (1 + arity_in head (byte p 0)) (not_false _ (r 2)) in
    let s = arity_limit head (byte p 0) in
    (ltb-false (length p) 1 (r 0), omega arith)

module _ {D : Domain} {head table : List ℕ} (K : Held D head table) (p : List ℕ) {n : ℕ} (e : n ≡ component_fields head p) where
  component_fields_are : n ≡ component_fields_of D p
  unfolding component_fields
  component_fields_are =
      e ∙ ap₂ (λ (k a : ℕ). number_of (component_field_rows k a p) 0) K.says.relations (K.says.arities (byte p 0))

  pub component_fields_stop : (n ≡ 0 → ⊥) → at_record n ≡ component_fault D p
  component_fields_stop z =
      ap at_record component_fields_are
      ∙ sym (component_split D p ∙ rw (ne_eqb (component_fields_of D p) 0 (λ q. z (component_fields_are ∙ q))))

  module _ (z : n ≡ 0) {u : Bool} (f : u ≡ any (λ row. eqb (byte p 0) (byte row 0)) (component_rows_in head)) where
    used_is : u ≡ any (λ (d : Component). eqb (byte p 0) d.rel) D.template
    used_is =
        f ∙ ap (any (λ row. eqb (byte p 0) (byte row 0))) K.says.component_rows ∙ any_component (byte p 0) D.template

    pub component_used : u ≡ true → at_record 22 ≡ component_fault D p
    component_used t = sym (component_split D p ∙ rw (eq-eqb (component_fields_of D p) 0 (sym component_fields_are ∙ z), sym used_is ∙ t))

    -- the labels, then the keys where the rows have FF
    module _ (t : u ≡ false) {k : ℕ} {m : RecordStop} (q : k ≡ keys_of (D.template ++ (component_of p ∷ [])))
        (r : m ≡ label_fault k (component_of p).labels) where
      by_labels : component_fault D p ≡ cleared_fault D.actions (component_of p) m
      by_labels =
          component_split D p
          ∙ rw (eq-eqb (component_fields_of D p) 0 (sym component_fields_are ∙ z), sym used_is ∙ t)
          (ap (cleared_fault D.actions (component_of p)) (sym (r ∙ ap (λ (k : ℕ). label_fault k (component_of p).labels) q)))

      pub component_labels : (m.number ≡ 0 → ⊥) → m ≡ component_fault D p
      component_labels l = sym (by_labels ∙ rw (ne_eqb m.number 0 l))

      -- no literal has FF
      pub component_plain : m.number ≡ 0 → clears_in head ≡ false → m ≡ component_fault D p
      component_plain l f =
          sym (by_labels ∙ rw (eq-eqb m.number 0 l, none_cleared D.actions (component_of p) (sym K.says.clears ∙ f)))

      module _ (l : m.number ≡ 0) {w : ℕ} (c : w ≡ length (all_literals D.actions)) {b : Bool}
          (d : b ≡ any (key_cleared_in p) (rows_in w table)) where
        cleared_is : b ≡ keys_cleared D.actions (component_of p)
        cleared_is =
            let B = K.says.bounded in
            let rows = component_field_rows (length D.arities) (arity D (byte p 0)) p in
            let s = (none_passes rows 0 refl (sym component_fields_are ∙ z)).0 in
            d ∙ ap (any (key_cleared_in p)) (ap (λ (k : ℕ). rows_in k table) c ∙ all_rows_lem K)
            ∙ sym (cleared_rows D B p (eqb-true (length p) (1 + arity D (byte p 0)) (not_false _ (s 2))))

        pub component_cleared : b ≡ true → at_record 27 ≡ component_fault D p
        component_cleared y = sym (by_labels ∙ rw (eq-eqb m.number 0 l, sym cleared_is ∙ y))

        pub component_kept : b ≡ false → m ≡ component_fault D p
        component_kept y = sym (by_labels ∙ rw (eq-eqb m.number 0 l, sym cleared_is ∙ y))

module _ {D : Domain} {head : List ℕ} (H : HeadOf D head) (p : List ℕ) where
  components_full : max_components ≤ components_in head → at_limit D component_record ≡ true
  components_full g = let r = H.components in le-leb max_components (length D.template) (omega arith)

  components_room : components_in head < max_components → at_limit D component_record ≡ false
  components_room g = let r = H.components in lt-leb max_components (length D.template) (omega arith)

  pub component_full : max_components ≤ components_in head → stop_of D component_record p ≡ 14
  component_full g = stop_limit D component_record p refl refl (components_full g)

  pub component_full_place : max_components ≤ components_in head → 0 ≡ stop_place D component_record p
  component_full_place g = sym (place_limit D component_record p refl refl (components_full g))

  module _ (f : components_in head < max_components) {r : RecordStop} (e : r ≡ component_fault D p) where
    pub component_number : stop_of D component_record p ≡ r.number
    unfolding field_stop component_stop
    component_number = stop_field D component_record p refl refl (components_room f) ∙ sym (ap (λ (x : RecordStop). x.number) e)

    pub component_place : r.within ≡ stop_place D component_record p
    unfolding field_place
    component_place = ap (λ (x : RecordStop). x.within) e ∙ sym (place_field D component_record p refl refl (components_room f))

-- ---- a literal

-- the rows "fields" of a literal record, where no role is two rows: of so many relations, an arity, and an action's variables and sort
abbrev literal_field_rows : ℕ → ℕ → ℕ → Bool → List ℕ → List (Bool × ℕ)
literal_field_rows relations arity vars lasting p =
    (ltb (length p) 2, 12)
    ∷ (ltb 9 (byte p 0), 16)
    ∷ (ltb 3 (byte p 0) && not lasting, 16)
    ∷ (leb relations (byte p 1), 17)
    ∷ (not (eqb (length p) (2 + arity)), 12)
    ∷ (not (clears_once (literal_of p)), 26)
    ∷ (any (no_variable vars) (drop 2 p), 18)
    ∷ []

abbrev literal_fields_of : Domain → List ℕ → ℕ
literal_fields_of D p =
    let a = latest D.actions in
    number_of (literal_field_rows (length D.arities) (arity D (byte p 1)) a.vars a.lasting p) 0

-- those and the rows "literal"
literal_split : (D : Domain) (p : List ℕ)
    → let a = latest D.actions in
    literal_stop D p
    ≡ cond (eqb (literal_fields_of D p) 0) (cond (any (repeats (literal_of p)) a.lits) 19 (cond (any (contradicts (literal_of p)) a.lits) 20 0)) (literal_fields_of D p)
unfolding literal_stop
literal_split D p =
    let a = latest D.actions in
    ap (cond (ltb (length p) 2) 12) (cond_or (ltb 9 (byte p 0)) (ltb 3 (byte p 0) && not a.lasting) 16 _)
    ∙ rows_split (literal_field_rows (length D.arities) (arity D (byte p 1)) a.vars a.lasting p) _ refl

-- a literal whose fields pass
record FieldsPass (arity vars : ℕ) (p : List ℕ) : Type 0 where
  long : 2 ≤ length p
  role : byte p 0 ≤ 9
  arguments : length p ≡ 2 + arity
  variables : any (no_variable vars) (drop 2 p) ≡ false

fields_pass : (relations arity vars : ℕ) (lasting : Bool) (p : List ℕ) → number_of (literal_field_rows relations arity vars lasting p) 0 ≡ 0
    → FieldsPass arity vars p
fields_pass relations arity vars lasting p e =
    let r = (none_passes (literal_field_rows relations arity vars lasting p) 0 refl e).0 in
    record { long = ltb-false _ _ (r 0); role = ltb-false _ _ (r 1); arguments = eqb-true _ _ (not_false _ (r 4)); variables = r 6 }

-- as a head says them: the shape of the literal, then its arguments
abbrev fields_in : List ℕ → ℕ → List ℕ → ℕ
fields_in head i p = number_of (literal_field_rows (relations_in head) (arity_in head (byte p 1)) (variables_in head i) (lasting_in head i) p) 0

fields_split : (head : List ℕ) (i : ℕ) (p : List ℕ)
    → fields_in head i p ≡ cond (eqb (literal_shape head i p) 0) (literal_arguments (variables_in head i) p) (literal_shape head i p)
unfolding literal_shape arguments_stop literal_arguments
fields_split head i p =
    rows_split
    ((ltb (length p) 2, 12)
    ∷ (ltb 9 (byte p 0), 16)
    ∷ (ltb 3 (byte p 0) && not (lasting_in head i), 16)
    ∷ (leb (relations_in head) (byte p 1), 17)
    ∷ (not (eqb (length p) (2 + arity_in head (byte p 1))), 12)
    ∷ [])
    (literal_arguments (variables_in head i) p) refl

-- where the arguments pass, one is not below where the literal has FF
pub told_every : (n : ℕ) (p : List ℕ) → n ≤ 255 → (b : Bool) → b ≡ any (leb n) (drop 2 p) → literal_arguments n p ≡ 0 → b ≡ has_every (literal_of p)
told_every n p h true t e = some_every_lem n p (sym t) e
told_every n p h false t e = plain_every n p h (sym t)

-- a literal whose shape passes
pub literal_short : (head : List ℕ) (i : ℕ) (p : List ℕ) → literal_shape head i p ≡ 0 → (2 ≤ length p) × (length p ≤ 8)
unfolding literal_shape arguments_stop
literal_short head i p e =
    let r =
    (none_passes
    ((ltb (length p) 2, 12)
    ∷ (ltb 9 (byte p 0), 16)
    ∷ (ltb 3 (byte p 0) && not (lasting_in head i), 16)
    ∷ (leb (relations_in head) (byte p 1), 17)
    ∷ (not (eqb (length p) (2 + arity_in head (byte p 1))), 12)
    ∷ []) 0 refl e).0 in
    let a = eqb-true (length p) (2 + arity_in head (byte p 1)) (not_false _ (r 4)) in
    let s = arity_limit head (byte p 1) in
    (ltb-false (length p) 2 (r 0), omega arith)

module _ {D : Domain} {head table : List ℕ} (K : Held D head table) (p : List ℕ) (last : ℕ) (w : last + 1 ≡ length D.actions) where
  at_last : action D last ≡ latest D.actions
  unfolding action
  at_last = latest_at D.actions last (omega arith)

  literal_fields_are : fields_in head last p ≡ literal_fields_of D p
  literal_fields_are =
      let H = K.says in
      let l : last < length D.actions = omega arith in
      let v = H.variables last l ∙ ap (λ (a : Action). a.vars) at_last in
      let s = H.lasting last l ∙ ap (λ (a : Action). a.lasting) at_last in
      λ i. number_of (literal_field_rows (H.relations i) (H.arities (byte p 1) i) (v i) (s i) p) 0

  fields_stop : {n : ℕ} → n ≡ fields_in head last p → (n ≡ 0 → ⊥) → n ≡ literal_stop D p
  fields_stop e z =
      let f = e ∙ literal_fields_are in
      f ∙ sym (literal_split D p ∙ rw (ne_eqb (literal_fields_of D p) 0 (λ q. z (f ∙ q))))

  pub shape_stop : {n : ℕ} → n ≡ literal_shape head last p → (n ≡ 0 → ⊥) → n ≡ literal_stop D p
  shape_stop e z = fields_stop (e ∙ sym (fields_split head last p ∙ rw (ne_eqb (literal_shape head last p) 0 (λ q. z (e ∙ q))))) z

  module _ {n v k : ℕ} (e : n ≡ literal_shape head last p) (z : n ≡ 0) (u : v ≡ variables_in head last) (f : k ≡ literal_arguments v p) where
    by_arguments : k ≡ fields_in head last p
    by_arguments =
        f ∙ ap (λ (m : ℕ). literal_arguments m p) u
        ∙ sym (fields_split head last p ∙ rw (eq-eqb (literal_shape head last p) 0 (sym e ∙ z)))

    pub arguments_stop_lem : (k ≡ 0 → ⊥) → k ≡ literal_stop D p
    arguments_stop_lem y = fields_stop by_arguments y

    -- its fields pass: it is stopped by the rows
    module _ (y : k ≡ 0) {span : Span} (S : SpanOf D last table span) {r : ℕ} (q : r ≡ rows_stop (row_of p) (rows_of span table)) where
      abbrev lits : List Literal
      lits = (latest D.actions).lits

      latest_listed : In (latest D.actions) D.actions
      latest_listed = subst (λ (a : Action). In a D.actions) (latest_at D.actions last (omega arith)) (get_d_in D.actions last no_action (omega arith))

      none : literal_fields_of D p ≡ 0
      none = sym literal_fields_are ∙ sym by_arguments ∙ y

      comparable : Comparable D p
      comparable =
          let B = K.says.bounded in
          let last = latest D.actions in
          let f = fields_pass (length D.arities) (arity D (byte p 1)) last.vars last.lasting p none in
          let s = arity_six D B.arities (byte p 1) in
          let a = f.arguments in
          let n = B.counts last latest_listed in
          record {
            enough = f.long;
            fits = omega arith;
            role = f.role;
            arguments = a;
            variables = λ v m. let k = variables_below last.vars (drop 2 p) f.variables v m in omega arith;
          }

      rows_are : rows_of span table ≡ map literal_row lits
      rows_are =
          let B = K.says.bounded in
          let m = S.size ∙ ap (λ (a : Action). span.from + length a.lits) at_last in
          let j : span.to - span.from ≡ length lits = omega arith in
          let part = drop (8 * span.from) table in
          ap (λ (k : ℕ). rows_in k part) j
          ∙ ap (rows_in (length lits)) (sym (take-append-drop (8 * span.to - 8 * span.from) part)
          ∙ ap (λ (l : List ℕ). l ++ drop (8 * span.to - 8 * span.from) part) (S.literals ∙ ap (λ (a : Action). flat_map literal_row a.lits) at_last))
          ∙ rows_flat literal_row lits (drop (8 * span.to - 8 * span.from) part) (λ l i. length_literal_row l (B.arguments (latest D.actions) latest_listed l i))

      pub literal_compared : r ≡ literal_stop D p
      literal_compared =
          q ∙ ap (rows_stop (row_of p)) rows_are ∙ literals_stop p lits comparable (λ l m. kept K.says.bounded latest_listed m)
          ∙ sym (literal_split D p ∙ rw (eq-eqb (literal_fields_of D p) 0 none))

-- the number that stops a row beside rows, by two questions
module _ (q : List ℕ) (rows : List (List ℕ)) {s : Bool} (e : s ≡ any (same_list eqb q) rows) where
  pub rows_same : s ≡ true → 19 ≡ rows_stop q rows
  unfolding rows_stop
  rows_same t = rw (← e, t)

  module _ {o : Bool} (n : s ≡ false) (f : o ≡ any (contradicts_row q) rows) where
    pub rows_opposed : o ≡ true → 20 ≡ rows_stop q rows
    unfolding rows_stop
    rows_opposed t = rw (← e, n, ← f, t)

    pub rows_free : o ≡ false → 0 ≡ rows_stop q rows
    unfolding rows_stop
    rows_free t = rw (← e, n, ← f, t)

-- ---- the head of a literal

-- the rows of the latest action are the last ones of all
module _ {D : Domain} {last : ℕ} {table : List ℕ} {span : Span} (w : last + 1 ≡ length D.actions) (S : SpanOf D last table span) where
  pub span_size : span.to - span.from ≡ length (latest D.actions).lits
  unfolding action
  span_size = let m = S.size ∙ ap (λ (a : Action). span.from + length a.lits) (latest_at D.actions last (omega arith)) in omega arith

  pub span_all : span.to ≡ length (all_literals D.actions)
  span_all =
      let a = S.first in
      let b = S.size in
      let n = literals_after D last (omega arith) in
      let t = ap (λ (as' : List Action). length (all_literals as')) (take_all (suc last) D.actions (omega arith)) in
      omega arith

module _ {D : Domain} {head : List ℕ} (H : HeadOf D head) (p : List ℕ) where
  pub literal_early : actions_in head ≡ 0 → stop_of D literal_record p ≡ 13
  literal_early g = stop_order D literal_record p refl (rw (no_actions H p (omega arith)))

  pub literal_late : 0 < components_in head → stop_of D literal_record p ≡ 13
  literal_late g = stop_order D literal_record p refl (rw (some_components H p g) (or-true (empty D.actions)))

  module _ (a : 0 < actions_in head) (c : components_in head ≤ 0) where
    literal_order : out_of_order D literal_record ≡ false
    literal_order = rw (some_actions H p a, no_components H p c)

    pub literal_full : max_literals ≤ length (latest D.actions).lits → stop_of D literal_record p ≡ 14
    literal_full g = stop_limit D literal_record p refl literal_order (le-leb max_literals (length (latest D.actions).lits) g)

    pub literal_number : length (latest D.actions).lits < max_literals → {n : ℕ} → n ≡ literal_stop D p → stop_of D literal_record p ≡ n
    unfolding field_stop
    literal_number g e = stop_field D literal_record p refl literal_order (lt-leb max_literals (length (latest D.actions).lits) g) ∙ sym e
