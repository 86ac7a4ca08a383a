-- What is known of a record that no number stops. Assumes nothing.
use mathlib.Core.Path.{◌≡◌, refl, sym, ap, ◌∙◌}
use mathlib.Core.Bool.{Bool, true, false, ◌&&◌, ◌||◌, not, cond}
use mathlib.Core.List.{List, [], ◌∷◌, ◌++◌}
use Prim.Native.Nat.{ℕ, ◌+◌, ◌≤◌, ◌<◌}
use lib.Dec.{eqb, ltb, leb}
use lib.ListN.{length, drop}
use native.Mathlib.Omega.{arith}
use borrow.Author.Tests.{ltb-true, ltb-false, leb-false, eqb-true, eqb-false, eq-eqb, ne_eqb}
use Rattle.records.specs.Lists.{any, empty}
use Rattle.records.proofs.Lists.{and_l, and_r, not_false, clash, or_out}
use Rattle.records.proofs.Numbers.{number_of, numbered, none_passes}
use Rattle.literals.specs.Decode.{RecordStop}
use Rattle.literals.specs.Domain.{clears_once, Action, Component, keys_of, labels_fit, Domain, arity}
use Rattle.literals.specs.Decode.{max_relations, max_actions, max_literals, max_components, RecordKind, relation_record, action_record}
use Rattle.literals.specs.Decode.{literal_record, component_record, closing_record, unknown_record, latest, head_stop, byte}
use Rattle.literals.specs.Decode.{relation_stop, action_stop, field_fault, fault_of_record}
use Rattle.literals.specs.Decode.{literal_of, repeats, contradicts, no_role, no_variable, literal_stop, at_record, component_of, label_fault}
use Rattle.literals.specs.Decode.{keys_cleared, cleared_fault, component_fault, component_stop, field_stop, field_place, stop_of, stop_place}
use Rattle.literals.proofs.Labels.{passes_fit, passes_place}

-- ---- the head of a record, test by test

abbrev pub is_unknown : RecordKind → Bool
is_unknown relation_record = false
is_unknown action_record = false
is_unknown literal_record = false
is_unknown component_record = false
is_unknown closing_record = false
is_unknown unknown_record = true

abbrev pub out_of_order : Domain → RecordKind → Bool
out_of_order D relation_record = not (empty D.actions && empty D.template)
out_of_order D action_record = not (empty D.template)
out_of_order D literal_record = empty D.actions || not (empty D.template)
out_of_order D component_record = false
out_of_order D closing_record = false
out_of_order D unknown_record = false

abbrev pub at_limit : Domain → RecordKind → Bool
at_limit D relation_record = leb max_relations (length D.arities)
at_limit D action_record = leb max_actions (length D.actions)
at_limit D literal_record = leb max_literals (length (latest D.actions).lits)
at_limit D component_record = leb max_components (length D.template)
at_limit D closing_record = false
at_limit D unknown_record = false

abbrev pub head_rows : Domain → RecordKind → List (Bool × ℕ)
head_rows D k = (is_unknown k, 11) ∷ (out_of_order D k, 13) ∷ (at_limit D k, 14) ∷ []

pub head_number : (D : Domain) (k : RecordKind) → head_stop D k ≡ number_of (head_rows D k) 0
unfolding head_stop
head_number D relation_record = refl
head_number D action_record = refl
head_number D literal_record = refl
head_number D component_record = refl
head_number D closing_record = refl
head_number D unknown_record = refl

-- what stops a record, by the number of its head
pub stop_by_head : (D : Domain) (k : RecordKind) (p : List ℕ) {n : ℕ} → head_stop D k ≡ n
    → fault_of_record D k p ≡ cond (eqb n 0) (field_fault D k p) (at_record n)
unfolding fault_of_record
stop_by_head D k p e = ap (λ (n : ℕ). cond (eqb n 0) (field_fault D k p) (at_record n)) e

-- ---- head and fields

pub record Passes (D : Domain) (k : RecordKind) (p : List ℕ) : Type 0 where
  pub known : is_unknown k ≡ false
  pub order : out_of_order D k ≡ false
  pub room : at_limit D k ≡ false
  pub fields : field_stop D k p ≡ 0

pub passes : (D : Domain) (k : RecordKind) (p : List ℕ) → stop_of D k p ≡ 0 → Passes D k p
unfolding stop_of field_stop
passes D k p e = go (eqb (head_stop D k) 0) refl e
  where
    go : (b : Bool) → eqb (head_stop D k) 0 ≡ b → (cond b (field_fault D k p) (at_record (head_stop D k))).number ≡ 0 → Passes D k p
    go true q z =
        let r = (none_passes (head_rows D k) 0 refl (sym (head_number D k) ∙ eqb-true (head_stop D k) 0 q)).0 in
        record { known = r 0; order = r 1; room = r 2; fields = z }
    go false q z = absurd (clash (eq-eqb (head_stop D k) 0 z) q)

-- ---- each kind

pub relation_passes : (p : List ℕ) → relation_stop p ≡ 0 → (length p ≡ 1) × (byte p 0 ≤ 6)
unfolding relation_stop
relation_passes p e =
    let r = (none_passes ((not (eqb (length p) 1), 12) ∷ (ltb 6 (byte p 0), 15) ∷ []) 0 refl e).0 in
    (eqb-true _ _ (not_false _ (r 0)), ltb-false _ _ (r 1))

pub action_passes : (p : List ℕ) → action_stop p ≡ 0 → (length p ≡ 2) × (byte p 0 ≤ 16) × (byte p 1 ≤ 1)
unfolding action_stop
action_passes p e =
    let r = (none_passes ((not (eqb (length p) 2), 12) ∷ (ltb 16 (byte p 0), 15) ∷ (ltb 1 (byte p 1), 15) ∷ []) 0 refl e).0 in
    (eqb-true _ _ (not_false _ (r 0)), ltb-false _ _ (r 1), ltb-false _ _ (r 2))

pub record LiteralPasses (D : Domain) (p : List ℕ) : Type 0 where
  pub long : 2 ≤ length p
  pub role : no_role (latest D.actions) (byte p 0) ≡ false
  pub relation : byte p 1 < length D.arities
  pub arguments : length p ≡ 2 + arity D (byte p 1)
  pub clears : clears_once (literal_of p) ≡ true
  pub variables : any (no_variable (latest D.actions).vars) (drop 2 p) ≡ false
  pub once : any (repeats (literal_of p)) (latest D.actions).lits ≡ false
  pub agrees : any (contradicts (literal_of p)) (latest D.actions).lits ≡ false

-- the rows of a literal
abbrev pub literal_rows : Domain → List ℕ → List (Bool × ℕ)
literal_rows D p =
    let a = latest D.actions in
    (ltb (length p) 2, 12)
    ∷ (no_role a (byte p 0), 16)
    ∷ (leb (length D.arities) (byte p 1), 17)
    ∷ (not (eqb (length p) (2 + arity D (byte p 1))), 12)
    ∷ (not (clears_once (literal_of p)), 26)
    ∷ (any (no_variable a.vars) (drop 2 p), 18)
    ∷ (any (repeats (literal_of p)) a.lits, 19)
    ∷ (any (contradicts (literal_of p)) a.lits, 20)
    ∷ []

pub literal_passes : (D : Domain) (p : List ℕ) → literal_stop D p ≡ 0 → LiteralPasses D p
unfolding literal_stop
literal_passes D p e =
    let r = (none_passes (literal_rows D p) 0 refl e).0 in
    record {
      long = ltb-false _ _ (r 0);
      role = r 1;
      relation = leb-false _ _ (r 2);
      arguments = eqb-true _ _ (not_false _ (r 3));
      clears = not_false _ (r 4);
      variables = r 5;
      once = r 6;
      agrees = r 7;
    }

pub role_nine : (a : Action) (r : ℕ) → no_role a r ≡ false → r ≤ 9
role_nine a r e = ltb-false 9 r (or_out (ltb 9 r) _ e).0

pub record ComponentPasses (D : Domain) (p : List ℕ) : Type 0 where
  pub long : 1 ≤ length p
  pub relation : byte p 0 < length D.arities
  pub arguments : length p ≡ 1 + arity D (byte p 0)
  pub once : any (λ (d : Component). eqb (byte p 0) d.rel) D.template ≡ false
  pub labels : labels_fit (keys_of (D.template ++ (component_of p ∷ []))) (component_of p).labels ≡ true
  pub keys : keys_cleared D.actions (component_of p) ≡ false

-- the rows of a component, but the last one
abbrev pub component_rows : Domain → List ℕ → List (Bool × ℕ)
component_rows D p =
    (ltb (length p) 1, 12)
    ∷ (leb (length D.arities) (byte p 0), 17)
    ∷ (not (eqb (length p) (1 + arity D (byte p 0))), 12)
    ∷ (any (λ (d : Component). eqb (byte p 0) d.rel) D.template, 22)
    ∷ []

-- the labels of a component, of the template with it
abbrev pub labels_fault : Domain → List ℕ → RecordStop
labels_fault D p = label_fault (keys_of (D.template ++ (component_of p ∷ []))) (component_of p).labels

-- then its keys, where the literals of its relation have FF
abbrev pub last_fault : Domain → List ℕ → RecordStop
last_fault D p = cleared_fault D.actions (component_of p) (labels_fault D p)

pub cleared_passes : (as' : List Action) (c : Component) (f : RecordStop) → (cleared_fault as' c f).number ≡ 0
    → (f.number ≡ 0) × (keys_cleared as' c ≡ false)
cleared_passes as' c f = go (eqb f.number 0) (keys_cleared as' c) refl
  where
    go : (b t : Bool) → eqb f.number 0 ≡ b → (cond (b && t) (at_record 27) f).number ≡ 0 → (f.number ≡ 0) × (t ≡ false)
    go true true e z = absurd (omega arith)
    go true false e z = (z, refl)
    go false t e z = absurd (eqb-false f.number 0 e z)

-- where nothing stops it there is no place
pub cleared_place : (as' : List Action) (c : Component) (f : RecordStop) → (f.number ≡ 0 → f.within ≡ 0)
    → (cleared_fault as' c f).number ≡ 0 → (cleared_fault as' c f).within ≡ 0
cleared_place as' c f h = go (eqb f.number 0 && keys_cleared as' c)
  where
    go : (b : Bool) → (cond b (at_record 27) f).number ≡ 0 → (cond b (at_record 27) f).within ≡ 0
    go true e = refl
    go false e = h e

-- rows at the record, and a fault behind them
abbrev pub fault_by : List (Bool × ℕ) → RecordStop → RecordStop
fault_by [] f = f
fault_by (row ∷ rows) f = cond row.0 (at_record row.1) (fault_by rows f)

pub fault_number : (rows : List (Bool × ℕ)) (f : RecordStop) → (fault_by rows f).number ≡ number_of rows f.number
fault_number [] f = refl
fault_number (row ∷ rows) f = go row.0 (fault_number rows f)
  where
    go : (b : Bool) → (fault_by rows f).number ≡ number_of rows f.number → (cond b (at_record row.1) (fault_by rows f)).number ≡ cond b row.1 (number_of rows f.number)
    go true ih = refl
    go false ih = ih

-- the rows by themselves, and the fault behind them
pub faults_split : (rows : List (Bool × ℕ)) (f : RecordStop) → numbered (ltb 0) rows ≡ true → fault_by rows f ≡ cond (eqb (number_of rows 0) 0) f (at_record (number_of rows 0))
faults_split [] f t = refl
faults_split (row ∷ rows) f t = go row.0 (faults_split rows f (and_r (ltb 0 row.1) _ t))
  where
    go : (b : Bool) → fault_by rows f ≡ cond (eqb (number_of rows 0) 0) f (at_record (number_of rows 0))
        → cond b (at_record row.1) (fault_by rows f) ≡ cond (eqb (cond b row.1 (number_of rows 0)) 0) f (at_record (cond b row.1 (number_of rows 0)))
    go true ih = let l = ltb-true 0 row.1 (and_l _ _ t) in rw (ne_eqb row.1 0 (λ e. omega arith))
    go false ih = ih

-- where nothing stops it there is no place
pub faults_none : (rows : List (Bool × ℕ)) (f : RecordStop) → numbered (ltb 0) rows ≡ true → (f.number ≡ 0 → f.within ≡ 0) → (fault_by rows f).number ≡ 0 → (fault_by rows f).within ≡ 0
faults_none [] f t h e = h e
faults_none (row ∷ rows) f t h e = go row.0 e (faults_none rows f (and_r (ltb 0 row.1) _ t) h)
  where
    go : (b : Bool) → (cond b (at_record row.1) (fault_by rows f)).number ≡ 0 → ((fault_by rows f).number ≡ 0 → (fault_by rows f).within ≡ 0)
        → (cond b (at_record row.1) (fault_by rows f)).within ≡ 0
    go true e ih = refl
    go false e ih = ih e

pub component_number : (D : Domain) (p : List ℕ) → component_stop D p ≡ number_of (component_rows D p) (last_fault D p).number
unfolding component_stop component_fault
component_number D p = fault_number (component_rows D p) (last_fault D p)

pub component_place : (D : Domain) (p : List ℕ) → component_stop D p ≡ 0 → (component_fault D p).within ≡ 0
unfolding component_stop component_fault
component_place D p =
    faults_none (component_rows D p) (last_fault D p) refl
    (cleared_place D.actions (component_of p) (labels_fault D p)
    (passes_place (keys_of (D.template ++ (component_of p ∷ []))) (component_of p).labels))

pub component_passes : (D : Domain) (p : List ℕ) → component_stop D p ≡ 0 → ComponentPasses D p
component_passes D p e =
    let r = none_passes (component_rows D p) (last_fault D p).number refl (sym (component_number D p) ∙ e) in
    let s = cleared_passes D.actions (component_of p) (labels_fault D p) r.1 in
    record {
      long = ltb-false _ _ (r.0 0);
      relation = leb-false _ _ (r.0 1);
      arguments = eqb-true _ _ (not_false _ (r.0 2));
      once = r.0 3;
      labels = passes_fit (keys_of (D.template ++ (component_of p ∷ []))) (component_of p).labels s.0;
      keys = s.1;
    }

-- ---- the place

-- a record whose fields have no place of their own, or whose head stops it, is at fault itself
by_fields : (D : Domain) (k : RecordKind) (p : List ℕ) → field_place D k p ≡ 0 → stop_place D k p ≡ 0
unfolding stop_place field_place
by_fields D k p e = go (eqb (head_stop D k) 0)
  where
    go : (b : Bool) → (cond b (field_fault D k p) (at_record (head_stop D k))).within ≡ 0
    go true = e
    go false = refl

-- only components have labels
abbrev pub has_labels : RecordKind → Bool
has_labels relation_record = false
has_labels action_record = false
has_labels literal_record = false
has_labels component_record = true
has_labels closing_record = false
has_labels unknown_record = false

pub place_record : (D : Domain) (k : RecordKind) (p : List ℕ) → has_labels k ≡ false → stop_place D k p ≡ 0
unfolding field_place
place_record D relation_record p e = by_fields D relation_record p refl
place_record D action_record p e = by_fields D action_record p refl
place_record D literal_record p e = by_fields D literal_record p refl
place_record D component_record p e = absurd (clash refl e)
place_record D closing_record p e = by_fields D closing_record p refl
place_record D unknown_record p e = by_fields D unknown_record p refl

-- where nothing stops the record there is no place
pub place_none : (D : Domain) (k : RecordKind) (p : List ℕ) → stop_of D k p ≡ 0 → stop_place D k p ≡ 0
unfolding field_stop field_place
place_none D relation_record p e = place_record D relation_record p refl
place_none D action_record p e = place_record D action_record p refl
place_none D literal_record p e = place_record D literal_record p refl
place_none D component_record p e = by_fields D component_record p (component_place D p (passes D component_record p e).fields)
place_none D closing_record p e = place_record D closing_record p refl
place_none D unknown_record p e = place_record D unknown_record p refl
