-- The table with one record more. Assumes nothing.
use mathlib.Core.Path.{◌≡◌, refl, sym, ap, ◌∙◌}
use mathlib.Core.Bool.{Bool, true, false, cond}
use mathlib.Core.Logic.{◌⊎◌, inl, inr}
use mathlib.Core.List.{List, [], ◌∷◌, ◌++◌, flat_map, append-nil}
use Prim.Native.Nat.{ℕ, zero, suc, ◌+◌, ◌-◌, ◌*◌, ◌≤◌, ◌<◌}
use native.Mathlib.Omega.{arith}
use lib.Dec.{eqb}
use lib.ListN.{length}
use lib.Seq.{paste}
use borrow.Author.Tests.{eqb-true, eqb-false, ne_eqb}
use Rattle.records.specs.Lists.{empty}
use Rattle.records.specs.Memory.{over}
use Rattle.records.proofs.Lists.{clash, bool_cases, or_out, flat_map_snoc}
use Rattle.literals.specs.declared.span.Span.{Span}
use Rattle.literals.specs.Domain.{Domain}
use Rattle.literals.specs.Decode.{RecordKind, relation_record, action_record, literal_record, component_record, closing_record, unknown_record}
use Rattle.literals.specs.Decode.{max_literals, kind_of, latest, byte, literal_of, literal_stop, action_of, field_stop, stop_of, stop_place, extend}
use Rattle.literals.specs.Held.{row_of, literal_row, all_literals, table_bytes, actions_in, components_in, variables_in, SpanOf, Filled}
use Rattle.literals.specs.Held.{literal_shape, literal_arguments}
use Rattle.literals.specs.Faults.{fault_number}
use Rattle.literals.specs.declared.fault.Fault.{Fault}
use Rattle.literals.specs.declared.fault.Fault.TheVariants.{UnknownKind}
use Rattle.literals.proofs.Stops.{place_record, passes, literal_passes, role_nine}
use Rattle.literals.proofs.Tables.{over_row, payload_row}
use Rattle.literals.proofs.Held.{literals_snoc, literals_more}
use Rattle.literals.proofs.Heads.{length_table}
use Rattle.reading.specs.Held.{domain_after, HeldOver, Placed}
use Rattle.reading.specs.Kinds.{KindOf}
use Rattle.std.specs.Prelude.{Result, Ok, Err}
use Rattle.std.specs.Result.{result_eq}
use Rattle.reading.specs.declared.kind.Kind.{Kind}
use Rattle.reading.specs.declared.kind.Kind.TheVariants.{Relation, Action, Literal, Component, Closing}
use Rattle.reading.proofs.Takes.{take_stop, not_zero, unknown_stop, row_stop, row_done, held_over, literal_short, literal_compared, span_size, span_all, literal_number}

not_empty : {A : Type 0} (l : List A) → empty l ≡ false → 0 < length l
not_empty [] e = absurd (clash refl e)
not_empty (x ∷ l) e = omega arith

-- no other kind writes a literal
pub table_same : (D : Domain) (k : RecordKind) (p : List ℕ) → all_literals (extend D k p).actions ≡ all_literals D.actions → table_bytes (domain_after D k p) ≡ table_bytes D
unfolding domain_after table_bytes
table_same D k p e = go (eqb (stop_of D k p) 0)
  where
    go : (b : Bool) → table_bytes (cond b (extend D k p) D) ≡ table_bytes D
    go true = ap (flat_map literal_row) e
    go false = refl

pub same_relation : (D : Domain) (p : List ℕ) → table_bytes (domain_after D relation_record p) ≡ table_bytes D
unfolding extend
same_relation D p = table_same D relation_record p refl

pub same_action : (D : Domain) (p : List ℕ) → table_bytes (domain_after D action_record p) ≡ table_bytes D
unfolding extend
same_action D p = table_same D action_record p (literals_snoc D.actions (action_of p) ∙ append-nil (all_literals D.actions))

pub same_component : (D : Domain) (p : List ℕ) → table_bytes (domain_after D component_record p) ≡ table_bytes D
unfolding extend
same_component D p = table_same D component_record p refl

pub same_closing : (D : Domain) (p : List ℕ) → table_bytes (domain_after D closing_record p) ≡ table_bytes D
unfolding extend
same_closing D p = table_same D closing_record p refl

pub same_unknown : (D : Domain) (p : List ℕ) → table_bytes (domain_after D unknown_record p) ≡ table_bytes D
unfolding extend
same_unknown D p = table_same D unknown_record p refl

-- ---- a literal

-- head and table with a literal more
pub literal_held : {old : List ℕ} {D : Domain} {head table : List ℕ} → HeldOver old D head table → (p : List ℕ) → stop_of D literal_record p ≡ 0
    → {after : List ℕ} → Filled (extend D literal_record p) after → {rows : List ℕ} (at : ℕ) → at ≡ length (all_literals D.actions) → length p ≤ 8
    → rows ≡ paste table (8 * at) (row_of p) 8 → HeldOver old (extend D literal_record p) after rows
unfolding table_bytes extend field_stop
literal_held {old} {D} K p e F at a l v =
    let ok = passes D literal_record p e in
    let s = literal_passes D p ok.fields in
    let some = (or_out (empty D.actions) _ ok.order).0 in
    let listed : 0 < length D.actions = not_empty D.actions some in
    record {
      filled = F;
      rows =
          v ∙ ap (λ (m : List ℕ). paste m (8 * at) (row_of p) 8) K.rows
          ∙ over_row (table_bytes D) old p (8 * at) (length_table K.filled.says.bounded ∙ ap (λ (n : ℕ). 8 * n) (sym a)) l
          ∙ ap (λ (m : List ℕ). over m old)
          (ap (λ (r : List ℕ). flat_map literal_row (all_literals D.actions) ++ r)
          (payload_row p s.long (role_nine (latest D.actions) (byte p 0) s.role))
          ∙ sym (flat_map_snoc literal_row (all_literals D.actions) (literal_of p))
          ∙ ap (flat_map literal_row) (sym (literals_more (literal_of p) D.actions listed)));
    }

-- a literal of the latest action, which is not full: what its fields or the rows say is what stops it
module _ {old : List ℕ} {D : Domain} {head table : List ℕ} (K : HeldOver old D head table) (p : List ℕ) (last : ℕ)
    (w : last + 1 ≡ length D.actions) (a : 0 < actions_in head) (b : components_in head ≤ 0) {span : Span} (S : SpanOf D last table span)
    (room : span.to - span.from < max_literals) where
  stop_is : {n : ℕ} → n ≡ literal_stop D p → stop_of D literal_record p ≡ n
  stop_is e = let z = span_size w S in literal_number K.filled.says p a b (omega arith) e

  pub literal_stopped : {n : ℕ} → n ≡ literal_stop D p → (n ≡ 0 → ⊥)
      → (n ≡ stop_of D literal_record p) × HeldOver old (domain_after D literal_record p) head table
  literal_stopped e z = row_stop K literal_record p (stop_is e) z

  pub literal_placed : {s v k n : ℕ} {after rows : List ℕ} → s ≡ literal_shape head last p → s ≡ 0 → v ≡ variables_in head last
      → k ≡ literal_arguments v p → k ≡ 0 → Placed span p n head table after rows
      → (n ≡ stop_of D literal_record p) × HeldOver old (domain_after D literal_record p) after rows
  literal_placed {s} {v} {k} {n} {after} {rows} e z u f y P = by (bool_cases (eqb n 0))
    where
      told : n ≡ literal_stop D p
      told = literal_compared (held_over K) p last w e z u f y S P.number

      by : (eqb n 0 ≡ true) ⊎ (eqb n 0 ≡ false) → (n ≡ stop_of D literal_record p) × HeldOver old (domain_after D literal_record p) after rows
      by (inl t) =
          let none = eqb-true n 0 t in
          let passes = stop_is told ∙ none in
          let short = literal_short head last p (sym e ∙ z) in
          row_done D literal_record p (stop_is told) none
          (literal_held K p passes (P.added none D K.filled passes) span.to (span_all w S) short.1 (P.written none))
      by (inr f) =
          let some = eqb-false n 0 f in
          let same = P.stopped some in
          rw (same.0, same.1) (literal_stopped told some)

-- head and table with a record that writes no literal
pub unwritten : {old : List ℕ} {D : Domain} {head table : List ℕ} → HeldOver old D head table → (k : RecordKind) (p : List ℕ) → table_bytes (domain_after D k p) ≡ table_bytes D
    → {n : ℕ} {after : List ℕ} → (n ≡ stop_of D k p) × Filled (domain_after D k p) after → (n ≡ stop_of D k p) × HeldOver old (domain_after D k p) after table
unwritten {old} K k p s x = (x.0, record { filled = x.1; rows = K.rows ∙ ap (λ (m : List ℕ). over m old) (sym s) })

-- the closing record adds nothing
pub closing_kept : {D : Domain} {head : List ℕ} → Filled D head → (p : List ℕ) → Filled (domain_after D closing_record p) head
unfolding domain_after extend
closing_kept {D} {head} F p = go (eqb (stop_of D closing_record p) 0)
  where
    go : (b : Bool) → Filled (cond b D D) head
    go true = F
    go false = F

-- ---- a record by its kind's number

-- an unknown one adds nothing
module _ (D : Domain) (p : List ℕ) (k : ℕ) (e : kind_of k ≡ unknown_record) where
  pub unknown_taken : {old head table : List ℕ} → HeldOver old D head table → (f : Fault) → f ≡ UnknownKind
      → (fault_number f ≡ stop_of D (kind_of k) p) × HeldOver old (domain_after D (kind_of k) p) head table
  unknown_taken K f is = rw (is, e) (unwritten K unknown_record p (same_unknown D p) (take_stop K.filled unknown_record p (unknown_stop D p) (not_zero 10)))

  pub unknown_place : 0 ≡ stop_place D (kind_of k) p
  unknown_place = rw e (sym (place_record D unknown_record p refl))

-- ---- the closing record is that of number 5

abbrev closes : RecordKind → Bool
closes relation_record = false
closes action_record = false
closes literal_record = false
closes component_record = false
closes closing_record = true
closes unknown_record = false

closes_five : (n : ℕ) → closes (kind_of n) ≡ eqb n 5
closes_five zero = refl
closes_five (suc zero) = refl
closes_five (suc (suc zero)) = refl
closes_five (suc (suc (suc zero))) = refl
closes_five (suc (suc (suc (suc zero)))) = refl
closes_five (suc (suc (suc (suc (suc zero))))) = refl
closes_five (suc (suc (suc (suc (suc (suc k)))))) = sym (ne_eqb (suc (suc (suc (suc (suc (suc k)))))) 5 (λ z. omega arith))

-- a record's kind is the closing one exactly where its number is 5, by any tests of equality that tell it from the others
module _ (same : Kind → Kind → Bool) (alike : Fault → Fault → Bool) where
  pub closing_told : (same Relation Closing ≡ false) → (same Action Closing ≡ false) → (same Literal Closing ≡ false) → (same Component Closing ≡ false)
      → (same Closing Closing ≡ true) → (n : ℕ) (r : Result Kind Fault) → KindOf n r → result_eq same alike r (Ok Closing) ≡ eqb n 5
  closing_told a b c d e n (Ok Relation) k = a ∙ ap closes k ∙ closes_five n
  closing_told a b c d e n (Ok Action) k = b ∙ ap closes k ∙ closes_five n
  closing_told a b c d e n (Ok Literal) k = c ∙ ap closes k ∙ closes_five n
  closing_told a b c d e n (Ok Component) k = d ∙ ap closes k ∙ closes_five n
  closing_told a b c d e n (Ok Closing) k = e ∙ ap closes k ∙ closes_five n
  closing_told a b c d e n (Err f) (u, k) = sym (ap closes k) ∙ closes_five n
