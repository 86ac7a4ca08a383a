-- A file that is not well-formed is refused with a number from 9 to 27. Assumes nothing.
use mathlib.Core.Path.{◌≡◌, refl}
use mathlib.Core.Bool.{Bool, true, false, not, ◌&&◌, cond}
use mathlib.Core.Logic.{◌⊎◌, inl, inr}
use mathlib.Core.List.{List, [], ◌∷◌, ◌++◌}
use Prim.Native.Nat.{ℕ, zero, suc, ◌+◌, ◌≤◌}
use native.Mathlib.Omega.{arith}
use lib.Dec.{eqb, ltb, leb}
use lib.ListN.{length}
use borrow.Author.Tests.{eqb-false}
use Rattle.records.specs.Lists.{empty, first_at, found}
use Rattle.records.specs.declared.Record.{Record}
use Rattle.records.specs.declared.Record.TheVariants.{Whole, Cut, End}
use Rattle.records.specs.Record.{record_at, payload}
use Rattle.records.proofs.Numbers.{number_of, numbered, by_numbers}
use Rattle.literals.specs.declared.Label.{Label}
use Rattle.literals.specs.Domain.{Action, Component, keys_of, labels_fit, Domain}
use Rattle.literals.specs.declared.fault.Fault.{Fault}
use Rattle.literals.specs.declared.fault.Fault.TheVariants.{FileTooLong, CutShort, UnknownKind, WrongLength, OutOfOrder, OverLimit}
use Rattle.literals.specs.declared.fault.Fault.TheVariants.{OutOfRange, WrongRole, NoSuchRelation, NoSuchVariable, RepeatedLiteral}
use Rattle.literals.specs.declared.fault.Fault.TheVariants.{OppositeConditions, WrongKey, RelationUsed, NoComponent, KeyTwice, CountedTwice}
use Rattle.literals.specs.declared.fault.Fault.TheVariants.{WrongEvery, KeyCleared}
use Rattle.literals.specs.Faults.{fault_number}
use Rattle.literals.specs.Decode.{RecordStop}
use Rattle.literals.specs.Decode.{max_file, RecordKind, relation_record, action_record, literal_record, component_record, closing_record}
use Rattle.literals.specs.Decode.{unknown_record, kind_of, head_stop, byte, relation_stop, field_fault}
use Rattle.literals.specs.Decode.{action_stop, literal_stop, at_record, at_label, component_of, counted_again, key_again, key_too_high}
use Rattle.literals.specs.Decode.{label_fault, keys_cleared, cleared_fault, closing_stop, field_stop, stop_of, fault_of_record, refuse_at}
use Rattle.literals.specs.Decode.{extend}
use Rattle.literals.specs.Decode.{Refusal, refuse, Decoded, refused, domain, Reading, ReadTurn, go_on, finish, read_record, read_found}
use Rattle.literals.specs.Decode.{read_step, read_from, from_start, decode}
use Rattle.literals.proofs.Stops.{head_rows, head_number, literal_rows, component_rows, labels_fault, last_fault, component_number}

-- ---- the number that stops a record

-- a number of the table down to the row "closing", and of the labels
abbrev pub Refuses : ℕ → Type 0
Refuses n = (9 ≤ n) × (n ≤ 27)

-- such a number, or 0 where nothing stops the record
abbrev pub Stop : ℕ → Type 0
Stop n = (n ≡ 0) ⊎ Refuses n

-- each fault has such a number, and so is not 0
pub fault_refuses : (f : Fault) → Refuses (fault_number f)
fault_refuses FileTooLong = (omega arith, omega arith)
fault_refuses CutShort = (omega arith, omega arith)
fault_refuses UnknownKind = (omega arith, omega arith)
fault_refuses WrongLength = (omega arith, omega arith)
fault_refuses OutOfOrder = (omega arith, omega arith)
fault_refuses OverLimit = (omega arith, omega arith)
fault_refuses OutOfRange = (omega arith, omega arith)
fault_refuses WrongRole = (omega arith, omega arith)
fault_refuses NoSuchRelation = (omega arith, omega arith)
fault_refuses NoSuchVariable = (omega arith, omega arith)
fault_refuses RepeatedLiteral = (omega arith, omega arith)
fault_refuses OppositeConditions = (omega arith, omega arith)
fault_refuses WrongKey = (omega arith, omega arith)
fault_refuses RelationUsed = (omega arith, omega arith)
fault_refuses NoComponent = (omega arith, omega arith)
fault_refuses KeyTwice = (omega arith, omega arith)
fault_refuses CountedTwice = (omega arith, omega arith)
fault_refuses WrongEvery = (omega arith, omega arith)
fault_refuses KeyCleared = (omega arith, omega arith)

pub fault_some : (f : Fault) → fault_number f ≡ 0 → ⊥
fault_some f e = let r = fault_refuses f in let l = r.0 in omega arith

-- rows with such numbers stop a record by one of them
stop_rows : (rows : List (Bool × ℕ)) (n : ℕ) → numbered (λ m. leb 9 m && leb m 27) rows ≡ true → Stop n → Stop (number_of rows n)
stop_rows rows n t h = by_numbers 9 27 Stop (λ m l u. inr (l, u)) rows n t (λ g. h)

stop_head : (D : Domain) (k : RecordKind) → Stop (head_stop D k)
stop_head D k = rw (head_number D k) (stop_rows (head_rows D k) 0 refl (inl refl))

stop_label : (n : ℕ) (ls : List Label) → Stop (label_fault n ls).number
unfolding label_fault
stop_label n ls = go (found counted_again ls) (found key_again ls) (found (key_too_high n) ls) (labels_fit n ls)
  where
    go : (x y z b : Bool) → Stop (cond x (at_label 25 (first_at counted_again [] ls)) (cond y (at_label 24 (first_at key_again [] ls)) (cond z (at_label 21 (first_at (key_too_high n) [] ls)) (cond b (at_record 0) (at_record 21))))).number
    go true y z b = inr (omega arith, omega arith)
    go false true z b = inr (omega arith, omega arith)
    go false false true b = inr (omega arith, omega arith)
    go false false false true = inl refl
    go false false false false = inr (omega arith, omega arith)

-- 27 where nothing else stops it
stop_cleared : (as' : List Action) (c : Component) (f : RecordStop) → Stop f.number → Stop (cleared_fault as' c f).number
stop_cleared as' c f h = go (eqb f.number 0 && keys_cleared as' c)
  where
    go : (b : Bool) → Stop (cond b (at_record 27) f).number
    go true = inr (omega arith, omega arith)
    go false = h

stop_field : (D : Domain) (k : RecordKind) (p : List ℕ) → Stop (field_stop D k p)
unfolding field_stop relation_stop action_stop literal_stop closing_stop
stop_field D relation_record p = stop_rows ((not (eqb (length p) 1), 12) ∷ (ltb 6 (byte p 0), 15) ∷ []) 0 refl (inl refl)
stop_field D action_record p = stop_rows ((not (eqb (length p) 2), 12) ∷ (ltb 16 (byte p 0), 15) ∷ (ltb 1 (byte p 1), 15) ∷ []) 0 refl (inl refl)
stop_field D literal_record p = stop_rows (literal_rows D p) 0 refl (inl refl)
stop_field D component_record p =
    rw (component_number D p) (stop_rows (component_rows D p) (last_fault D p).number refl
    (stop_cleared D.actions (component_of p) (labels_fault D p)
    (stop_label (keys_of (D.template ++ (component_of p ∷ []))) (component_of p).labels)))
stop_field D closing_record p = stop_rows ((not (eqb (length p) 0), 12) ∷ (empty D.template, 23) ∷ []) 0 refl (inl refl)
stop_field D unknown_record p = inl refl

pub stop_of_lem : (D : Domain) (k : RecordKind) (p : List ℕ) → Stop (stop_of D k p)
unfolding stop_of field_stop
stop_of_lem D k p = go (eqb (head_stop D k) 0)
  where
    go : (b : Bool) → Stop (cond b (field_fault D k p) (at_record (head_stop D k))).number
    go true = stop_field D k p
    go false = stop_head D k

-- ---- the file

abbrev RefusesBy : Decoded → Type 0
RefusesBy (refused f) = Refuses f.number
RefusesBy (domain D) = Unit {0}

abbrev RefusesAt : ReadTurn → Type 0
RefusesAt (go_on q) = Unit {0}
RefusesAt (finish d) = RefusesBy d

refuses_record : (r : Reading) (k : ℕ) (p : List ℕ) (behind : ℕ) → RefusesAt (read_record r k p behind)
unfolding read_record stop_of
refuses_record r k p behind = go (eqb stop 0) refl (stop_of_lem r.sofar (kind_of k) p)
  where
    stop : ℕ
    stop = stop_of r.sofar (kind_of k) p

    go : (b : Bool) → eqb stop 0 ≡ b → Stop stop
        → RefusesAt (cond b (go_on (record { at = behind; closed = eqb k 5; sofar = extend r.sofar (kind_of k) p }))
        (finish (refused (refuse_at (fault_of_record r.sofar (kind_of k) p) r.at))))
    go true e h = tt
    go false e (inl z) = absurd (eqb-false stop 0 e z)
    go false e (inr h) = h

refuses_found : (s : List ℕ) (r : Reading) (f : Record) → RefusesAt (read_found s r f)
unfolding read_found
refuses_found s r (Whole k start len) = refuses_record r k (payload s start len) (start + len)
refuses_found s r Cut = (omega arith, omega arith)
refuses_found s r End = (omega arith, omega arith)

refuses_step : (s : List ℕ) (r : Reading) → RefusesAt (read_step s r)
unfolding read_step
refuses_step s r = go r.closed (ltb r.at (length s))
  where
    go : (b c : Bool) → RefusesAt (cond b (cond c (finish (refused (refuse 13 r.at))) (finish (domain r.sofar))) (read_found s r (record_at s r.at)))
    go true true = (omega arith, omega arith)
    go true false = tt
    go false c = refuses_found s r (record_at s r.at)

refuses_from : (fuel : ℕ) (s : List ℕ) (r : Reading) → RefusesBy (read_from fuel s r)
unfolding read_from
refuses_from zero s r = (omega arith, omega arith)
refuses_from (suc fuel) s r = go (read_step s r) (refuses_step s r) (λ q. refuses_from fuel s q)
  where
    go : (t : ReadTurn) → RefusesAt t → ((q : Reading) → RefusesBy (read_from fuel s q))
        → RefusesBy (elim t as (λ _. Decoded) [ go_on next ↦ read_from fuel s next | finish d ↦ d ])
    go (go_on q) h ih = ih q
    go (finish d) h ih = h

-- "9 to 23", and 24 to 27
pub refusal_number : (d : List ℕ) (f : Refusal) → decode d ≡ refused f → Refuses f.number
unfolding decode
refusal_number d f e = rw e at (go (ltb max_file (length d)))
  where
    go : (b : Bool)
        → RefusesBy (elim b as (λ _. Decoded) [ true ↦ refused (refuse 9 0) | false ↦ read_from (suc (length d)) d from_start ])
    go true = (omega arith, omega arith)
    go false = refuses_from (suc (length d)) d from_start
