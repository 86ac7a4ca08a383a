-- Reading a domain file, record by record: the domain, or the number that stops it. Assumes nothing.
use Rattle.std.specs.Prelude.{Bool, true, false, ◌&&◌, ◌||◌, not, cond, List, [], ◌∷◌, ◌++◌, map, ℕ, zero, suc, ◌+◌, eqb, ltb, leb, length, get_or, drop}
use Rattle.records.specs.Lists.{any, first_at, found, empty}
use Rattle.records.specs.declared.Record.{Record}
use Rattle.records.specs.declared.Record.TheVariants.{Whole, Cut, End}
use Rattle.records.specs.Record.{record_at, payload}
use Rattle.literals.specs.declared.Argument.{Argument}
use Rattle.literals.specs.declared.Argument.TheVariants.{Variable as bound, Every}
use Rattle.literals.specs.declared.Label.{Label}
use Rattle.literals.specs.declared.Label.TheVariants.{Key as keyed, Counted}
use Rattle.literals.specs.declared.Time.{Time}
use Rattle.literals.specs.declared.Time.TheVariants.{AtStart}
use Rattle.literals.specs.declared.Usage.{Usage}
use Rattle.literals.specs.declared.Usage.TheVariants.{Positive, Negative, Add, Delete}
use Rattle.literals.specs.Domain.{variable, key, same_literal, role_of, same_time, same_usage, same_role, Literal, Action, Component}
use Rattle.literals.specs.Domain.{is_key, is_counted, key_below, keys_of, labels_fit, Domain, arity, no_action, variable_below, meets}
use Rattle.literals.specs.Domain.{clears_once, keeps_keys}

-- ---- "Limits: file 65,535 bytes; 64 relations; 64 actions; 64 literals an action; 16 components."

abbrev pub max_file : ℕ
max_file = 65535

abbrev pub max_relations : ℕ
max_relations = 64

-- "arity, 0 to 6"
abbrev pub max_arguments : ℕ
max_arguments = 6

abbrev pub max_actions : ℕ
max_actions = 64

-- "variable count, 0 to 16"
abbrev pub max_variables : ℕ
max_variables = 16

abbrev pub max_literals : ℕ
max_literals = 64

abbrev pub max_components : ℕ
max_components = 16

-- ---- the kinds of record

-- "Kind 1, relation .. Kind 5, closing"
pub data RecordKind : Type 0 where
  relation_record action_record literal_record component_record closing_record unknown_record : RecordKind

-- of a number, from 0 on
abbrev pub kind_of : ℕ → RecordKind
kind_of k =
    get_or (unknown_record ∷ relation_record ∷ action_record ∷ literal_record ∷ component_record ∷ closing_record ∷ []) k unknown_record

-- ---- record head, of the domain read so far

-- "the latest action"
abbrev pub latest : List Action → Action
latest [] = no_action
latest (a ∷ []) = a
latest (a ∷ b ∷ bs) = latest (b ∷ bs)

-- "13 kind out of order; 14 over a limit", or 0
abbrev pub late_or_full : Bool → Bool → ℕ
late_or_full late full = cond late 13 (cond full 14 0)

-- "11 unknown kind", then "Order: relations, actions each followed by its literals, components, one closing record.", then the limit, which
-- one record more would exceed
unfoldable pub head_stop : Domain → RecordKind → ℕ
head_stop D relation_record = late_or_full (not (empty D.actions && empty D.template)) (leb max_relations (length D.arities))
head_stop D action_record = late_or_full (not (empty D.template)) (leb max_actions (length D.actions))
head_stop D literal_record =
    late_or_full (empty D.actions || not (empty D.template)) (leb max_literals (length (latest D.actions).lits))
head_stop D component_record = late_or_full false (leb max_components (length D.template))
head_stop D closing_record = 0
head_stop D unknown_record = 11

-- ---- fields, then the rows "literal", "component" and "closing": the number that stops the record, or 0

abbrev pub byte : List ℕ → ℕ → ℕ
byte p i = get_or p i 0

-- "12 wrong length; 15 arity": "arity, 0 to 6"
unfoldable pub relation_stop : List ℕ → ℕ
relation_stop p = cond (not (eqb (length p) 1)) 12 (cond (ltb max_arguments (byte p 0)) 15 0)

-- "15 .. count or sort": "variable count, 0 to 16; sort, 0 at once, 1 lasting"
unfoldable pub action_stop : List ℕ → ℕ
action_stop p = cond (not (eqb (length p) 2)) 12 (cond (ltb max_variables (byte p 0)) 15 (cond (ltb 1 (byte p 1)) 15 0))

-- a variable, or FF for every object
abbrev pub argument_of : ℕ → Argument
argument_of b = cond (eqb b 255) Every (bound (variable b))

-- "role, relation, one variable per argument", or FF
abbrev pub literal_of : List ℕ → Literal
literal_of p = record { role = role_of (byte p 0); atom = record { rel = byte p 1; args = map argument_of (drop 2 p) } }

-- "19 repeated in its role"
abbrev pub repeats : Literal → Literal → Bool
repeats l m = same_role l.role m.role && same_literal l.atom m.atom

-- one is a true condition, the other a false one
abbrev pub contrary : Usage → Usage → Bool
contrary Positive d = same_usage d Negative
contrary Negative d = same_usage d Positive
contrary Add d = false
contrary Delete d = false

-- "among roles 0, 1 or among 4 to 7": both at the start, or both not
abbrev pub together : Time → Time → Bool
together t u = cond (same_time t AtStart) (same_time u AtStart) (not (same_time u AtStart))

-- "20 both true and false among roles 0, 1 or among 4 to 7"; "true at(0,1) with false at(0,FF) is a contradiction (20)"
abbrev pub contradicts : Literal → Literal → Bool
contradicts l m = contrary l.role.usage m.role.usage && together l.role.time m.role.time && meets l.atom m.atom

-- "16 role": "Roles 4 to 9 need a lasting action."
abbrev pub no_role : Action → ℕ → Bool
no_role a r = ltb 9 r || (ltb 3 r && not a.lasting)

-- "18 variable": neither FF nor a variable of the action
abbrev pub no_variable : ℕ → ℕ → Bool
no_variable vars b = not (variable_below vars (argument_of b))

-- "16 role; 17 relation; 18 variable", "FF in another role or twice gives 26 just before 18", "19 repeated in its role; 20 both true and
-- false"; "A length .. comes first where it is fixed or too short for the relation or action, else once that is known."
unfoldable pub literal_stop : Domain → List ℕ → ℕ
unfolding role_of
literal_stop D p =
    let a = latest D.actions in
    cond (ltb (length p) 2) 12
    (cond (no_role a (byte p 0)) 16
    (cond (leb (length D.arities) (byte p 1)) 17
    (cond (not (eqb (length p) (2 + arity D (byte p 1)))) 12
    (cond (not (clears_once (literal_of p))) 26
    (cond (any (no_variable a.vars) (drop 2 p)) 18
    (cond (any (repeats (literal_of p)) a.lits) 19
    (cond (any (contradicts (literal_of p)) a.lits) 20 0)))))))

-- "A label is a key number, or FF for counted."
abbrev pub label_of : ℕ → Label
label_of b = cond (eqb b 255) Counted (keyed (key b))

-- "relation, one label per argument"
abbrev pub component_of : List ℕ → Component
component_of p = record { rel = byte p 0; labels = map label_of (drop 1 p) }

-- "the second FF"
abbrev pub counted_again : List Label → Label → Bool
counted_again before l = is_counted l && any is_counted before

abbrev pub same_label_key : Label → Label → Bool
same_label_key (keyed k) m = is_key k m
same_label_key Counted m = false

-- "the first key equal to an earlier one"
abbrev pub key_again : List Label → Label → Bool
key_again before l = any (same_label_key l) before

-- "the first key not below n"
abbrev pub key_too_high : ℕ → List Label → Label → Bool
key_too_high n before l = not (key_below n l)

-- what stops a record: its number, and how far behind the record's start the fault stands, 0 for the record itself; number 0 where nothing
-- stops it
pub record RecordStop : Type 0 where
  pub number : ℕ
  pub within : ℕ

-- a fault at the record itself, and at its label i: the labels stand behind the 4 bytes of the head and the relation
abbrev pub at_record : ℕ → RecordStop
at_record n = record { number = n; within = 0 }

abbrev pub at_label : ℕ → ℕ → RecordStop
at_label n i = record { number = n; within = 5 + i }

-- "Two FF labels give 25, a repeated key 24, the rest 21", "checked in that order": of a template that has n keys. "The offset given is
-- that of the label byte"; "Where a key is only missing it stays the record's."
unfoldable pub label_fault : ℕ → List Label → RecordStop
unfolding labels_fit
label_fault n ls =
    cond (found counted_again ls) (at_label 25 (first_at counted_again [] ls))
    (cond (found key_again ls) (at_label 24 (first_at key_again [] ls))
    (cond (found (key_too_high n) ls) (at_label 21 (first_at (key_too_high n) [] ls))
    (cond (labels_fit n ls) (at_record 0) (at_record 21))))

-- "a component that puts a key where one of its relation's literals has FF": of any action
abbrev pub keys_cleared : List Action → Component → Bool
keys_cleared as' c = any (λ (a : Action). any (λ (l : Literal). not (keeps_keys c l.atom)) a.lits) as'

-- of labels that nothing else stops: "27 after 21"
abbrev pub cleared_fault : List Action → Component → RecordStop → RecordStop
cleared_fault as' c f = cond (eqb f.number 0 && keys_cleared as' c) (at_record 27) f

-- "22 relation used before", then the labels
unfoldable pub component_fault : Domain → List ℕ → RecordStop
unfolding label_fault
component_fault D p =
    let c = component_of p in
    cond (ltb (length p) 1) (at_record 12)
    (cond (leb (length D.arities) (byte p 0)) (at_record 17)
    (cond (not (eqb (length p) (1 + arity D (byte p 0)))) (at_record 12)
    (cond (any (λ (d : Component). eqb c.rel d.rel) D.template) (at_record 22)
    (cleared_fault D.actions c (label_fault (keys_of (D.template ++ (c ∷ []))) c.labels)))))

-- "no payload", "23 no component"
unfoldable pub closing_stop : Domain → List ℕ → ℕ
closing_stop D p = cond (not (eqb (length p) 0)) 12 (cond (empty D.template) 23 0)

-- of each kind; only a label has a place of its own
unfoldable pub field_fault : Domain → RecordKind → List ℕ → RecordStop
unfolding relation_stop action_stop literal_stop component_fault closing_stop
field_fault D relation_record p = at_record (relation_stop p)
field_fault D action_record p = at_record (action_stop p)
field_fault D literal_record p = at_record (literal_stop D p)
field_fault D component_record p = component_fault D p
field_fault D closing_record p = at_record (closing_stop D p)
field_fault D unknown_record p = at_record 0

-- "each down the rows": what stops a whole record, with its place; number 0 where nothing does
unfoldable pub fault_of_record : Domain → RecordKind → List ℕ → RecordStop
unfolding head_stop field_fault
fault_of_record D k p = cond (eqb (head_stop D k) 0) (field_fault D k p) (at_record (head_stop D k))

-- ---- the domain with one record more

-- "literal of the latest action"
abbrev pub with_literal : Literal → List Action → List Action
with_literal l [] = []
with_literal l (a ∷ []) = record { vars = a.vars; lasting = a.lasting; lits = a.lits ++ (l ∷ []) } ∷ []
with_literal l (a ∷ b ∷ bs) = a ∷ with_literal l (b ∷ bs)

abbrev pub action_of : List ℕ → Action
action_of p = record { vars = byte p 0; lasting = eqb (byte p 1) 1; lits = [] }

unfoldable pub extend : Domain → RecordKind → List ℕ → Domain
unfolding role_of
extend D relation_record p = record { arities = D.arities ++ (byte p 0 ∷ []); actions = D.actions; template = D.template }
extend D action_record p = record { arities = D.arities; actions = D.actions ++ (action_of p ∷ []); template = D.template }
extend D literal_record p = record { arities = D.arities; actions = with_literal (literal_of p) D.actions; template = D.template }
extend D component_record p = record { arities = D.arities; actions = D.actions; template = D.template ++ (component_of p ∷ []) }
extend D closing_record p = D
extend D unknown_record p = D

-- ---- the file

-- why a file is refused: the number of the table, its place, and where the record at fault starts
pub record Refusal : Type 0 where
  pub number : ℕ
  pub place : ℕ
  pub start : ℕ

-- "9 to 23 .. give the record's offset as first place"; so do 26 and 27
abbrev pub refuse : ℕ → ℕ → Refusal
refuse n start = record { number = n; place = start; start = start }

-- a record at fault, from its start on: a label gives the label's offset
abbrev pub refuse_at : RecordStop → ℕ → Refusal
refuse_at f start = record { number = f.number; place = start + f.within; start = start }

pub data Decoded : Type 0 where
  refused : Refusal → Decoded
  domain : Domain → Decoded

-- where reading stands: the next record's offset, whether the closing record is read, and the domain so far
pub record Reading : Type 0 where
  pub at : ℕ
  pub closed : Bool
  pub sofar : Domain

-- what one record leads to
pub data ReadTurn : Type 0 where
  go_on : Reading → ReadTurn
  finish : Decoded → ReadTurn

-- a whole record, of this kind and payload, and the offset behind it; "Kind 5, closing"
unfoldable pub read_record : Reading → ℕ → List ℕ → ℕ → ReadTurn
unfolding fault_of_record extend
read_record r k p behind =
    cond (eqb (fault_of_record r.sofar (kind_of k) p).number 0)
    (go_on (record { at = behind; closed = eqb k 5; sofar = extend r.sofar (kind_of k) p }))
    (finish (refused (refuse_at (fault_of_record r.sofar (kind_of k) p) r.at)))

-- "10 cut short or no closing record"
unfoldable pub read_found : List ℕ → Reading → Record → ReadTurn
unfolding read_record payload
read_found s r (Whole k start len) = read_record r k (payload s start len) (start + len)
read_found s r Cut = finish (refused (refuse 10 r.at))
read_found s r End = finish (refused (refuse 10 r.at))

-- "anything behind the closing record: 13, before all else there"
unfoldable pub read_step : List ℕ → Reading → ReadTurn
unfolding read_found record_at
read_step s r =
    cond r.closed
    (cond (ltb r.at (length s)) (finish (refused (refuse 13 r.at))) (finish (domain r.sofar)))
    (read_found s r (record_at s r.at))

-- "Records are checked in file order". More fuel than the file's length changes nothing: `more_fuel` of proofs/Loop
unfoldable pub read_from : ℕ → List ℕ → Reading → Decoded
unfolding read_step
read_from zero s r = refused (refuse 10 r.at)
read_from (suc fuel) s r = elim (read_step s r) [ go_on next ↦ read_from fuel s next | finish d ↦ d ]

abbrev pub no_domain : Domain
no_domain = record { arities = []; actions = []; template = [] }

abbrev pub from_start : Reading
from_start = record { at = 0; closed = false; sofar = no_domain }

-- what a file says: "9 too long", else record by record
unfoldable pub decode : List ℕ → Decoded
unfolding read_from
decode f = elim (ltb max_file (length f)) [ true ↦ refused (refuse 9 0) | false ↦ read_from (suc (length f)) f from_start ]

-- ---- number and place of a fault apart, as the code's functions answer them: nothing above speaks of these

unfoldable pub component_stop : Domain → List ℕ → ℕ
unfolding component_fault
component_stop D p = (component_fault D p).number

unfoldable pub field_stop : Domain → RecordKind → List ℕ → ℕ
unfolding field_fault component_stop
field_stop D k p = (field_fault D k p).number

unfoldable pub field_place : Domain → RecordKind → List ℕ → ℕ
unfolding field_fault
field_place D k p = (field_fault D k p).within

unfoldable pub stop_of : Domain → RecordKind → List ℕ → ℕ
unfolding fault_of_record
stop_of D k p = (fault_of_record D k p).number

unfoldable pub stop_place : Domain → RecordKind → List ℕ → ℕ
unfolding fault_of_record
stop_place D k p = (fault_of_record D k p).within
