-- How the code holds a domain: literals and components as rows of 8 bytes, a head in sections and the table of the literals, key
-- tuples, and the fields of a record as the code tests them. Assumes nothing.
use Rattle.std.specs.Prelude.{◌≡◌, Option, Some, None, Bool, true, false, ◌&&◌, ◌||◌, cond, not, ℕ, zero, suc, ◌+◌, ◌-◌, ◌*◌, ◌/◌, ◌%◌, ◌≤◌, ◌<◌, eqb, ltb, leb, length, take, drop, get_or, replicate}
use mathlib.Core.List.{List, [], ◌∷◌, ◌++◌, map, flat_map}
use Rattle.std.specs.List.{count_by as library_count}
use Rattle.records.specs.Lists.{In, any, same_list, distinct, position, below, numbers_from, all, side_by_side}
use Rattle.records.specs.Memory.{over}
use Rattle.literals.specs.declared.Variable.{Variable}
use Rattle.literals.specs.declared.Argument.{Argument}
use Rattle.literals.specs.declared.Argument.TheVariants.{Variable as bound, Every}
use Rattle.literals.specs.Domain.{is_counted, is_every, variables_of, role_number, role_of, Literal, clears_once, Action, Component, keeps_keys, keys_of}
use Rattle.literals.specs.Domain.{label_number, labels_fit, Domain, arity, action, key, is_key, usage_number, same_time}
use Rattle.literals.specs.Decode.{byte, max_relations, max_arguments, max_actions, max_variables, max_literals, max_components, RecordKind}
use Rattle.literals.specs.Decode.{stop_of, extend, argument_of, label_of, literal_of, no_variable}
use Rattle.literals.specs.declared.span.Span.{Span}
use Rattle.literals.specs.declared.Key.{Key}
use Rattle.literals.specs.declared.Time.{Time}
use Rattle.literals.specs.declared.Usage.{Usage}
use Rattle.literals.specs.declared.Role.{Role}

-- ---- rows of 8 bytes

-- a payload, and FF to fill
abbrev pub row_of : List ℕ → List ℕ
row_of p = p ++ replicate (8 - length p) 255

-- FF for every object
abbrev pub argument_number : Argument → ℕ
argument_number (bound v) = v.0
argument_number Every = 255

-- a literal: role, relation, arguments
abbrev pub literal_row : Literal → List ℕ
literal_row l = row_of (role_number l.role ∷ l.atom.rel ∷ map argument_number l.atom.args)

-- a component: relation, labels
abbrev pub component_row : Component → List ℕ
component_row c = row_of (c.rel ∷ map label_number c.labels)

-- the literals of all actions, in file order
unfoldable pub all_literals : List Action → List Literal
unfolding flat_map
all_literals as' = flat_map (λ (a : Action). a.lits) as'

-- a literal that has FF, every object, among its arguments
abbrev pub has_every : Literal → Bool
has_every l = any is_every l.atom.args

-- whether one of these actions' literals has
unfoldable pub some_every : List Action → Bool
unfolding all_literals
some_every as' = any has_every (all_literals as')

-- the table's rows
unfoldable pub table_bytes : Domain → List ℕ
unfolding flat_map all_literals
table_bytes D = flat_map literal_row (all_literals D.actions)

-- a list in an array of n numbers, 0 behind it
abbrev pub pad : ℕ → List ℕ → List ℕ
pad n l = l ++ replicate (n - length l) 0

-- ---- the rows that a literal is compared with

-- the number of the four bytes at an offset, the lowest first
pub record FourAt (s : List ℕ) (at r : ℕ) : Type 0 where
  pub is : r ≡ get_or s at 0 + 256 * get_or s (at + 1) 0 + 65536 * get_or s (at + 2) 0 + 16777216 * get_or s (at + 3) 0
  pub first : get_or s at 0 < 256
  pub second : get_or s (at + 1) 0 < 256
  pub third : get_or s (at + 2) 0 < 256
  pub fourth : get_or s (at + 3) 0 < 256

-- the eight bytes at an offset
abbrev pub eight_bytes : List ℕ → ℕ → List ℕ
eight_bytes s at =
    get_or s at 0 ∷ get_or s (at + 1) 0 ∷ get_or s (at + 2) 0 ∷ get_or s (at + 3) 0
    ∷ get_or s (at + 4) 0 ∷ get_or s (at + 5) 0 ∷ get_or s (at + 6) 0 ∷ get_or s (at + 7) 0 ∷ []

-- their number, by those of the first four and of the others
pub record EightAt (s : List ℕ) (at r : ℕ) : Type 0 where
  pub low : ℕ
  pub high : ℕ
  pub lows : FourAt s at low
  pub highs : FourAt s (at + 4) high
  pub is : r ≡ low + 4294967296 * high

-- a row of 8 bytes, and its number
pub record WordOf (row : List ℕ) (word : ℕ) : Type 0 where
  pub long : length row ≡ 8
  pub bytes : EightAt row 0 word

-- the four bytes of a number, the lowest first
abbrev pub four_bytes : ℕ → List ℕ
four_bytes n = n % 256 ∷ n / 256 % 256 ∷ n / 65536 % 256 ∷ n / 16777216 % 256 ∷ []

-- ---- whether two rows meet: FF, every object, meets every argument. What fills a row is FF too, and so beside what fills the other, as
-- one relation has one arity

-- two bytes at a place: they are the same, or one is FF
abbrev pub meet_byte : ℕ → ℕ → Bool
meet_byte a b = eqb a b || (eqb a 255 || eqb b 255)

-- the arguments of two rows, behind two bytes
abbrev pub arguments_meet : List ℕ → List ℕ → Bool
arguments_meet p q = same_list meet_byte (drop 2 p) (drop 2 q)

-- two rows of literals
abbrev pub rows_meet : List ℕ → List ℕ → Bool
rows_meet p q = eqb (byte p 1) (byte q 1) && arguments_meet p q

-- a row that has one of two roles, and that a row meets
abbrev pub meets_as : ℕ → ℕ → List ℕ → List ℕ → Bool
meets_as r s p row = (eqb (byte row 0) r || eqb (byte row 0) s) && rows_meet p row

-- of two role bytes: one is of a true condition and the other of a false one, both at the start, or both not
abbrev pub opposed_roles : ℕ → ℕ → Bool
opposed_roles a b =
    cond (eqb a 0) (eqb b 1)
    (cond (eqb a 1) (eqb b 0)
    (cond (eqb a 4 || eqb a 6) (eqb b 5 || eqb b 7)
    (cond (eqb a 5 || eqb a 7) (eqb b 4 || eqb b 6) false)))

-- two rows of literals that contradict each other
abbrev pub contradicts_row : List ℕ → List ℕ → Bool
contradicts_row p row = opposed_roles (byte p 0) (byte row 0) && rows_meet p row

-- "19 repeated in its role; 20 both true and false", of a row beside rows
unfoldable pub rows_stop : List ℕ → List (List ℕ) → ℕ
rows_stop p rows = cond (any (same_list eqb p) rows) 19 (cond (any (contradicts_row p) rows) 20 0)

-- the first n rows of w bytes of a memory
abbrev pub rows_by : ℕ → ℕ → List ℕ → List (List ℕ)
rows_by w zero t = []
rows_by w (suc n) t = take w t ∷ rows_by w n (drop w t)

-- of 8 bytes
abbrev pub rows_in : ℕ → List ℕ → List (List ℕ)
rows_in = rows_by 8

-- the row i of them
abbrev pub row_in : List ℕ → ℕ → List ℕ
row_in rows i = take 8 (drop (8 * i) rows)

-- ---- a domain that was read

-- what holds of every domain that was read: it is within the limits, so that it fits the head and the table; variables are below their
-- count; FF occurs only where it may, and no component has a key there; literals and components have the arities of their relations; no
-- relation has two components; a component has each key once
pub record Bounded (D : Domain) : Type 0 where
  pub relations : length D.arities ≤ max_relations
  pub arities : (n : ℕ) → In n D.arities → n ≤ max_arguments
  pub actions : length D.actions ≤ max_actions
  pub counts : (a : Action) → In a D.actions → a.vars ≤ max_variables
  pub sizes : (a : Action) → In a D.actions → length a.lits ≤ max_literals
  pub arguments : (a : Action) → In a D.actions → (l : Literal) → In l a.lits → length l.atom.args ≤ max_arguments
  pub variables : (a : Action) → In a D.actions → (l : Literal) → In l a.lits
      → (v : Variable) → In v (variables_of l.atom.args) → v.0 < 255
  pub below : (a : Action) → In a D.actions → (l : Literal) → In l a.lits
      → (v : Variable) → In v (variables_of l.atom.args) → v.0 < a.vars
  pub roles : (a : Action) → In a D.actions → (l : Literal) → In l a.lits → (role_number l.role ≤ 9)
      × (role_of (role_number l.role) ≡ l.role)
  pub clears : (a : Action) → In a D.actions → (l : Literal) → In l a.lits → clears_once l ≡ true
  pub keys_kept : (a : Action) → In a D.actions → (l : Literal) → In l a.lits
      → (c : Component) → In c D.template → keeps_keys c l.atom ≡ true
  pub components : length D.template ≤ max_components
  pub labels : (c : Component) → In c D.template → length c.labels ≤ max_arguments
  pub literal_arity : (a : Action) → In a D.actions → (l : Literal) → In l a.lits → length l.atom.args ≡ arity D l.atom.rel
  pub component_arity : (c : Component) → In c D.template → length c.labels ≡ arity D c.rel
  pub keys_fit : (c : Component) → In c D.template → labels_fit (keys_of D.template) c.labels ≡ true
  pub components_once : distinct (λ (c d : Component). eqb c.rel d.rel) D.template ≡ true

-- ---- the sections of a head: a byte for each relation, 8 for each component, columns with a byte for each action, and a byte that tells
-- whether some literal has FF

abbrev pub at_arities : ℕ
at_arities = 4

abbrev pub at_components : ℕ
at_components = at_arities + max_relations

abbrev pub at_variables : ℕ
at_variables = at_components + 8 * max_components

abbrev pub at_sorts : ℕ
at_sorts = at_variables + max_actions

abbrev pub at_sizes : ℕ
at_sizes = at_sorts + max_actions

abbrev pub at_lows : ℕ
at_lows = at_sizes + max_actions

abbrev pub at_highs : ℕ
at_highs = at_lows + max_actions

abbrev pub at_clears : ℕ
at_clears = at_highs + max_actions

-- ---- what a head says, whatever its bytes are: each number within its limit, 0 for one above it

abbrev pub within : ℕ → ℕ → ℕ
within limit n = cond (leb n limit) n 0

unfoldable pub relations_in : List ℕ → ℕ
relations_in head = within max_relations (get_or head 0 0)

unfoldable pub actions_in : List ℕ → ℕ
actions_in head = within max_actions (get_or head 1 0)

unfoldable pub components_in : List ℕ → ℕ
components_in head = within max_components (get_or head 2 0)

unfoldable pub keys_in : List ℕ → ℕ
keys_in head = within max_arguments (get_or head 3 0)

-- 0 where there is no such relation
unfoldable pub arity_in : List ℕ → ℕ → ℕ
arity_in head r = cond (ltb r max_relations) (within max_arguments (get_or head (at_arities + r) 0)) 0

-- n bytes from k on
abbrev pub bytes_from : List ℕ → ℕ → ℕ → List ℕ
bytes_from t k zero = []
bytes_from t k (suc n) = get_or t k 0 ∷ bytes_from t (suc k) n

-- the row of a component: relation, labels, FF to fill
unfoldable pub component_row_in : List ℕ → ℕ → List ℕ
component_row_in head c = bytes_from head (at_components + 8 * c) 8

-- those of n components from c on
abbrev pub component_rows_from : List ℕ → ℕ → ℕ → List (List ℕ)
component_rows_from head c zero = []
component_rows_from head c (suc n) = component_row_in head c ∷ component_rows_from head (suc c) n

-- those of all components
unfoldable pub component_rows_in : List ℕ → List (List ℕ)
unfolding components_in
component_rows_in head = component_rows_from head 0 (components_in head)

-- of an action: its variables, whether it lasts, how many literals it has, and the table's row of the first
unfoldable pub variables_in : List ℕ → ℕ → ℕ
variables_in head i = within max_variables (get_or head (at_variables + i) 0)

unfoldable pub lasting_in : List ℕ → ℕ → Bool
lasting_in head i = eqb (get_or head (at_sorts + i) 0) 1

unfoldable pub size_in : List ℕ → ℕ → ℕ
size_in head i = within max_literals (get_or head (at_sizes + i) 0)

unfoldable pub first_in : List ℕ → ℕ → ℕ
first_in head i = get_or head (at_lows + i) 0 + 256 * get_or head (at_highs + i) 0

-- of all actions: whether some literal has FF
unfoldable pub clears_in : List ℕ → Bool
clears_in head = eqb (get_or head at_clears 0) 1

-- ---- what head and table say of a domain that they hold

pub record HeadOf (D : Domain) (head : List ℕ) : Type 0 where
  pub bounded : Bounded D
  pub relations : relations_in head ≡ length D.arities
  pub actions : actions_in head ≡ length D.actions
  pub keys : keys_in head ≡ keys_of D.template
  pub arities : (r : ℕ) → arity_in head r ≡ arity D r
  pub components : components_in head ≡ length D.template
  pub component_rows : component_rows_in head ≡ map component_row D.template
  pub variables : (i : ℕ) → i < length D.actions → variables_in head i ≡ (action D i).vars
  pub lasting : (i : ℕ) → i < length D.actions → lasting_in head i ≡ (action D i).lasting
  pub sizes : (i : ℕ) → i < length D.actions → size_in head i ≡ length (action D i).lits
  pub firsts : (i : ℕ) → i < length D.actions → first_in head i ≡ length (all_literals (take i D.actions))
  pub clears : clears_in head ≡ some_every D.actions

-- what it says of the relations and the template, and where no literal has FF, which is all that the classes of an action ask for
pub record TemplateOf (D : Domain) (head : List ℕ) : Type 0 where
  pub bounded : Bounded D
  pub keys : keys_in head ≡ keys_of D.template
  pub arities : (r : ℕ) → arity_in head r ≡ arity D r
  pub components : components_in head ≡ length D.template
  pub component_rows : component_rows_in head ≡ map component_row D.template
  pub plain : clears_in head ≡ false → some_every D.actions ≡ false

pub record Held (D : Domain) (head table : List ℕ) : Type 0 where
  pub says : HeadOf D head
  pub old : List ℕ
  pub rows : table ≡ over (table_bytes D) old

-- some domain is held
abbrev pub Read : List ℕ → List ℕ → Type 0
Read head table = (D : Domain) × Held D head table

-- ---- a head with a record more

abbrev pub head_bytes : ℕ
head_bytes = at_clears + 1

-- a whole head that holds a domain
pub record Filled (D : Domain) (head : List ℕ) : Type 0 where
  pub says : HeadOf D head
  pub room : length head ≡ head_bytes

-- whatever domain the head held before, it holds that domain with the record afterwards
abbrev pub Adds : RecordKind → List ℕ → List ℕ → List ℕ → Type 0
Adds k p head after = (D : Domain) → Filled D head → stop_of D k p ≡ 0 → Filled (extend D k p) after

-- ---- the rows of an action's literals

-- they lie in a table of n bytes, and are at most as many as an action may have
pub record SpanFits (n : ℕ) (r : Span) : Type 0 where
  pub order : r.from ≤ r.to
  pub few : r.to ≤ r.from + max_literals
  pub room : 8 * r.to ≤ n

-- they are those of the action i
pub record SpanOf (D : Domain) (i : ℕ) (table : List ℕ) (r : Span) : Type 0 where
  pub first : r.from ≡ length (all_literals (take i D.actions))
  pub size : r.to ≡ r.from + length (action D i).lits
  pub literals : take (8 * r.to - 8 * r.from) (drop (8 * r.from) table) ≡ flat_map literal_row (action D i).lits

-- ---- roles

-- the usage of a role at a time: 1 to 4 for a true condition, false condition, add or delete there, 0 for a role of another time
abbrev pub usage_among : Time → Role → ℕ
usage_among t r = cond (same_time t r.time) (suc (usage_number r.usage)) 0

-- of a role byte
unfoldable pub usage_for : Time → ℕ → ℕ
unfolding role_of
usage_for t r = usage_among t (role_of r)

-- that number, as the code has it: a usage, or none
abbrev pub number_for : Option Usage → ℕ
number_for None = 0
number_for (Some c) = suc (usage_number c)

-- ---- key tuples, by the bytes of rows

-- the place of the argument under a key, of a component's row, or how many arguments there may be
unfoldable pub place_under : Key → List ℕ → ℕ
place_under k component = position (λ i. is_key k (label_of (get_or component (i + 1) 0))) (below max_arguments)

-- ---- the same worked out for a domain, in one memory: a byte for each relation, and 8 bytes for each component

-- whether a component's row has this relation
abbrev pub starts : ℕ → List ℕ → Bool
starts r component = eqb r (byte component 0)

-- the number of one of n components, and 1; 0 for none
abbrev pub marked : ℕ → ℕ → ℕ
marked n c = cond (eqb c n) 0 (suc c)

-- the number that such a byte stands for, as a byte again
abbrev pub mark_of : Option ℕ → ℕ
mark_of None = 0
mark_of (Some c) = suc c

-- at each relation its first component
abbrev pub FirstComponents : List ℕ → List ℕ → Type 0
FirstComponents head places =
    (r : ℕ) → r < max_relations → get_or places r 0 ≡ marked (components_in head) (position (starts r) (component_rows_in head))

-- at each component the places of its keys
abbrev pub PlacesIn : List ℕ → List ℕ → Type 0
PlacesIn head places =
    (c k : ℕ) → c < components_in head → k < keys_in head
    → get_or places (max_relations + 8 * c + k) 0 ≡ place_under (key k) (component_row_in head c)

pub record PlacesOf (head places : List ℕ) : Type 0 where
  pub components : FirstComponents head places
  pub keys : PlacesIn head places

-- ---- what stands under the keys

-- the byte of the argument at a place of the row at an offset, or FF
abbrev pub argument_at : List ℕ → ℕ → ℕ → ℕ
argument_at rows at place = cond (ltb place max_arguments) (get_or rows (at + 2 + place) 0) 255

-- the first argument under the label k, or FF
abbrev pub under_key : ℕ → List ℕ → List ℕ → ℕ
under_key k [] vs = 255
under_key k (b ∷ bs) [] = 255
under_key k (b ∷ bs) (v ∷ vs) = cond (eqb k b) v (under_key k bs vs)

-- the arguments under the keys 0 to n-1
abbrev pub under_keys : ℕ → List ℕ → List ℕ → List ℕ
under_keys zero bs vs = []
under_keys (suc n) bs vs = under_keys n bs vs ++ (under_key n bs vs ∷ [])

-- the key tuple, as a row, of a literal's row under a component's row
unfoldable pub key_row : ℕ → List ℕ → List ℕ → List ℕ
key_row n component row = row_of (under_keys n (drop 1 component) (drop 2 row))

-- that of a literal's row under the first component's row with its relation, or none
unfoldable pub key_rows : ℕ → List (List ℕ) → List ℕ → List (List ℕ)
unfolding key_row
key_rows n [] row = []
key_rows n (component ∷ component_rows) row =
    cond (eqb (byte row 1) (byte component 0)) (key_row n component row ∷ [])
    (key_rows n component_rows row)

-- the same, by the head of a domain
unfoldable pub key_rows_in : List ℕ → List ℕ → List (List ℕ)
unfolding keys_in component_rows_in key_rows
key_rows_in head row = key_rows (keys_in head) (component_rows_in head) row

-- ---- key tuples as numbers

-- a number with these bytes behind it, the last lowest
abbrev pub word_from : ℕ → List ℕ → ℕ
word_from w [] = w
word_from w (b ∷ bs) = word_from (256 * w + b) bs

-- the number of a key tuple, of its row: the bytes under n keys
abbrev pub row_word : ℕ → List ℕ → ℕ
row_word n row = word_from 0 (take n row)

-- that of a literal's row under a component's row
unfoldable pub key_word : ℕ → List ℕ → List ℕ → ℕ
unfolding key_row
key_word n component row = row_word n (key_row n component row)

-- that of a literal's row under the first component with its relation, or none, by the head of a domain
unfoldable pub key_words_in : List ℕ → List ℕ → List ℕ
unfolding keys_in key_rows_in
key_words_in head row = map (row_word (keys_in head)) (key_rows_in head row)

-- ---- the fields of a record, by a head

-- of a literal or component whose arguments start at `first` of its `given` bytes: "17 relation", then "12 wrong length"
unfoldable pub arguments_stop : List ℕ → ℕ → ℕ → ℕ → ℕ
unfolding relations_in arity_in
arguments_stop head relation first given = cond (leb (relations_in head) relation) 17
    (cond (not (eqb given (first + arity_in head relation))) 12 0)

-- of a literal record of the action i: its length and role, then its relation and how many arguments it has
unfoldable pub literal_shape : List ℕ → ℕ → List ℕ → ℕ
unfolding lasting_in arguments_stop
literal_shape head i p =
    cond (ltb (length p) 2) 12
    (cond (ltb 9 (byte p 0)) 16
    (cond (ltb 3 (byte p 0) && not (lasting_in head i)) 16
    (arguments_stop head (byte p 1) 2 (length p))))

-- and its arguments, where its action has so many variables
unfoldable pub literal_arguments : ℕ → List ℕ → ℕ
unfolding role_of
literal_arguments vars p = cond (not (clears_once (literal_of p))) 26 (cond (any (no_variable vars) (drop 2 p)) 18 0)

-- the row "fields" of a component record
unfoldable pub component_fields : List ℕ → List ℕ → ℕ
unfolding relations_in arity_in
component_fields head p =
    cond (ltb (length p) 1) 12
    (cond (leb (relations_in head) (byte p 0)) 17
    (cond (not (eqb (length p) (1 + arity_in head (byte p 0)))) 12 0))

-- ---- labels, as bytes

-- a label that equals one before it: of those that are FF, or of the keys
abbrev pub again : Bool → List ℕ → ℕ → Bool
again counted before b = cond (eqb b 255) counted (not counted) && any (eqb b) before

-- whether the label at a place of a payload is, and the places of the labels there
abbrev pub again_at : Bool → List ℕ → ℕ → Bool
again_at counted p i = again counted (drop 1 (take i p)) (byte p i)

abbrev pub label_places : List ℕ → List ℕ
label_places p = numbers_from 1 (length p - 1)

-- a key that is not below n
abbrev pub high_key : ℕ → List ℕ → ℕ → Bool
high_key n before b = not (eqb b 255 || ltb b n)

-- every label other than FF is below n
abbrev pub keys_below : ℕ → List ℕ → Bool
keys_below n bs = all (λ b. eqb b 255 || ltb b n) bs

-- each of the numbers below n stands once
abbrev pub each_once : ℕ → List ℕ → Bool
each_once n bs = all (λ k. eqb (library_count (eqb k) bs) 1) (below n)

-- ---- labels beside the arguments of a literal's row

-- no key stands at FF
abbrev pub key_beside : ℕ → ℕ → Bool
key_beside label argument = eqb label 255 || not (eqb argument 255)

-- the same, of the label and the argument of two bytes
abbrev pub may_stand : ℕ × ℕ → Bool
may_stand x = is_counted (label_of x.0) || not (is_every (argument_of x.1))

-- the row of a literal has the relation of a component's payload, and FF where one of its labels is a key
unfoldable pub key_cleared_in : List ℕ → List ℕ → Bool
key_cleared_in p row = eqb (byte p 0) (byte row 1) && not (side_by_side key_beside (drop 1 p) (drop 2 row))
