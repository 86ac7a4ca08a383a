-- How the code holds facts: as rows of bytes, with their key tuples and the weights of instances by rows; and their index, 12,288
-- numbers with a note behind them. It only makes the search quicker: which facts are held is said by their rows. Assumes nothing.
use Rattle.std.specs.Prelude.{◌≡◌, Option, Some, None, Bool, cond, ℕ, ◌≤◌, ◌-◌, ◌+◌, ◌*◌, ◌%◌, ◌<◌, eqb, length, drop, replicate, get_or, set, take}
use mathlib.Core.List.{List, [], ◌∷◌, map, flat_map, ◌++◌}
use Rattle.records.specs.Lists.{In, count_by, any, same_list, elem}
use Rattle.literals.specs.Domain.{Fact, Domain, arity, object}
use Rattle.literals.specs.Decode.{byte, max_arguments, label_of}
use Rattle.literals.specs.Held.{key_row, arity_in, component_row_in, keys_in, component_rows_in}
use Rattle.literals.specs.declared.Object.{Object}
use Rattle.literals.specs.declared.Label.{Label}
use Rattle.literals.specs.declared.Label.TheVariants.{Key as keyed, Counted}
use Rattle.verdict.specs.Machine.{weight, instances_in, largest}

-- ---- rows

-- a row is one of these
abbrev pub has_row : List ℕ → List (List ℕ) → Bool
has_row row rows = elem (same_list eqb) row rows

-- ---- facts that fit a row

-- facts whose arguments have room in a row
abbrev pub Few : List Fact → Type 0
Few fs = (f : Fact) → In f fs → length f.args ≤ max_arguments

-- a fact with the arity of its relation
pub record FactFits (D : Domain) (f : Fact) : Type 0 where
  pub sized : length f.args ≡ arity D f.rel

-- ---- weights, by rows

-- the key tuple of a fact's row, as a row: none or one
unfoldable pub instance_rows : ℕ → List (List ℕ) → List ℕ → List (List ℕ)
unfolding key_row
instance_rows n [] row = []
instance_rows n (component ∷ component_rows) row = cond (eqb (byte row 0) (byte component 0)) (key_row n component row ∷ [])
    (instance_rows n component_rows row)

-- the highest weight of the instances of the facts from one place on, among all facts
unfoldable pub top_from : Domain → List Fact → ℕ → ℕ
unfolding instances_in weight
top_from D fs from = largest (map (λ y. weight D y fs) (instances_in D (drop from fs)))

-- ---- weighing

-- of the key tuples of a fact's row, none or one
unfoldable pub keyed_by : List (List ℕ) → Option (List ℕ)
keyed_by [] = None
keyed_by (t ∷ ts) = Some t

-- the weight of the instance whose key tuple has this row
unfoldable pub row_weight : ℕ → List (List ℕ) → List (List ℕ) → List ℕ → ℕ
unfolding instance_rows
row_weight n component_rows facts row = count_by (λ fact. any (same_list eqb row) (instance_rows n component_rows fact)) facts

-- the highest weight of the instances of the facts from one place on, among all facts
unfoldable pub top_rows : ℕ → List (List ℕ) → List (List ℕ) → ℕ → ℕ
unfolding instance_rows row_weight flat_map
top_rows n component_rows facts from = largest
    (map (row_weight n component_rows facts) (flat_map (instance_rows n component_rows) (drop from facts)))

-- ---- the facts of an instance: its objects under the keys, a given one in the counted place

-- the object under a label: a given one where it is counted
abbrev pub object_at : Object → List ℕ → Label → Object
object_at counted instance (keyed k) = object (get_or instance k.0 0)
object_at counted instance Counted = counted

-- of a label's byte
abbrev pub object_byte : ℕ → List ℕ → ℕ → ℕ
object_byte counted instance label = (object_at (object counted) instance (label_of label)).0

-- the fact of a component by its row: relation, arity, objects, FF to fill
abbrev pub instance_bytes : ℕ → ℕ → List ℕ → List ℕ → List ℕ
instance_bytes arity counted instance row = get_or row 0 0 ∷ arity ∷
    (map (object_byte counted instance) (take arity (drop 1 row)) ++ replicate (max_arguments - arity) 255)

-- the same, by the head of a domain
abbrev pub instance_bytes_in : List ℕ → ℕ → ℕ → List ℕ → List ℕ
instance_bytes_in head c counted instance =
    instance_bytes (arity_in head (get_or (component_row_in head c) 0 0)) counted instance (component_row_in head c)

-- ---- the index of the facts held

-- the slots; where the sums of words start, the counts of instances, the note; and how many numbers that makes
abbrev pub slots : ℕ
slots = 4096

abbrev pub words_at : ℕ
words_at = slots

abbrev pub instances_at : ℕ
instances_at = words_at + slots

abbrev pub note_at : ℕ
note_at = instances_at + slots

abbrev pub fact_index : ℕ
fact_index = note_at + 1

-- sums wrap at 2 ^ 56
abbrev pub wrap : ℕ
wrap = 72057594037927936

abbrev pub plus : ℕ → ℕ → ℕ
plus sum amount = (sum % wrap + amount) % wrap

-- an amount added to the number at a place
abbrev pub added : ℕ → ℕ → List ℕ → List ℕ
added place amount index = set index place (plus (get_or index place 0) amount)

-- a fact's row as one number: its relation and arguments
unfoldable pub word_of : List ℕ → ℕ
word_of row =
    (((((byte row 0 * 256 + byte row 2) * 256 + byte row 3) * 256 + byte row 4) * 256 + byte row 5) * 256 + byte row 6) * 256 + byte row 7

-- the slot of a fact's row, of 4,096: by its first argument, then by relation and the other arguments
unfoldable pub slot_of : List ℕ → ℕ
slot_of row =
    64 * ((11 * byte row 0 + byte row 3 + 3 * byte row 4 + 5 * byte row 5 + 7 * byte row 6 + 9 * byte row 7) % 64) + byte row 2 % 64

-- the slot of an instance, of 4,096: of one or two keys each has its own
unfoldable pub key_slot : List ℕ → ℕ
key_slot t = 64 * ((byte t 1 + 3 * byte t 2 + 5 * byte t 3 + 7 * byte t 4 + 9 * byte t 5) % 64) + byte t 0 % 64

-- at the slots of key tuples, none or one
abbrev pub keyed_added : List (List ℕ) → ℕ → List ℕ → List ℕ
keyed_added [] amount index = index
keyed_added (t ∷ ts) amount index = added (instances_at + key_slot t) amount index

-- an index with amounts added for a fact's row: one to the facts of its slot and to those of its instance's slot, one to the words of its
-- slot
unfoldable pub with_fact : ℕ → List (List ℕ) → List ℕ → ℕ → ℕ → List ℕ → List ℕ
unfolding slot_of key_slot instance_rows
with_fact keys component_rows row count word index =
    keyed_added (instance_rows keys component_rows row) count (added (words_at + slot_of row) word (added (slot_of row) count index))

-- what a fact adds to the number at a place: 1 to the facts of its slot, its word to the words there, 1 to the facts of its
-- instance's slot
unfoldable pub amount_at : ℕ → List (List ℕ) → ℕ → List ℕ → ℕ
unfolding word_of slot_of key_slot instance_rows
amount_at keys component_rows place row =
    cond (eqb place (slot_of row)) 1 0
    + cond (eqb place (words_at + slot_of row)) (word_of row) 0
    + count_by (λ (t : List ℕ). eqb place (instances_at + key_slot t)) (instance_rows keys component_rows row)

-- what the facts held add to it
unfoldable pub total_at : ℕ → List (List ℕ) → ℕ → List (List ℕ) → ℕ
unfolding amount_at
total_at keys component_rows place [] = 0
total_at keys component_rows place (row ∷ rows) = amount_at keys component_rows place row + total_at keys component_rows place rows

-- a row with the arity of its relation
abbrev pub SizedRow : List ℕ → List ℕ → Type 0
SizedRow head row = byte row 1 ≡ arity_in head (byte row 0)

-- each fact with the arity of its relation
abbrev pub Sized : List ℕ → List (List ℕ) → Type 0
Sized head rows = (row : List ℕ) → In row rows → SizedRow head row

-- an index of these facts, of a head: each number before the note is their total
pub record Indexed (head index : List ℕ) (rows : List (List ℕ)) : Type 0 where
  pub numbers : length index ≡ fact_index
  pub totals : (place : ℕ) → place < note_at → get_or index place 0 ≡ total_at (keys_in head) (component_rows_in head) place rows % wrap
  pub sized : Sized head rows
