-- How the code holds the classes of an action: class numbers, the usage of each literal at a moment, and what a name is decided by. Assumes
-- nothing.
use Rattle.std.specs.Prelude.{◌≡◌, Option, Some, None, Bool, true, false, ◌&&◌, ◌||◌, not, cond, ℕ, zero, suc, ◌+◌, ◌-◌, ◌*◌, ◌≤◌, ◌<◌, eqb, ltb, leb, length, get_or, set, take, drop, replicate}
use mathlib.Core.List.{List, [], ◌∷◌, ◌++◌, map, flat_map}
use Rattle.records.specs.Lists.{In, any, all, pairwise, same_list, position, below}
use Rattle.literals.specs.declared.Variable.{Variable}
use Rattle.literals.specs.declared.Time.{Time}
use Rattle.literals.specs.declared.Time.TheVariants.{AtStart, OverAll, AtEnd}
use Rattle.literals.specs.declared.Usage.{Usage}
use Rattle.literals.specs.declared.Usage.TheVariants.{Positive, Negative, Add, Delete}
use Rattle.literals.specs.declared.Role.{Role}
use Rattle.literals.specs.Domain.{same_variable, same_literal, is_every, usage_number, role_of, same_time, is_counted, Literal, Action, Domain}
use Rattle.literals.specs.Decode.{max_literals, argument_of, label_of, repeats}
use Rattle.literals.specs.Held.{row_of, literal_row, pad, rows_meet, row_in, clears_in, components_in, arity_in, component_row_in, TemplateOf}
use Rattle.literals.specs.declared.Moment.{Moment}
use Rattle.literals.specs.declared.Moment.TheVariants.{Start, End}
use Rattle.classes.specs.declared.Count.{Count}
use Rattle.classes.specs.declared.Count.TheVariants.{Zero, One, More}
use Rattle.classes.specs.declared.Sole.{Sole}
use Rattle.classes.specs.declared.number.NumberedLiteral.{NumberedLiteral}
use Rattle.literals.specs.Matching.{own, asked}
use Rattle.classes.specs.Classes.{literal_tuples, classes, covered, excluding}

-- ---- class numbers

-- the number of a literal's class among these, FF where it does not match
abbrev pub class_number_by : List (List Variable) → List (List Variable) → ℕ
class_number_by xs [] = 255
class_number_by xs (t ∷ ts) = position (same_list same_variable t) xs

-- the class number of each literal of an action, in file order
unfoldable pub class_numbers : Domain → Action → List ℕ
unfolding literal_tuples classes
class_numbers D a = map (λ (l : Literal). class_number_by (classes D a) (literal_tuples D l.atom)) a.lits

-- those of all literals of these actions, in table order
unfoldable pub numbers_of : Domain → List Action → List ℕ
unfolding class_numbers flat_map
numbers_of D as' = flat_map (class_numbers D) as'

-- a key tuple as a row of 8 bytes
abbrev pub tuple_row : List Variable → List ℕ
tuple_row x = row_of (map (λ (v : Variable). v.0) x)

-- ---- class numbers, by the bytes of rows

-- the byte of a class number in a memory, FF for none
abbrev pub class_byte : Option ℕ → ℕ
class_byte None = 255
class_byte (Some c) = c

-- the class number of a literal whose key tuple has this word, or none, and how many classes there then are: `words` has those of `count`
-- classes
unfoldable pub numbered_by : List ℕ → ℕ → List ℕ → NumberedLiteral
numbered_by [] count words = record { class = None; count = count }
numbered_by (w ∷ ws) count words =
    let c = position (eqb w) (take count words) in
    record { class = Some c; count = cond (eqb c count) (count + 1) count }

-- the words of the classes then
unfoldable pub words_after : List ℕ → ℕ → List ℕ → List ℕ
words_after [] count words = words
words_after (w ∷ ws) count words = cond (eqb (position (eqb w) (take count words)) count) (set words count w) words

-- the row of a key tuple, FF where there is none
abbrev pub only_row : List (List ℕ) → List ℕ
only_row [] = replicate 8 255
only_row (t ∷ ts) = t

-- ---- what a literal is at a moment: of a moment's own literals, or (wide) of all that are asked there, an end's over-all conditions too

-- the roles that count in a usage
abbrev pub counts : Bool → Moment → Usage → Role → Bool
counts wide m c r = cond wide (asked m c r) (own m c r)

-- the times whose roles count
abbrev pub timed : Bool → Moment → Time → Bool
timed wide Start t = same_time AtStart t
timed wide End AtStart = false
timed wide End OverAll = wide
timed wide End AtEnd = true

-- 1 to 4 for a true condition, false condition, add or delete of the moment, 0 for none
abbrev pub usage_at : Bool → Moment → Role → ℕ
usage_at wide m r = cond (counts wide m r.usage r) (suc (usage_number r.usage)) 0

-- the byte of a usage in a memory, 0 for none
abbrev pub usage_mark : Option Usage → ℕ
usage_mark None = 0
usage_mark (Some u) = suc (usage_number u)

-- the same, 0 where an earlier literal of the same usage at that moment has the same atom: "a literal in both counting once"
abbrev pub usage_once : Bool → Moment → List Literal → Literal → ℕ
usage_once wide m earlier l =
    cond (any (λ (k : Literal). eqb (usage_at wide m k.role) (usage_at wide m l.role) && same_literal k.atom l.atom) earlier) 0
    (usage_at wide m l.role)

abbrev pub usages_from : Bool → Moment → List Literal → List Literal → List ℕ
usages_from wide m earlier [] = []
usages_from wide m earlier (l ∷ ls) = usage_once wide m earlier l ∷ usages_from wide m (earlier ++ (l ∷ [])) ls

-- for each literal of an action, in file order
unfoldable pub usages_by : Bool → Action → Moment → List ℕ
usages_by wide a m = usages_from wide m [] a.lits

-- of its own: what names, journeys and components are told by
abbrev pub own_usages : Action → Moment → List ℕ
own_usages = usages_by false

-- of those that are asked: what unreachable is told by, and what a witness lists
abbrev pub asked_usages : Action → Moment → List ℕ
asked_usages = usages_by true

-- no literal is "repeated in its role", as reading has it
abbrev pub no_repeats : Action → Bool
no_repeats a = pairwise (λ l m. not (repeats l m)) a.lits

-- the place of the first uncovered component, or the number of components
unfoldable pub uncovered_at : Domain → Action → List Variable → Moment → ℕ
unfolding excluding
uncovered_at D a x m = position (λ c. not (covered (excluding D a x m) c)) D.template

-- a place below n, none where it is not
abbrev pub place_below : ℕ → ℕ → Option ℕ
place_below n c = cond (ltb c n) (Some c) None

-- ---- the same by index: of rows of 8 bytes, class numbers and usages

-- the usage at a moment of a role byte
unfoldable pub usage_byte : Bool → Moment → ℕ → ℕ
unfolding role_of
usage_byte wide m r = usage_at wide m (role_of r)

-- two rows have the same relation and arguments
unfoldable pub same_atom_at : List ℕ → ℕ → ℕ → Bool
same_atom_at rows i j = same_list eqb (drop 1 (row_in rows i)) (drop 1 (row_in rows j))

-- the row i has this usage at the moment, and the atom of the row j
unfoldable pub says_at : Bool → List ℕ → Moment → ℕ → ℕ → ℕ → Bool
unfolding usage_byte same_atom_at
says_at wide rows m usage j i = eqb (usage_byte wide m (get_or rows (8 * i) 0)) usage && same_atom_at rows i j

-- whether literals of different roles have this usage at the moment: what is asked at an end are its own conditions and the over-all ones
abbrev pub may_meet : Bool → Moment → ℕ → Bool
may_meet wide Start usage = false
may_meet wide End usage = wide && (not (eqb usage 0) && ltb usage 3)

-- the usage of the row j at the moment, 0 where an earlier row says it, which is asked of such usages alone
unfoldable pub usage_in : Bool → List ℕ → Moment → ℕ → ℕ
unfolding usage_byte says_at
usage_in wide rows m j =
    let usage = usage_byte wide m (get_or rows (8 * j) 0) in
    cond (may_meet wide m usage && any (says_at wide rows m usage j) (below j)) 0 usage

-- the row j is in this class with this usage
unfoldable pub is_at : List ℕ → List ℕ → ℕ → ℕ → ℕ → Bool
is_at numbers usages class usage j = eqb (get_or numbers j 0) class && eqb (get_or usages j 0) usage

-- besides, it has the atom of the row i
unfoldable pub is_same_at : List ℕ → List ℕ → List ℕ → ℕ → ℕ → ℕ → ℕ → Bool
unfolding is_at same_atom_at
is_same_at rows numbers usages class usage i j = is_at numbers usages class usage j && same_atom_at rows i j

unfoldable pub same_in : List ℕ → List ℕ → List ℕ → ℕ → ℕ → ℕ → Bool
unfolding is_same_at
same_in rows numbers usages class usage i = any (is_same_at rows numbers usages class usage i) (below (length numbers))

-- two rows meet
unfoldable pub meet_at : List ℕ → ℕ → ℕ → Bool
meet_at rows i j = rows_meet (row_in rows i) (row_in rows j)

-- the row j is a delete of this class, and meets the row i
unfoldable pub is_delete_at : List ℕ → List ℕ → List ℕ → ℕ → ℕ → ℕ → Bool
unfolding is_at meet_at
is_delete_at rows numbers usages class i j = is_at numbers usages class 4 j && meet_at rows j i

unfoldable pub deleted_in : List ℕ → List ℕ → List ℕ → ℕ → ℕ → Bool
unfolding is_delete_at
deleted_in rows numbers usages class i = any (is_delete_at rows numbers usages class i) (below (length numbers))

-- the atom of the row i is an add of the class, or it is deleted there
unfoldable pub changed_at : List ℕ → List ℕ → List ℕ → ℕ → ℕ → Bool
unfolding same_in deleted_in
changed_at rows numbers usages class i = same_in rows numbers usages class 3 i || deleted_in rows numbers usages class i

-- the row j is a false condition, add or delete of the class, with this relation
unfoldable pub excludes_at : List ℕ → List ℕ → List ℕ → ℕ → ℕ → ℕ → Bool
excludes_at rows numbers usages class relation j = eqb (get_or numbers j 0) class
    && (leb 2 (get_or usages j 0) && eqb relation (get_or rows (8 * j + 1) 0))

-- where the label is FF, the argument beside it is FF
abbrev pub cleared_beside : ℕ → ℕ → Bool
cleared_beside label argument = not (is_counted (label_of label)) || is_every (argument_of argument)

-- of the label i of the component c of the head, and of the argument i of the row j
abbrev pub cleared_at : List ℕ → List ℕ → ℕ → ℕ → ℕ → Bool
cleared_at head rows c j i = cleared_beside (get_or (component_row_in head c) (1 + i) 0) (get_or rows (8 * j + 2 + i) 0)

-- the row j has FF where the component c has it, of as many arguments as its relation has
unfoldable pub clears_at : List ℕ → List ℕ → ℕ → ℕ → Bool
unfolding component_row_in arity_in
clears_at head rows c j = all (cleared_at head rows c j) (below (arity_in head (get_or (component_row_in head c) 0 0)))

-- the row j is one by which the class covers it
unfoldable pub covers_at : List ℕ → List ℕ → List ℕ → List ℕ → ℕ → ℕ → ℕ → Bool
unfolding component_row_in excludes_at clears_at
covers_at head rows numbers usages class c j =
    excludes_at rows numbers usages class (get_or (component_row_in head c) 0 0) j && clears_at head rows c j

-- the class covers the component c of the head
unfoldable pub covered_at : List ℕ → List ℕ → List ℕ → List ℕ → ℕ → ℕ → Bool
unfolding covers_at
covered_at head rows numbers usages class c = any (covers_at head rows numbers usages class c) (below (length numbers))

-- the label i of the component c of the head is FF
abbrev pub counted_at : List ℕ → ℕ → ℕ → Bool
counted_at head c i = is_counted (label_of (get_or (component_row_in head c) (1 + i) 0))

-- one of its labels is
unfoldable pub has_counted : List ℕ → ℕ → Bool
unfolding component_row_in arity_in
has_counted head c = any (counted_at head c) (below (arity_in head (get_or (component_row_in head c) 0 0)))

-- the same, as it is looked for: where no literal has FF, a component with a counted place is covered by none
unfoldable pub looked_covered : List ℕ → List ℕ → List ℕ → List ℕ → ℕ → ℕ → Bool
unfolding has_counted covered_at
looked_covered head rows numbers usages class c =
    (clears_in head || not (has_counted head c)) && covered_at head rows numbers usages class c

-- the first component that it does not cover, or their number
unfoldable pub lacking_at : List ℕ → List ℕ → List ℕ → List ℕ → ℕ → ℕ
unfolding components_in covered_at
lacking_at head rows numbers usages class = position (λ c. not (covered_at head rows numbers usages class c)) (below (components_in head))

-- the row j is an over-all literal of the class
unfoldable pub lasts_at : List ℕ → List ℕ → ℕ → ℕ → Bool
unfolding role_of
lasts_at rows numbers class j = eqb (get_or numbers j 0) class && same_time OverAll (role_of (get_or rows (8 * j) 0)).time

-- ---- which literals pass a test: 0 for none, k + 1 for the literal k alone, 255 for more

-- what such a byte says
abbrev pub count_of : ℕ → Count
count_of n = cond (eqb n 0) Zero (cond (eqb n 255) More (One (n - 1)))

-- with the literal j, which passes or does not
abbrev pub sole_more : Bool → ℕ → ℕ → ℕ
sole_more true j s = cond (eqb s 0) (j + 1) 255
sole_more false j s = s

-- of the first n
unfoldable pub sole_by : (ℕ → Bool) → ℕ → ℕ
sole_by p zero = 0
sole_by p (suc n) = sole_more (p n) n (sole_by p n)

-- which literal of a class has this usage
unfoldable pub sole_at : List ℕ → List ℕ → ℕ → ℕ → ℕ
unfolding is_at sole_by
sole_at numbers usages class usage = sole_by (is_at numbers usages class usage) (length numbers)

-- the true conditions and the adds of a class
abbrev pub sole_of : List ℕ → List ℕ → ℕ → Sole
sole_of numbers usages class =
    record { conditions = count_of (sole_at numbers usages class 1); adds = count_of (sole_at numbers usages class 3) }

-- ---- the same of all classes, in sections of a byte for each: the true conditions and the adds at the start, the same two at the end,
-- and the true conditions that are asked at the end

-- whether a section counts the row j
unfoldable pub counts_in : List ℕ → ℕ → ℕ → Bool
unfolding usage_in
counts_in rows zero j = eqb (usage_in false rows Start j) 1
counts_in rows (suc zero) j = eqb (usage_in false rows Start j) 3
counts_in rows (suc (suc zero)) j = eqb (usage_in false rows End j) 1
counts_in rows (suc (suc (suc zero))) j = eqb (usage_in false rows End j) 3
counts_in rows (suc (suc (suc (suc s)))) j = eqb (usage_in true rows End j) 1

-- which literal of a class each of the five sections counts, in a memory
unfoldable pub SolesOf : List ℕ → List ℕ → List ℕ → Type 0
unfolding counts_in sole_by
SolesOf rows numbers soles =
    (s k : ℕ) → s < 5 → k < max_literals
    → get_or soles (max_literals * s + k) 0 ≡ sole_by (λ j. eqb (get_or numbers j 0) k && counts_in rows s j) (length numbers)

-- the true conditions and the adds of a class, by the section of its true conditions
abbrev pub sole_in : List ℕ → ℕ → ℕ → Sole
sole_in soles s class = record {
  conditions = count_of (get_or soles (max_literals * s + class) 0);
  adds = count_of (get_or soles (max_literals * (s + 1) + class) 0);
}

-- the first section that counts the literals of a role, or 5: a true condition at the end is asked besides
abbrev pub section_by : Time → Usage → ℕ
section_by AtStart Positive = 0
section_by AtStart Add = 1
section_by AtStart Negative = 5
section_by AtStart Delete = 5
section_by OverAll Positive = 4
section_by OverAll Negative = 5
section_by OverAll Add = 5
section_by OverAll Delete = 5
section_by AtEnd Positive = 2
section_by AtEnd Add = 3
section_by AtEnd Negative = 5
section_by AtEnd Delete = 5

abbrev pub section_of : Role → ℕ
section_of r = section_by r.time r.usage

-- 5 for none
abbrev pub section_number : Option ℕ → ℕ
section_number None = 5
section_number (Some s) = s

-- which literal of a class is asked as a true condition at a moment: 255 says that it is unreachable there
unfoldable pub reach_at : Domain → Action → Moment → ℕ → ℕ
unfolding class_numbers usages_by sole_at
reach_at D a m class = sole_at (class_numbers D a) (pad max_literals (asked_usages a m)) class 1

-- ---- what the code's memories hold of an action

-- a row for each class number, and no more than an action has literals
pub record Sides (rows numbers : List ℕ) : Type 0 where
  pub rowed : 8 * length numbers ≤ length rows
  pub few : length numbers ≤ max_literals

-- an action of a domain whose template is that of a head, by the rows of its literals, none of which is repeated in its role
pub record ActionOf (D : Domain) (a : Action) (head rows : List ℕ) : Type 0 where
  pub says : TemplateOf D head
  pub listed : In a D.actions
  pub apart : no_repeats a ≡ true
  pub literals : rows ≡ flat_map literal_row a.lits

-- besides, the class numbers of its literals, and the usage of each at a moment
pub record MomentOf (D : Domain) (a : Action) (m : Moment) (head rows numbers usages : List ℕ) : Type 0 where
  pub whole : ActionOf D a head rows
  pub numbers_are : numbers ≡ class_numbers D a
  pub usages_are : usages ≡ pad max_literals (own_usages a m)
