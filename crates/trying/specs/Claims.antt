-- What is claimed of the plain engine, each proved in proofs/. Assumes nothing.
use Rattle.std.specs.Prelude.{◌≡◌, Bool, true, false, not, ◌&&◌, cond, ◌↔◌, List, map, ℕ, ◌*◌, ◌≤◌, ◌<◌, length, take}
use Rattle.records.specs.Lists.{In, filter_by}
use Rattle.records.specs.Memory.{over}
use Rattle.literals.specs.declared.Object.{Object}
use Rattle.literals.specs.declared.Moment.TheVariants.{Start}
use Rattle.literals.specs.Domain.{Fact, Domain, action}
use Rattle.literals.specs.Decode.{max_actions, max_literals, domain, decode}
use Rattle.literals.specs.Matching.{matches}
use Rattle.classes.specs.declared.Name.{Name}
use Rattle.classes.specs.declared.Name.TheVariants.{Unreachable, Irrelevant, Heavy, Balanced, Unbalanced, Bounded, Unbounded}
use Rattle.classes.specs.Classes.{name_of}
use Rattle.verdict.specs.Decision.{Row, rows, class_at}
use Rattle.verdict.specs.Judged.{answer_at}
use Rattle.verdict.specs.Claims.{well_formed, is_instance, is_fact, ClassAtOnce}
use Rattle.trying.specs.Trying.{instance_facts, tries, tried, tried_file, tried_after}

-- "heavy, unbalanced and unbounded"
abbrev pub is_harmful : Name → Bool
is_harmful Unreachable = false
is_harmful Irrelevant = false
is_harmful Heavy = true
is_harmful Balanced = false
is_harmful Unbalanced = true
is_harmful Bounded = false
is_harmful Unbounded = true

-- "it is yes exactly for heavy, unbalanced and unbounded, for every well-formed action at once": whatever lasts elsewhere
abbrev pub TryingExact : Type 0
TryingExact =
    (D : Domain) → well_formed D ≡ true → (i j : ℕ) → ClassAtOnce D i j
    → tries D i (class_at D i j) ≡ is_harmful (name_of D (action D i) (class_at D i j) Start)

-- the further facts are all facts of the domain over the objects that the instance matches, and no others
abbrev pub FurtherFacts : Type 0
FurtherFacts =
    (D : Domain) → well_formed D ≡ true → (objs y : List Object) → 0 < length objs → is_instance D objs y ≡ true
    → (f : Fact) → In f (instance_facts D objs y) ↔ (is_fact D objs f && matches D y f ≡ true)

-- ---- the bytes

-- the report's rows of actions at once, and a byte for each
abbrev pub rows_at_once : Domain → List Row
rows_at_once D = filter_by (λ (r : Row). not (action D r.action).lasting) (rows D)

abbrev pub row_byte : Row → ℕ
row_byte r = cond (is_harmful r.name) 1 0

-- "a byte a class in the report's order"
abbrev pub TriedAsNamed : Type 0
TriedAsNamed = (D : Domain) → well_formed D ≡ true → tried D ≡ map row_byte (rows_at_once D)

-- of a file that reads, whose memory is long enough
abbrev pub TriedOfFile : Type 0
TriedOfFile =
    (f out : List ℕ) (D : Domain) → decode f ≡ domain D → length (rows_at_once D) ≤ length out
    → (tried_file f out ≡ answer_at 0 (length (rows_at_once D))) × (tried_after f out ≡ over (map row_byte (rows_at_once D)) out)

-- and whose memory is short
abbrev pub TriedShort : Type 0
TriedShort =
    (f out : List ℕ) (D : Domain) → decode f ≡ domain D → length out < length (rows_at_once D)
    → (tried_file f out ≡ answer_at 30 0) × (tried_after f out ≡ out)

-- at most 64 actions with 64 classes each
abbrev pub TriedBounded : Type 0
TriedBounded = (f : List ℕ) (D : Domain) → decode f ≡ domain D → length (tried D) ≤ max_literals * max_actions

-- of an answer to the file f: the number n, the first place k and the memory afterwards. Its bytes agree with the report's names
abbrev pub AgreesWithNames : List ℕ → ℕ → ℕ → List ℕ → Type 0
AgreesWithNames f n k after =
    (D : Domain) → decode f ≡ domain D → n ≡ 0 → (k ≡ length (rows_at_once D)) × (take k after ≡ map row_byte (rows_at_once D))
