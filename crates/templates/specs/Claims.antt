-- What is claimed of the list of one-relation templates, each proved in proofs/. Assumes nothing.
use Rattle.std.specs.Prelude.{◌≡◌, Bool, true, false, ◌&&◌, ◌||◌, not, cond, ◌⊎◌, ◌↔◌, List, map, ℕ, ◌+◌, ◌*◌, ◌≤◌, ◌<◌, eqb, ltb, length}
use Rattle.std.specs.Prelude.{Option, None as none, Some as some}
use Rattle.records.specs.Lists.{In, filter_by, all, pairwise, same_list, distinct}
use Rattle.records.specs.Memory.{over}
use Rattle.literals.specs.declared.Label.{Label}
use Rattle.literals.specs.declared.Label.TheVariants.{Key as keyed, Counted}
use Rattle.literals.specs.Domain.{key, Component, Domain, arity, bare}
use Rattle.literals.specs.Decode.{max_relations, max_arguments, byte, component_of, keys_cleared, component_record, stop_of, domain, decode}
use Rattle.verdict.specs.Decision.{rows}
use Rattle.verdict.specs.Judged.{answer_at}
use Rattle.verdict.specs.Claims.{well_formed, Safe}
use Rattle.templates.specs.Templates.{Shape, shape, component_at, shapes, single, legal_alone, listed, verdict_of, list_bytes}
use Rattle.templates.specs.Templates.{list_file, list_after}

-- ---- legal, as reading has it

abbrev pub are_bytes : List ℕ → Bool
are_bytes p = all (λ b. ltb b 256) p

-- the payload of a component's record that reading would take as the only one
abbrev pub LegalIsRead : Type 0
LegalIsRead =
    (D : Domain) (p : List ℕ) → are_bytes p ≡ true → 1 ≤ length p
    → (stop_of (bare D) component_record p ≡ 0) ↔ (legal_alone D (component_of p) ≡ true)

-- and a template of that component alone is well-formed where the actions are
abbrev pub LegalIsWellFormed : Type 0
LegalIsWellFormed = (D : Domain) (c : Component) → well_formed D ≡ true → legal_alone D c ≡ true → well_formed (single D c) ≡ true

-- ---- components that differ in the numbering of the keys alone: the same relation, and the same places counted

abbrev pub same_mark : Label → Label → Bool
same_mark (keyed k) (keyed l) = true
same_mark (keyed k) Counted = false
same_mark Counted (keyed l) = false
same_mark Counted Counted = true

abbrev pub same_shape : Component → Component → Bool
same_shape c d = eqb c.rel d.rel && same_list same_mark c.labels d.labels

-- a label with its key renamed
abbrev pub renamed : (ℕ → ℕ) → Label → Label
renamed σ (keyed k) = keyed (key (σ k.0))
renamed σ Counted = Counted

-- of legal components it says: one is the other with its keys renamed
abbrev pub ShapeIsRenaming : Type 0
ShapeIsRenaming =
    (D : Domain) (c d : Component) → legal_alone D c ≡ true
    → (same_shape c d ≡ true) ↔ ((c.rel ≡ d.rel) × ((σ : ℕ → ℕ) × (d.labels ≡ map (renamed σ) c.labels)))

-- ---- "Each legal one appears exactly once"

-- no two of the list are the same but for the numbering of the keys
abbrev pub ListedOnce : Type 0
ListedOnce = (D : Domain) → distinct same_shape (map (component_at D) (listed D)) ≡ true

-- each is legal
abbrev pub ListedLegal : Type 0
ListedLegal = (D : Domain) (s : Shape) → In s (listed D) → legal_alone D (component_at D s) ≡ true

-- "arity, 0 to 6", as in every domain that was read
abbrev pub Limited : Domain → Type 0
Limited D = (r : ℕ) → arity D r ≤ max_arguments

-- each legal component is listed, but for the numbering of its keys
abbrev pub ListedAll : Type 0
ListedAll =
    (D : Domain) → Limited D → (c : Component) → legal_alone D c ≡ true
    → (s : Shape) × In s (listed D) × (same_shape c (component_at D s) ≡ true)

-- "Order: relation number rising; for each relation first no counted place, then the counted place rising"
abbrev pub place_rises : Option ℕ → Option ℕ → Bool
place_rises none none = false
place_rises none (some q) = true
place_rises (some p) none = false
place_rises (some p) (some q) = ltb p q

abbrev pub rises : Shape → Shape → Bool
rises s t = ltb s.rel t.rel || (eqb s.rel t.rel && place_rises s.place t.place)

abbrev pub ListedRising : Type 0
ListedRising = (D : Domain) → pairwise rises (listed D) ≡ true

-- passed over are the templates with a key where a literal of the relation has FF (27), and no others
abbrev pub ClearedPassedOver : Type 0
ClearedPassedOver = (D : Domain) → Limited D → listed D ≡ filter_by (λ s. not (keys_cleared D.actions (component_at D s))) (shapes D)

-- ---- the numbering of the keys does not matter: same rows, so same verdict

abbrev pub RenamedAlike : Type 0
RenamedAlike =
    (D : Domain) (c d : Component) → legal_alone D c ≡ true → legal_alone D d ≡ true → same_shape c d ≡ true
    → rows (single D c) ≡ rows (single D d)

-- the verdict of every legal one-component template stands in the list, with its relation and its counted place
abbrev pub VerdictListed : Type 0
VerdictListed =
    (D : Domain) → Limited D → (c : Component) → legal_alone D c ≡ true
    → (s : Shape) × In s (listed D) × (same_shape c (component_at D s) ≡ true) × (verdict_of D c ≡ verdict_of D (component_at D s))

-- an accepted entry is safe
abbrev pub EntrySafe : Type 0
EntrySafe =
    (D : Domain) → well_formed D ≡ true → (s : Shape) → In s (listed D)
    → (verdict_of D (component_at D s) ≡ 0) ⊎ (verdict_of D (component_at D s) ≡ 1) → Safe (single D (component_at D s))

-- ---- of a file that reads

abbrev pub ListOfFile : Type 0
ListOfFile =
    (f out : List ℕ) (D : Domain) → decode f ≡ domain D → 3 * length (listed D) ≤ length out
    → (list_file f out ≡ answer_at 0 (3 * length (listed D))) × (list_after f out ≡ over (list_bytes D) out)

abbrev pub ListShort : Type 0
ListShort =
    (f out : List ℕ) (D : Domain) → decode f ≡ domain D → length out < 3 * length (listed D)
    → (list_file f out ≡ answer_at 30 0) × (list_after f out ≡ out)

-- each relation has at most one entry without a counted place and one for each place, and every number is a byte
abbrev pub ListBounded : Type 0
ListBounded =
    (f : List ℕ) (D : Domain) → decode f ≡ domain D
    → (3 * length (listed D) ≤ 3 * ((1 + max_arguments) * max_relations)) × (are_bytes (list_bytes D) ≡ true)

-- ---- of an answer to the file f: the number n, the first place k and the bytes of the list afterwards

-- the component that the entry i tells, its keys numbered from left to right, and its verdict
abbrev pub shape_in : List ℕ → ℕ → Shape
shape_in list i = shape (byte list (3 * i)) (cond (eqb (byte list (3 * i + 1)) 255) none (some (byte list (3 * i + 1))))

abbrev pub component_in : Domain → List ℕ → ℕ → Component
component_in D list i = component_at D (shape_in list i)

abbrev pub verdict_in : List ℕ → ℕ → ℕ
verdict_in list i = byte list (3 * i + 2)

-- each entry with verdict 0 or 1 is safe in every run
abbrev pub EntriesSafe : List ℕ → ℕ → ℕ → List ℕ → Type 0
EntriesSafe f n k list =
    (D : Domain) → decode f ≡ domain D → n ≡ 0 → (i : ℕ) → 3 * i < k → (verdict_in list i ≡ 0) ⊎ (verdict_in list i ≡ 1)
    → Safe (single D (component_in D list i))

-- and every component that reading would take as the only one has an entry, up to the numbering of its keys, with its verdict
abbrev pub NothingMissing : List ℕ → ℕ → ℕ → List ℕ → Type 0
NothingMissing f n k list =
    (D : Domain) → decode f ≡ domain D → n ≡ 0
    → (p : List ℕ) → are_bytes p ≡ true → stop_of (bare D) component_record p ≡ 0
    → (i : ℕ) × (3 * i < k) × (same_shape (component_of p) (component_in D list i) ≡ true) × (verdict_in list i ≡ verdict_of D (component_of p))
