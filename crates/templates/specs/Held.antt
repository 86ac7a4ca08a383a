-- How the code lists the templates: the payload of a component by its place byte, and where listing stands. Assumes nothing.
use Rattle.std.specs.Prelude.{◌≡◌, Bool, true, cond, ℕ, zero, suc, ◌+◌, ◌-◌, ◌*◌, ◌<◌, eqb, ltb, length, get_or, take}
use mathlib.Core.List.{List, [], ◌∷◌, ◌++◌, map, flat_map}
use Rattle.std.specs.Prelude.{Option, None as none, Some as some, ⊤}
use Rattle.records.specs.Lists.{filter_by, below}
use Rattle.records.specs.Memory.{over}
use Rattle.literals.specs.Domain.{Component, Domain, bare}
use Rattle.literals.specs.Decode.{max_arguments}
use Rattle.literals.specs.Held.{row_in}
use Rattle.reading.specs.Held.{HeldOver}
use Rattle.verdict.specs.Claims.{well_formed}
use Rattle.templates.specs.Templates.{Shape, shapes_from, component_at, legal_alone, entry}

-- ---- payloads

-- the label at a place, as a byte: keys from left to right, around the counted place if there is one
abbrev pub label_at : Option ℕ → ℕ → ℕ
label_at none i = i
label_at (some p) i = cond (ltb i p) i (cond (eqb i p) 255 (i - 1))

-- relation, and the labels of as many places as a relation may have
abbrev pub payload_of : ℕ → Option ℕ → List ℕ
payload_of r counted = r ∷ map (label_at counted) (below max_arguments)

-- the counted place that a byte says
abbrev pub place_of_byte : ℕ → Option ℕ
place_of_byte b = cond (eqb b 255) none (some b)

-- ---- one component

-- the template has one component, of this relation
abbrev pub OnlyRelation : Domain → ℕ → Type 0
OnlyRelation D r = map (λ (c : Component). c.rel) D.template ≡ r ∷ []

-- the row j has the relation
abbrev pub mentioned_at : List ℕ → ℕ → ℕ → Bool
mentioned_at rows r j = eqb (get_or rows (8 * j + 1) 0) r

-- those of the first n rows that have it, one behind the other
unfoldable pub rows_of_relation : List ℕ → ℕ → ℕ → List ℕ
rows_of_relation rows r zero = []
rows_of_relation rows r (suc j) = rows_of_relation rows r j ++ cond (mentioned_at rows r j) (row_in rows j) []

-- ---- where listing stands

-- head and table hold the domain without its template
pub record BareHeld (D : Domain) (head table : List ℕ) : Type 0 where
  pub old : List ℕ
  pub holds : HeldOver old (bare D) head table
  pub formed : well_formed D ≡ true

-- the entries of those of some shapes that are legal
unfoldable pub entries_of : Domain → List Shape → List ℕ
unfolding flat_map legal_alone
entries_of D ss = flat_map (entry D) (filter_by (λ s. legal_alone D (component_at D s)) ss)

-- these stand in the list, up to an offset
pub record Listing (D : Domain) (ss : List Shape) (at : ℕ) (list old : List ℕ) : Type 0 where
  pub written : at ≡ length (entries_of D ss)
  pub bytes : list ≡ over (entries_of D ss) old

-- a counted place, if there is one, is an argument's, of n
abbrev pub PlaceBelow : ℕ → Option ℕ → Type 0
PlaceBelow n none = ⊤
PlaceBelow n (some p) = p < n

-- of the first n relations
abbrev pub shapes_up_to : Domain → ℕ → List Shape
shapes_up_to D n = shapes_from 0 (take n D.arities)
