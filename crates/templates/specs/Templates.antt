-- "Every one-relation template, listed": the templates of a single component, in order, each with its verdict. Assumes nothing.
use Rattle.std.specs.Prelude.{Bool, ◌&&◌, ℕ, zero, suc, eqb}
use mathlib.Core.List.{List, [], ◌∷◌, ◌++◌, map, flat_map}
use Rattle.std.specs.Prelude.{Option, None as none, Some as some}
use Rattle.records.specs.Lists.{filter_by, all, below}
use Rattle.literals.specs.declared.Label.{Label}
use Rattle.literals.specs.declared.Label.TheVariants.{Key as keyed, Counted}
use Rattle.literals.specs.Domain.{key, Component, key_below, Domain, arity, bare, label_number}
use Rattle.literals.specs.Decode.{component_record, stop_of}
use Rattle.verdict.specs.Judged.{Answer, decided}
use Rattle.services.specs.Service.{served, served_after}

-- ---- labels: "keys always numbered 0, 1, .. from left to right"

-- n keys, from the key k on
abbrev pub keys_from : ℕ → ℕ → List Label
keys_from k zero = []
keys_from k (suc n) = keyed (key k) ∷ keys_from (suc k) n

-- n labels, keys from k on, the place p counted
abbrev pub labels_from : ℕ → ℕ → ℕ → List Label
labels_from k zero p = []
labels_from k (suc n) zero = Counted ∷ keys_from k n
labels_from k (suc n) (suc p) = keyed (key k) ∷ labels_from (suc k) n p

-- of a relation with n arguments: no counted place, or one
abbrev pub labels_with : ℕ → Option ℕ → List Label
labels_with n none = keys_from 0 n
labels_with n (some p) = labels_from 0 n p

-- ---- the templates in order

-- a relation, and the counted place if there is one
pub record Shape : Type 0 where
  pub rel : ℕ
  pub place : Option ℕ

abbrev pub shape : ℕ → Option ℕ → Shape
shape r p = record { rel = r; place = p }

abbrev pub component_at : Domain → Shape → Component
component_at D s = record { rel = s.rel; labels = labels_with (arity D s.rel) s.place }

-- "for each relation first no counted place, then the counted place rising": of the relation r with n arguments
abbrev pub shapes_of : ℕ → ℕ → List Shape
shapes_of r n = shape r none ∷ map (λ p. shape r (some p)) (below n)

-- "relation number rising"
abbrev pub shapes_from : ℕ → List ℕ → List Shape
shapes_from r [] = []
shapes_from r (n ∷ ns) = shapes_of r n ++ shapes_from (suc r) ns

unfoldable pub shapes : Domain → List Shape
shapes D = shapes_from 0 D.arities

-- ---- the legal ones

-- the domain with this component for its template: "with the file's own components left aside once checked"
abbrev pub single : Domain → Component → Domain
single D c = record { arities = D.arities; actions = D.actions; template = c ∷ [] }

-- the payload of a component's record: "relation, one label per argument"
abbrev pub component_bytes : Component → List ℕ
component_bytes c = c.rel ∷ map label_number c.labels

-- reading takes its record where no component is read before, by its own test of a record; and the record says this component: FF is no
-- key
unfoldable pub legal_alone : Domain → Component → Bool
unfolding stop_of
legal_alone D c = eqb (stop_of (bare D) component_record (component_bytes c)) 0 && all (key_below 255) c.labels

-- "Templates that the file rules refuse are passed over."
unfoldable pub listed : Domain → List Shape
unfolding shapes legal_alone
listed D = filter_by (λ s. legal_alone D (component_at D s)) (shapes D)

-- ---- the bytes: "Each entry carries relation, counted place (FF for none) and verdict, a byte each."

abbrev pub place_byte : Option ℕ → ℕ
place_byte none = 255
place_byte (some p) = p

-- as judging decides the domain with this template alone, whatever memory is lent
abbrev pub verdict_of : Domain → Component → ℕ
verdict_of D c = (decided (single D c)).number

abbrev pub entry : Domain → Shape → List ℕ
entry D s = s.rel ∷ place_byte s.place ∷ verdict_of D (component_at D s) ∷ []

unfoldable pub list_bytes : Domain → List ℕ
unfolding listed decided flat_map
list_bytes D = flat_map (entry D) (listed D)

-- the answer to a file with lent memory, and the memory afterwards
unfoldable pub list_file : List ℕ → List ℕ → Answer
unfolding served list_bytes
list_file f out = served list_bytes f out

unfoldable pub list_after : List ℕ → List ℕ → List ℕ
unfolding served_after list_bytes
list_after f out = served_after list_bytes f out
