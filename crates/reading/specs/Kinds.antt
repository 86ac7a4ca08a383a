-- The kinds of a domain file's records, as the code tells them apart, by those of the definition. Assumes nothing.
use Rattle.std.specs.Prelude.{◌≡◌, ℕ, Result, MatchResult}
use Rattle.reading.specs.declared.kind.Kind.{Kind}
use Rattle.reading.specs.declared.kind.Kind.TheVariants.{Relation, Action, Literal, Component, Closing}
use Rattle.literals.specs.Decode.{RecordKind, relation_record, action_record, literal_record, component_record, closing_record, unknown_record, kind_of}
use Rattle.literals.specs.declared.fault.Fault.{Fault}
use Rattle.literals.specs.declared.fault.Fault.TheVariants.{UnknownKind}

abbrev pub record_kind : Kind → RecordKind
record_kind Relation = relation_record
record_kind Action = action_record
record_kind Literal = literal_record
record_kind Component = component_record
record_kind Closing = closing_record

-- the kind of a record's number, or that it is unknown
abbrev pub KindOf : ℕ → Result Kind Fault → Type 0
KindOf n r = MatchResult r (λ k. record_kind k ≡ kind_of n) (λ f. (f ≡ UnknownKind) × (kind_of n ≡ unknown_record))
