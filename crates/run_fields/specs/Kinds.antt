-- The kinds of a run file's records, as the code tells them apart, by those of the definition. Assumes nothing.
use Rattle.std.specs.Prelude.{◌≡◌, ℕ, Result, MatchResult}
use Rattle.run_fields.specs.declared.kind.Kind.{Kind}
use Rattle.run_fields.specs.declared.kind.Kind.TheVariants.{Objects, Fact, Event, Step, End}
use Rattle.run_semantics.specs.RunFile.{RunKind, objects_record, fact_record, event_record, step_record, end_record, other_record, run_kind_of}
use Rattle.run_semantics.specs.declared.Stop.{Stop}
use Rattle.run_semantics.specs.declared.Stop.TheVariants.{Malformed}

abbrev pub run_kind : Kind → RunKind
run_kind Objects = objects_record
run_kind Fact = fact_record
run_kind Event = event_record
run_kind Step = step_record
run_kind End = end_record

-- the kind of a record's number, or that it is none of these
abbrev pub KindOf : ℕ → Result Kind Stop → Type 0
KindOf n r = MatchResult r (λ k. run_kind k ≡ run_kind_of n) (λ s. (s ≡ Malformed) × (run_kind_of n ≡ other_record))
