-- `put_relation` meets its contract. The loop's invariant is `InPlaces` of proofs/EntryBytes. Assumes nothing.
use Rattle.templates.proofs.EntryBytes.{InPlaces}
use Rattle.templates.proofs.entries.put_relation.Given as goal

abbrev pub invariant-loop-place : goal.invariant-loop-place
invariant-loop-place l = InPlaces l.head l.table l.relation l.initial.list l.initial.end l.list l.end l.place
