-- `put_list` meets its contract. The loop's invariant is `InRelations` of proofs/EntryBytes. Assumes nothing.
use Rattle.templates.proofs.EntryBytes.{InRelations}
use Rattle.templates.proofs.entries.put_list.Given as goal

abbrev pub invariant-loop-relation : goal.invariant-loop-relation
invariant-loop-relation l = InRelations l.head l.table l.initial.list l.list l.end l.relation
