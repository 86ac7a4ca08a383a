-- `name_all` meets its contract. The loop's invariant is `InActions` of proofs/NamedRows; the measure is how many actions are left. Assumes nothing.
use Rattle.naming.proofs.NamedRows.{InActions}
use Rattle.naming.proofs.name_all.Given as goal

abbrev pub invariant-loop-i : goal.invariant-loop-i
invariant-loop-i l =
    InActions l.head l.table l.initial.numbers l.initial.names l.initial.counts l.numbers l.names l.counts l.words l.rows l.notes l.i
