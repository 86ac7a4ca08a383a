-- `NumberedAction::name_each` meets its contract. The loop's invariant is `InClasses` of proofs/NamedRows; the measure is how many classes
-- are
-- left. Assumes nothing.
use Rattle.naming.proofs.NamedRows.{InClasses}
use Rattle.naming.proofs.NumberedAction.name_each.Given as goal

abbrev pub invariant-loop-class : goal.invariant-loop-class
invariant-loop-class l =
    InClasses l.head l.rows l.numbers l.at_start l.at_end l.soles l.count l.self.lasting l.initial.names l.initial.next l.names l.next l.class
