-- `number_classes` meets its contract: after j turns `words` has the classes of the first j literals, and `numbers` their numbers. Assumes nothing.
use Rattle.classes.proofs.Numbering.{SoFar}
use Rattle.classes.proofs.number.number_classes.Given as goal

abbrev pub invariant-loop-j : goal.invariant-loop-j
invariant-loop-j l = SoFar l.places.head.now l.rows l.initial.numbers l.numbers l.initial.words l.words l.count l.j
