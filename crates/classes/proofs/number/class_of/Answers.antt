use mathlib.Core.Path.{sym, ◌∙◌}
use lib.Dec.{eqb}
use Rattle.classes.proofs.NewClasses.{none_found}
use Rattle.classes.proofs.number.class_of.Goals as goal

pub returns-then-not-any_word : goal.returns-then-not-any_word
returns-then-not-any_word c = let a = c.args in sym (none_found (eqb a.word) a.words.now (sym c.any_word.ensures ∙ c.if-not-any_word.true))
