-- `class_tuple` meets its contract: the first literal with the number has the tuple, and one has it. Assumes nothing.
use mathlib.Core.Path.{sym, ◌∙◌}
use native.Mathlib.Omega.{arith}
use lib.Dec.{eqb}
use borrow.Author.Tests.{eqb-true, ne_eqb, eqb-false}
use Rattle.std.proofs.lemmas.List.Quantifiers.{position-Some}
use Rattle.classes.proofs.NewClasses.{place_none, none_passes}
use Rattle.classes.proofs.Numbering.{tuple_found, tuple_somewhere}
use Rattle.classes.proofs.number.class_tuple.Goals as goal

pub returns-in-Some : goal.returns-in-Some
returns-in-Some c D a A e h =
    let x = c.args in
    let r = c.requires.rowed in
    let i = position-Some (eqb x.class) x.numbers.now c.in-Some.j 0 (sym c.first_of.ensures ∙ c.in-Some.is) in
    let inside = i.0 in
    c.literal_tuple.ensures ∙ tuple_found A e h c.in-Some.j (omega arith) (sym (eqb-true _ _ i.1))

pub returns-in-None : goal.returns-in-None
returns-in-None c D a A e h =
    let x = c.args in
    absurd (tuple_somewhere A e h (λ j g. ne_eqb _ _ (λ z. eqb-false _ _ (none_passes (eqb x.class) x.numbers.now (place_none _ _ (sym c.first_of.ensures ∙ c.in-None.is)) j 0 g) (sym z))))
