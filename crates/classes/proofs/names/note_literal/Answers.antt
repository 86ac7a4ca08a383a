-- `note_literal` meets its contract: by the class, and by the section that counts the literal's role. Assumes nothing.
use native.Mathlib.Omega.{arith}
use mathlib.Core.Path.{refl, sym, ◌∙◌}
use Rattle.classes.proofs.Soles.{literal_outside, literal_none, literal_asked, literal_own, literal_both}
use Rattle.classes.proofs.names.note_literal.Goals as goal

pub returns-then-class-ge-MAX_LITERALS : goal.returns-then-class-ge-MAX_LITERALS
returns-then-class-ge-MAX_LITERALS c s k h g = let a = c.args in literal_outside a.rows.now a.j a.class s k _ c.if-class-ge-MAX_LITERALS.true g

pub returns-in-None : goal.returns-in-None
returns-in-None c s k h g = let a = c.args in literal_none a.rows.now a.j 5 a.class c.in-None.ensures.number s k _ h (omega arith)

pub returns-in-Some-eq4 : goal.returns-in-Some-eq4
returns-in-Some-eq4 c s k h g =
    let a = c.args in
    let w = c.in-Some-eq4 in
    literal_asked a.rows.now a.j w.field-0 a.class w.ensures.number s k _ h w.field-0-test (c.note_asked.ensures s k h g)

pub returns-in-Some-eq2 : goal.returns-in-Some-eq2
returns-in-Some-eq2 c s k h g =
    let a = c.args in
    let w = c.in-Some-eq2 in
    literal_both a.rows.now a.j 2 a.class (sym w.field-0-test ∙ w.ensures.number) s k _ h refl (c.note.ensures s k h g)
    (c.note_asked-in-Some-eq2.ensures s k h g)

pub returns-in-Some : goal.returns-in-Some
returns-in-Some c s k h g =
    let a = c.args in
    let w = c.in-Some in
    literal_own a.rows.now a.j w.section a.class w.ensures.number s k _ h w.section-test.0.1 w.section-test.1 (c.note-in-Some.ensures s k h g)
