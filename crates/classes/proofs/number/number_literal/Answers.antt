-- `number_literal` meets its contract: by the mark of the literal's relation, and by the class of its key tuple. Assumes nothing.
use native.Mathlib.Omega.{arith}
use mathlib.Core.Path.{refl, sym, ◌∙◌}
use Rattle.literals.proofs.Places.{mark_none, mark_some}
use Rattle.classes.proofs.NewClasses.{component_le, unmatched, new_class, old_class}
use Rattle.classes.proofs.number.number_literal.Goals as goal

pub returns-in_default : goal.returns-in_default
returns-in_default c =
    let a = c.args in
    let all = unmatched a.places.now.head.now a.rows.now a.at _ c.requires.row refl a.count a.words.now (mark_none _ _ c.in_default.ensures) in
    record { number = all.0; words = all.1 }

pub key_word-word-requires-clause-component : goal.key_word-word-requires-clause-component
key_word-word-requires-clause-component c =
    let a = c.args in
    let m = mark_some _ _ _ c.in-Some.ensures in
    let h = component_le a.places.now.head.now a.rows.now a.at _ c.requires.row m.0 in
    let g = m.1 in
    omega arith

pub returns-in-Some-class_of : goal.returns-in-Some-class_of
returns-in-Some-class_of c =
    let a = c.args in
    let p = c.requires in
    let l = p.room in
    let m = mark_some _ _ _ c.in-Some.ensures in
    let all = old_class a.places.now.head.now a.rows.now a.at _ p.row m.0 m.1 c.key_word-word.result c.key_word-word.ensures a.count a.words.now (omega arith)
    (sym c.class_of.ensures ∙ c.in-Some-class_of.is) in
    record { number = all.0; words = all.1 }

pub returns : goal.returns
returns c =
    let a = c.args in
    let p = c.requires in
    let l = p.room in
    let m = mark_some _ _ _ c.in-Some.ensures in
    let all = new_class a.places.now.head.now a.rows.now a.at _ p.row m.0 m.1 c.key_word-word.result c.key_word-word.ensures a.count a.words.now (omega arith)
    (sym c.class_of.ensures ∙ c.in_default-class_of.is) _ refl in
    record { number = all.0; words = all.1 }
