-- `note_asked` meets its contract: unless an earlier literal says the same. Assumes nothing.
use mathlib.Core.Path.{sym, ◌∙◌}
use Rattle.classes.proofs.Soles.{said, noted_said, noted_asked}
use Rattle.classes.proofs.names.note_asked.Goals as goal

pub returns-then-earlier_same : goal.returns-then-earlier_same
returns-then-earlier_same c s k h g =
    let a = c.args in
    noted_said (said a.rows.now a.j) s a.class k a.j _ (sym c.earlier_same.ensures ∙ c.if-earlier_same.true)

pub returns : goal.returns
returns c s k h g =
    let back8 = c in
    let a = back8.args in
    noted_asked (said a.rows.now a.j) s a.class k a.j _
    (sym c.earlier_same.ensures ∙ c.if-earlier_same.false)
    (c.note.ensures s k h g)
