-- `verdict::Notes::with` meets its contract. Assumes nothing.
use mathlib.Core.Path.{sym, ◌∙◌}
use Rattle.verdict.proofs.Noted.{noted, notes_silent}
use Rattle.verdict.proofs.Notes.with.Goals as goal

pub returns-then-is_silent : goal.returns-then-is_silent
returns-then-is_silent c ss l e = let a = c.args in noted a.self a.i a.summary ss l e (notes_silent a.self a.i a.summary (sym c.is_silent.ensures ∙ c.if-is_silent.true))
