-- `verdict::Notes::join` meets its contract: one summary more. Assumes nothing.
use Rattle.verdict.proofs.Noted.{noted}
use Rattle.verdict.proofs.Notes.join.Goals as goal

pub returns-then-self : goal.returns-then-self
returns-then-self c ss l e = let a = c.args in noted a.self a.i a.summary ss l e (simp (c.or_in.ensures, c.or_in-2.ensures, c.or_in-3.ensures, c.or_in-4.ensures, c.if-self.true))

pub returns-else-self : goal.returns-else-self
returns-else-self c ss l e = let a = c.args in noted a.self a.i a.summary ss l e (simp (c.or_in.ensures, c.or_in-2.ensures, c.or_in-3.ensures, c.or_in-4.ensures, c.if-self.false))
