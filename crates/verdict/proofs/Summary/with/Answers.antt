-- `verdict::Summary::with` meets its contract: each return is the summary with a moment more, `with_moment` of proofs/Noted. Assumes nothing.
use Rattle.verdict.proofs.Noted.{or_none, or_false, or_true, spot_at, summed, unsummed}
use Rattle.verdict.proofs.Summary.with.Goals as goal

pub returns-in-Heavy : goal.returns-in-Heavy
returns-in-Heavy c rs i e = let a = c.args in summed a.self a.name a.ended a.class a.moment rs i e (simp (c.in-Heavy.is, c.or.ensures, or_none, or_false))

pub returns-in-Unbalanced : goal.returns-in-Unbalanced
returns-in-Unbalanced c rs i e = let a = c.args in summed a.self a.name a.ended a.class a.moment rs i e (simp (c.in-Unbalanced.is, c.or-in-Unbalanced.ensures, or_none, or_false))

pub returns-in-Unbounded : goal.returns-in-Unbounded
returns-in-Unbounded c rs i e = let a = c.args in summed a.self a.name a.ended a.class a.moment rs i e (simp (c.in-Unbounded.is, c.if-ended.true, or_none, or_true))

pub returns-in-Unbounded-2 : goal.returns-in-Unbounded-2
returns-in-Unbounded-2 c rs i e = let a = c.args in summed a.self a.name a.ended a.class a.moment rs i e (simp (c.in-Unbounded-2.is, c.if-ended.false, c.or-in-Unbounded-2.ensures, or_none, or_true))

pub returns-in-Bounded : goal.returns-in-Bounded
returns-in-Bounded c rs i e = let a = c.args in summed a.self a.name a.ended a.class a.moment rs i e (simp (c.in-Bounded.is, c.if-ended-2.true, or_none, or_false))

pub returns-in-Bounded-2 : goal.returns-in-Bounded-2
returns-in-Bounded-2 c rs i e = let a = c.args in summed a.self a.name a.ended a.class a.moment rs i e (simp (c.in-Bounded-2.is, c.if-ended-2.false, c.or-in-Bounded-2.ensures, or_none, or_false))

pub returns-in-Unreachable : goal.returns-in-Unreachable
returns-in-Unreachable c rs i e = let a = c.args in summed a.self a.name a.ended a.class a.moment rs i e (unsummed a.self a.name a.ended (spot_at a.class a.moment) c.in-Unreachable.is)
