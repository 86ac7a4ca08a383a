-- `Role::from` meets its contract. Assumes nothing.
use native.Mathlib.Omega.{arith}
use borrow.Author.Tests.{lt-ltb, le-ltb}
use Rattle.literals.specs.Domain.{role_of}
use Rattle.literals.proofs.RoleFromU8.from.Goals as goal

pub returns-in-0-to-3 : goal.returns-in-0-to-3
unfolding role_of
returns-in-0-to-3 c = simp (c.from.ensures, lt-ltb c.args.b 4 (omega arith))

pub returns-in-4-to-5 : goal.returns-in-4-to-5
unfolding role_of
returns-in-4-to-5 c = let r = c.args.b in simp (c.from-in-4-to-5.ensures, le-ltb r 4 (omega arith), lt-ltb r 6 (omega arith))

pub returns-in_default : goal.returns-in_default
unfolding role_of
returns-in_default c = let r = c.args.b in simp (c.from-in_default.ensures, le-ltb r 4 (omega arith), le-ltb r 6 (omega arith))
