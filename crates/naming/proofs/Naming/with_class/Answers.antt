-- `Naming::with_class` meets its contract: a row for each moment. Assumes nothing.
use native.Mathlib.Omega.{arith}
use mathlib.Core.List.{append_assoc}
use Rattle.naming.proofs.NamedRows.{named_class}
use Rattle.naming.proofs.Naming.with_class.Goals as goal

pub returns-in-Some : goal.returns-in-Some
returns-in-Some c = record { rows = omega arith; named = λ before rs old D a i N e. named_class D a i _ _ before rs e (rw c.in-Some.is (rw append_assoc at (c.with_row.ensures.named before _ old i (c.with_row-started.ensures.named before rs old i N)))) }

pub returns-in-None : goal.returns-in-None
returns-in-None c = record { rows = omega arith; named = λ before rs old D a i N e. named_class D a i _ _ before rs e (rw c.in-None.is (c.with_row-started.ensures.named before rs old i N)) }
