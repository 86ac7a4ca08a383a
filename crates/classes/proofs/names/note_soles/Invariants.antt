-- `note_soles` meets its contract: after j turns the first j literals are noted. Assumes nothing.
use mathlib.Core.Path.{◌≡◌}
use mathlib.Core.List.{[]}
use Prim.Native.Nat.{◌≤◌}
use lib.ListN.{length}
use Rattle.literals.specs.Held.{pad}
use Rattle.classes.proofs.Soles.{Tallied}
use Rattle.classes.proofs.names.note_soles.Given as goal

abbrev pub invariant-loop-j : goal.invariant-loop-j
invariant-loop-j l = (l.j ≤ length l.numbers) × (l.initial.soles ≡ pad 320 [] → Tallied l.rows l.numbers l.j l.soles)
