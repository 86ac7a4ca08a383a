-- `usages_at` meets its contract: the usages of the rows before j stand in the memory. Assumes nothing.
use mathlib.Core.Path.{◌≡◌}
use mathlib.Core.List.{[], map}
use Prim.Native.Nat.{◌≤◌}
use Rattle.records.specs.Lists.{below}
use Rattle.literals.specs.Held.{pad}
use Rattle.classes.specs.Held.{usage_in}
use Rattle.classes.proofs.names.usages_at.Given as goal

abbrev pub invariant-loop-j : goal.invariant-loop-j
invariant-loop-j l = (l.j ≤ l.n) × (l.initial.usages ≡ pad 64 [] → l.usages ≡ pad 64 (map (usage_in l.wide l.rows l.m) (below l.j)))
