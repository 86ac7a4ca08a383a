-- `join_rows` meets its contract: after j turns the first j rows have joined. Assumes nothing.
use Prim.Native.Nat.{◌*◌}
use lib.ListN.{drop}
use Rattle.effects.specs.Held.{effects_in}
use Rattle.effects.proofs.IndexedRows.{Joining}
use Rattle.effects.proofs.join_rows.Given as goal

abbrev pub invariant-loop-j : goal.invariant-loop-j
invariant-loop-j l = Joining (drop (8 * l.from)
    (effects_in l.initial.scratch)) l.m l.count l.head l.initial.scratch l.initial.index l.scratch l.index l.n l.j
