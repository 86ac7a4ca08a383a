-- `key_number` meets its contract: it is the number of the eight bytes from the key k on. Assumes nothing.
use Prim.Native.Nat.{◌≤◌}
use lib.ListN.{take, drop}
use Rattle.literals.specs.Held.{keys_in, component_row_in, EightAt}
use Rattle.literals.proofs.KeyRows.{tuple_filled}
use Rattle.literals.proofs.keys.key_number.Given as goal

abbrev pub invariant-loop-k : goal.invariant-loop-k
invariant-loop-k l =
    (l.k ≤ keys_in l.head) × (keys_in l.head ≤ 6) × EightAt (tuple_filled (keys_in l.head) (component_row_in l.head l.c) (take 8 (drop l.at l.rows))) l.k l.word
