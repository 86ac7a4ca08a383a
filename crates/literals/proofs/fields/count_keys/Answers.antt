-- `literals::fields::count_keys` meets its contract. Assumes nothing.
use native.Mathlib.Omega.{arith}
use lib.ListN.{drop, length-drop, drop_of_length-le}
use lib.Dec.{eqb}
use Rattle.records.proofs.Chains.{count_is}
use Rattle.literals.proofs.Bytes.{keys_and_counted}
use Rattle.literals.proofs.fields.count_keys.Goals as goal

pub returns-then-p-eq0 : goal.returns-then-p-eq0
returns-then-p-eq0 c = simp (drop_of_length-le c.args.p.now {i = 1} (omega arith))

pub overflow_sub-result-2 : goal.overflow_sub-result-2
overflow_sub-result-2 c = let p = c.args.p.now in omega (arith, keys_and_counted (drop 1 p), count_is (eqb 255) (drop 1 p), length-drop 1 p)

pub returns : goal.returns
returns c = let p = c.args.p.now in omega (arith, keys_and_counted (drop 1 p), count_is (eqb 255) (drop 1 p), length-drop 1 p)
