-- Whatever stops a run has a number from 50 on, so 0 says that nothing does. Assumes nothing.
use native.Mathlib.Omega.{arith}
use mathlib.Core.Path.{◌≡◌, refl}
use mathlib.Core.Bool.{true}
use Prim.Native.Nat.{◌≤◌}
use Rattle.std.specs.Prelude.{Result, Ok, Err, is_err}
use Rattle.records.proofs.Lists.{clash}
use Rattle.run_semantics.specs.declared.Stop.{Stop}
use Rattle.run_semantics.specs.declared.Stop.TheVariants.{Malformed, NamesNothing, TooMany, BoundTwice, EventRepeated, ConditionFails, Interference, EndNotOpen}
use Rattle.run_semantics.specs.Numbers.{stop_number, stopped_by}

pub fifty : (s : Stop) → 50 ≤ stop_number s
fifty Malformed = omega arith
fifty NamesNothing = omega arith
fifty TooMany = omega arith
fifty BoundTwice = omega arith
fifty EventRepeated = omega arith
fifty ConditionFails = omega arith
fifty Interference = omega arith
fifty EndNotOpen = omega arith

pub numbered_stop : (s : Stop) → stop_number s ≡ 0 → ⊥
numbered_stop s e = let l = fifty s in omega arith

pub err_stops : {A : Type 0} (r : Result A Stop) → is_err r ≡ true → stopped_by r ≡ 0 → ⊥
err_stops (Ok a) t e = clash t refl
err_stops (Err s) t e = numbered_stop s e
