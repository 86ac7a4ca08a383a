-- What stops a run, by its number. Assumes nothing.
use Rattle.std.specs.Prelude.{ℕ, Result, Ok, Err}
use Rattle.run_semantics.specs.declared.Stop.{Stop}
use Rattle.run_semantics.specs.declared.Stop.TheVariants.{Malformed, NamesNothing, TooMany, BoundTwice, EventRepeated, ConditionFails, Interference, EndNotOpen}

-- "50 run form, order or length; 51 number out of range, or moment 1 of an action at once; 53 one object bound twice; 54 event repeated in
-- its step; 52 a step's 17th event or the 1,025th different start fact; 57 end not open; 55 condition fails; 56 interference; 52 over 1,024
-- facts or 32 open"
abbrev pub stop_number : Stop → ℕ
stop_number Malformed = 50
stop_number NamesNothing = 51
stop_number TooMany = 52
stop_number BoundTwice = 53
stop_number EventRepeated = 54
stop_number ConditionFails = 55
stop_number Interference = 56
stop_number EndNotOpen = 57

-- the number of what stops a record or a step, 0 where nothing stops it
abbrev pub stopped_by : {A : Type 0} → Result A Stop → ℕ
stopped_by (Ok a) = 0
stopped_by (Err s) = stop_number s
