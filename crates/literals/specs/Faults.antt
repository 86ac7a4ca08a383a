-- The numbers of the code's faults: a reason for which a domain file is refused is a case there, and a number in the paper. Assumes nothing.
use Rattle.std.specs.Prelude.{ℕ, Result, Ok, Err, ⊤}
use Rattle.literals.specs.declared.fault.Fault.{Fault}
use Rattle.literals.specs.declared.fault.Fault.TheVariants.{FileTooLong, CutShort, UnknownKind, WrongLength, OutOfOrder, OverLimit}
use Rattle.literals.specs.declared.fault.Fault.TheVariants.{OutOfRange, WrongRole, NoSuchRelation, NoSuchVariable, RepeatedLiteral}
use Rattle.literals.specs.declared.fault.Fault.TheVariants.{OppositeConditions, WrongKey, RelationUsed, NoComponent, KeyTwice, CountedTwice}
use Rattle.literals.specs.declared.fault.Fault.TheVariants.{WrongEvery, KeyCleared}
use Rattle.literals.specs.declared.fault.RecordFault.{RecordFault}
use Rattle.literals.specs.Decode.{RecordStop, at_record}

-- "9 too long", "10 cut short or no closing record", "11 unknown kind", "12 wrong length", "13 kind out of order", "14 over a limit",
-- "15 arity, count or sort", "16 role", "17 relation", "18 variable", "19 repeated in its role", "20 both true and false", "21 labels",
-- "22 relation used before", "23 no component", "24" a repeated key, "25" two FF labels, "26" FF in another role or twice, "27" a key
-- where a literal of the relation has FF
abbrev pub fault_number : Fault → ℕ
fault_number FileTooLong = 9
fault_number CutShort = 10
fault_number UnknownKind = 11
fault_number WrongLength = 12
fault_number OutOfOrder = 13
fault_number OverLimit = 14
fault_number OutOfRange = 15
fault_number WrongRole = 16
fault_number NoSuchRelation = 17
fault_number NoSuchVariable = 18
fault_number RepeatedLiteral = 19
fault_number OppositeConditions = 20
fault_number WrongKey = 21
fault_number RelationUsed = 22
fault_number NoComponent = 23
fault_number KeyTwice = 24
fault_number CountedTwice = 25
fault_number WrongEvery = 26
fault_number KeyCleared = 27

-- of what stops a record or lets it pass: the number, or 0 where nothing stops it
abbrev pub stop_number : Result ⊤ Fault → ℕ
stop_number (Ok u) = 0
stop_number (Err f) = fault_number f

-- the fault of the record itself
abbrev pub at_start_of : Fault → RecordFault
at_start_of f = record { fault = f; within = 0 }

-- with its place
abbrev pub told_stop : RecordFault → RecordStop
told_stop f = record { number = fault_number f.fault; within = f.within }

-- number 0, at the record, where nothing stops it
abbrev pub record_stop : Result ⊤ RecordFault → RecordStop
record_stop (Ok u) = at_record 0
record_stop (Err f) = told_stop f
