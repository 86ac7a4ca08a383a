-- The fields of a run file's records, by the bytes that the code compares. Assumes nothing.
use Rattle.std.specs.Prelude.{Option, Some, None, Bool, ◌&&◌, ◌||◌, not, cond, List, ℕ, ◌+◌, ◌*◌, eqb, ltb, leb, length, get_or, take, drop}
use Rattle.std.specs.Int.NonZero.{non_zero_u8_get}
use Rattle.std.specs.declared.num.NonZeroU8.{NonZeroU8}
use Rattle.records.specs.Lists.{any, same_list}
use Rattle.literals.specs.Decode.{byte}
use Rattle.events.specs.Held.{ground_bytes}
use Rattle.literals.specs.Held.{relations_in, actions_in, arity_in, variables_in, lasting_in}

-- the object count as the definitions have it, 0 before its record
abbrev pub objects_or_0 : Option NonZeroU8 → ℕ
objects_or_0 None = 0
objects_or_0 (Some n) = non_zero_u8_get n

-- a start fact, up to 51: of the number of objects, and whether the start is over
unfoldable pub fact_fields : List ℕ → ℕ → Bool → List ℕ → ℕ
unfolding relations_in arity_in
fact_fields head objects begun b =
    cond (eqb objects 0 || begun) 50
    (cond (ltb (length b) 1) 50
    (cond (leb (relations_in head) (byte b 0)) 51
    (cond (not (eqb (length b) (1 + arity_in head (byte b 0)))) 50
    (cond (any (leb objects) (drop 1 b)) 51 0))))

-- an event, up to 51
unfoldable pub event_fields : List ℕ → ℕ → List ℕ → ℕ
unfolding actions_in variables_in lasting_in
event_fields head objects b =
    cond (eqb objects 0) 50
    (cond (ltb (length b) 2) 50
    (cond (ltb 1 (byte b 0)) 51
    (cond (leb (actions_in head) (byte b 1)) 51
    (cond (not (eqb (length b) (2 + variables_in head (byte b 1)))) 50
    (cond (eqb (byte b 0) 1 && not (lasting_in head (byte b 1))) 51
    (cond (any (leb objects) (drop 2 b)) 51 0))))))

-- the byte at a place stands behind it again
abbrev pub stands_again : List ℕ → ℕ → Bool
stands_again b i = any (λ y. eqb y (get_or b i 0)) (drop (i + 1) b)

-- the event at a place of those that wait is this one, by the byte of its moment and the row of its action
unfoldable pub waits_at : List ℕ → List ℕ → ℕ → List ℕ → ℕ → Bool
waits_at moments rows moment act i = eqb moment (get_or moments i 0) && same_list eqb act (take ground_bytes (drop (ground_bytes * i) rows))
