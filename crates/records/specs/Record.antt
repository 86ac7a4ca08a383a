-- "A file is a row of records: payload length (2 bytes, little-endian), kind (2 bytes), payload." Assumes nothing.
use Rattle.std.specs.Prelude.{cond, List, ℕ, ◌+◌, ◌-◌, ◌*◌, ltb, leb, length, get_or, take, drop}
use Rattle.records.specs.declared.Record.{Record}
use Rattle.records.specs.declared.Record.TheVariants.{Whole, Cut, End}

-- "2 bytes, little-endian": the number in the two bytes from an offset
unfoldable pub word : List ℕ → ℕ → ℕ
word s at = get_or s at 0 + get_or s (at + 1) 0 * 256

-- the record at an offset: a whole one (kind, where its payload starts, payload length), one cut short, or the end of the file
unfoldable pub record_at : List ℕ → ℕ → Record
unfolding word
record_at s at =
    cond (leb (length s) at) End
    (cond (ltb (length s - at) 4) Cut
    (cond (leb (word s at) (length s - at - 4)) (Whole (word s (at + 2)) (at + 4) (word s at)) Cut))

-- the bytes of a record's payload
unfoldable pub payload : List ℕ → ℕ → ℕ → List ℕ
payload s start len = take len (drop start s)
