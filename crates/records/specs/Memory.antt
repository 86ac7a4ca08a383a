-- Lent memory. Assumes nothing.
use Rattle.std.specs.Prelude.{List, ◌++◌, ℕ, length, drop}

-- lent memory whose first bytes are now new: "bytes beyond are untouched"
unfoldable pub over : List ℕ → List ℕ → List ℕ
over new old = new ++ drop (length new) old
