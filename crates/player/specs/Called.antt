-- Which part of a file comes back, as a call of playing answers it: the file and the offset. Assumes nothing.
use Rattle.std.specs.Prelude.{ℕ}
use Rattle.run_semantics.specs.Play.{Returned, of_domain, of_run}

-- "a part of the domain file or of the run file, from that record to the end": of which file it is, 0 the domain file and 1 the run
-- file, and its offset there
abbrev pub file_of : Returned → ℕ
file_of (of_domain at) = 0
file_of (of_run at) = 1

abbrev pub offset_of : Returned → ℕ
offset_of (of_domain at) = at
offset_of (of_run at) = at
