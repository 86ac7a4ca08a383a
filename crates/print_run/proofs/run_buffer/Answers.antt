-- So many zeros, for any number: of this one they are not to be counted one by one.
use Rattle.std.proofs.Common.{◌≡◌, sym, ℕ, length, replicate}
use Rattle.std.proofs.lemmas.List.{length-replicate}
use Rattle.print_run.proofs.run_buffer.Goals as goal

zeros : (n : ℕ) → n ≡ length {A = ℕ} (replicate n 0)
zeros n = sym (length-replicate n 0)

pub returns : goal.returns
returns c = zeros 1048577
