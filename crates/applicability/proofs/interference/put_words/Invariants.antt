-- `put_words` meets its contract: after i turns the words of the first i are put. Assumes nothing.
use mathlib.Core.Path.{◌≡◌}
use Prim.Native.Nat.{◌≤◌}
use lib.ListN.{length}
use Rattle.applicability.specs.Held.{WordsOf}
use Rattle.applicability.proofs.interference.put_words.Given as goal

abbrev pub invariant-loop-i : goal.invariant-loop-i
invariant-loop-i l = (l.i ≤ l.n) × (length l.words ≡ length l.initial.words) × WordsOf l.i l.memory l.words
