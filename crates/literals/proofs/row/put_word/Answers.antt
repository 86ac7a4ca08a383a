-- `put_word` meets its contract: the row of a number is its bytes. Assumes nothing.
use mathlib.Core.Path.{sym, ◌∙◌}
use native.Mathlib.Omega.{arith}
use Rattle.std.proofs.lemmas.Slice.{put_mid-paste}
use Rattle.literals.proofs.Chains.{row_bytes}
use Rattle.literals.proofs.row.put_word.Goals as goal

pub returns : goal.returns
returns c =
    λ row W.
    put_mid-paste _ _ _ _ row 8 (c.copy_from_slice.ensures.after ∙ c.to_le_bytes.ensures ∙ row_bytes row W) (omega arith) (sym W.long)
