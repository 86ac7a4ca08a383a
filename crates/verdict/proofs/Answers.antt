-- Judging answers the file's decision, or 30, or 31. Assumes nothing.
use mathlib.Core.Path.{◌≡◌, refl}
use mathlib.Core.Bool.{Bool, true, false, ◌&&◌, cond}
use mathlib.Core.Logic.{◌⊎◌, inl, inr}
use mathlib.Core.List.{List}
use Prim.Native.Nat.{ℕ, ◌*◌}
use lib.Dec.{ltb}
use lib.ListN.{length}
use Rattle.literals.specs.Decode.{Decoded, refused, domain, decode}
use Rattle.verdict.specs.Decision.{rows, witness}
use Rattle.verdict.specs.Judged.{Answer, answer_at, decided, decided_by, decided_file, writes_witness, judged_domain, judged_by, judged}
use Rattle.verdict.specs.Claims.{JudgingDecides}

-- the first of two answers whose test passes, or the last
one_of : (b c : Bool) (x y z : Answer) → (cond b x (cond c y z) ≡ z) ⊎ ((cond b x (cond c y z) ≡ x) ⊎ (cond b x (cond c y z) ≡ y))
one_of true c x y z = inr (inl refl)
one_of false true x y z = inr (inr refl)
one_of false false x y z = inl refl

by : (d : Decoded) (report wit : List ℕ)
    → (judged_by d report wit ≡ decided_by d) ⊎ ((judged_by d report wit ≡ answer_at 30 0) ⊎ (judged_by d report wit ≡ answer_at 31 0))
unfolding judged_domain
by (refused r) report wit = inl refl
by (domain D) report wit =
    one_of (ltb (length report) (4 * length (rows D))) (writes_witness D (decided D).number && ltb (length wit) (8 * length (witness D))) (answer_at 30 0) (answer_at 31 0) (decided D)

pub judging_decides : JudgingDecides
unfolding judged decided_file
judging_decides f report wit = by (decode f) report wit
