-- With memory enough judging answers the file's decision, and writes its rows. Assumes nothing.
use mathlib.Core.Path.{◌≡◌, refl, ap, ◌∙◌}
use mathlib.Core.Bool.{Bool, true, false, ◌&&◌, cond}
use mathlib.Core.Logic.{◌⊎◌, inl, inr}
use mathlib.Core.List.{List}
use Prim.Native.Nat.{ℕ, ◌*◌, ◌≤◌}
use lib.Dec.{ltb, leb}
use lib.ListN.{length}
use borrow.Author.Tests.{le-ltb, le-leb}
use Rattle.records.specs.Memory.{over}
use Rattle.records.proofs.Lists.{or_l, or_r}
use Rattle.literals.specs.Domain.{Domain}
use Rattle.literals.specs.Decode.{Decoded, refused, domain, decode}
use Rattle.verdict.specs.Decision.{rows, witness}
use Rattle.verdict.specs.Judged.{row_bytes, Answer, answer_at, decided, decided_by, decided_file, writes_witness, judged_domain, judged_by, judged, fills_report, report_by, report_after}
use Rattle.verdict.proofs.Known.{decided_range}
use Rattle.totals.specs.Totals.{rows_of_decoded, rows_of_file}
use Rattle.totals.specs.Claims.{JudgedEnough}

and_false : (a : Bool) → a && false ≡ false
and_false true = refl
and_false false = refl

domain_enough : (D : Domain) (report wit : List ℕ) → 4 * length (rows D) ≤ length report → 8 * length (witness D) ≤ length wit → judged_domain D report wit ≡ decided D
unfolding judged_domain
domain_enough D report wit h g =
    ap (λ (b : Bool). cond b (answer_at 30 0) (cond (writes_witness D (decided D).number && ltb (length wit) (8 * length (witness D))) (answer_at 31 0) (decided D)))
    (le-ltb (length report) (4 * length (rows D)) h)
    ∙ ap (λ (b : Bool). cond (writes_witness D (decided D).number && b) (answer_at 31 0) (decided D)) (le-ltb (length wit) (8 * length (witness D)) g)
    ∙ ap (λ (b : Bool). cond b (answer_at 31 0) (decided D)) (and_false (writes_witness D (decided D).number))

fills : (n : ℕ) → (n ≤ 1) ⊎ ((40 ≤ n) × (n ≤ 43)) → fills_report n ≡ true
fills n (inl h) = or_l _ (le-leb n 1 h)
fills n (inr (l, h)) = or_r (leb n 1) (le-leb 40 n l)

pub judged_enough : JudgedEnough
unfolding judged decided_file rows_of_file report_after row_bytes over
judged_enough f report wit h g = go (decode f) h g
  where
    go : (d : Decoded) → 4 * length (rows_of_decoded d) ≤ length report → ((D : Domain) → d ≡ domain D → 8 * length (witness D) ≤ length wit)
        → (judged_by d report wit ≡ decided_by d) × (report_by d report wit ≡ over (row_bytes (rows_of_decoded d)) report)
    go (refused r) h g = (refl, refl)
    go (domain D) h g =
        let e = domain_enough D report wit h (g D refl) in (
          e,
          ap (λ (a : Answer). cond (fills_report a.number) (over (row_bytes (rows D)) report) report) e
              ∙ ap (λ (b : Bool). cond b (over (row_bytes (rows D)) report) report) (fills (decided D).number (decided_range D)),
        )
