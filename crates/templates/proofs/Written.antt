-- The verdicts of the list, and what is written. Assumes nothing.
use mathlib.Core.Path.{◌≡◌, refl, ap, ◌∙◌}
use mathlib.Core.Bool.{true}
use mathlib.Core.Logic.{inl, inr}
use mathlib.Core.List.Memᴰ
use mathlib.Core.List.{List, [], ◌∷◌, flat_map}
use Prim.Native.Nat.{ℕ, ◌*◌, ◌≤◌, ◌<◌}
use native.Mathlib.Omega.{arith}
use lib.Dec.{ltb}
use lib.ListN.{length}
use borrow.Author.Tests.{lt-ltb}
use Rattle.records.specs.Lists.{In, all}
use Rattle.records.proofs.Lists.{and_i}
use Rattle.literals.specs.Domain.{Domain}
use Rattle.literals.proofs.Bounds.{decoded_bounded}
use Rattle.verdict.specs.Decision.{Row, rows, decide_rows, decision}
use Rattle.verdict.specs.Judged.{answer_at, answer_row, decided}
use Rattle.verdict.proofs.Safety.{safety}
use Rattle.services.proofs.Answers.{served_short, served_done}
use Rattle.verdict.proofs.Known.{Known, known_domain}
use Rattle.templates.specs.Templates.{Shape, component_at, single, listed, place_byte, verdict_of, entry, list_bytes, list_file, list_after}
use Rattle.templates.specs.Claims.{VerdictListed, EntrySafe, ListOfFile, ListShort, ListBounded}
use Rattle.templates.proofs.Legal.{legal_well_formed}
use Rattle.templates.proofs.Listed.{listed_legal, listed_all, listed_few, listed_small}
use Rattle.templates.proofs.Kept.{renamed_alike}

-- same rows, same answer
rows_decide : (D E : Domain) → rows D ≡ rows E → decided D ≡ decided E
unfolding decided decision
rows_decide D E e = ap (λ (rs : List Row). answer_row (decide_rows rs).number (decide_rows rs).place) e

pub verdict_listed : VerdictListed
verdict_listed D L c t =
    let r = listed_all D L c t in (
      r.0,
      r.1,
      r.2,
      ap (λ a. a.number) (rows_decide (single D c) (single D (component_at D r.0))
          (renamed_alike D c (component_at D r.0) t (listed_legal D r.0 r.1) r.2)),
    )

pub entry_safe : EntrySafe
entry_safe D wf s m h = safety (single D (component_at D s)) (legal_well_formed D (component_at D s) wf (listed_legal D s m)) h

-- ---- of a file

three_each : (D : Domain) (l : List Shape) → length (flat_map (entry D) l) ≡ 3 * length l
unfolding flat_map
three_each D [] = refl
three_each D (s ∷ ss) = let h = three_each D ss in omega arith

pub count_of : (D : Domain) → length (list_bytes D) ≡ 3 * length (listed D)
unfolding list_bytes
count_of D = three_each D (listed D)

pub list_of_file : ListOfFile
unfolding list_file list_after
list_of_file f out D e h =
    let n = count_of D in
    let r = served_done list_bytes f out D e (omega arith) in
    (r.0 ∙ ap (answer_at 0) n, r.1)

entry_bytes : (D : Domain) (l : List Shape) → ((s : Shape) → In s l → (s.rel < 64) × (place_byte s.place ≤ 255))
    → all (λ b. ltb b 256) (flat_map (entry D) l) ≡ true
unfolding flat_map
entry_bytes D [] h = refl
entry_bytes D (s ∷ ss) h =
    let r = h s (Memᴰ.head refl) in
    let a = r.0 in
    let b = r.1 in
    and_i (lt-ltb s.rel 256 (omega arith)) (and_i (lt-ltb (place_byte s.place) 256 (omega arith))
    (and_i (lt-ltb (verdict_of D (component_at D s)) 256 (small (known_domain (single D (component_at D s)))))
    (entry_bytes D ss (λ z m. h z (Memᴰ.tail m)))))
  where
    small : {n : ℕ} → Known n → n < 256
    small (inl h) = omega arith
    small (inr (l, h)) = omega arith

pub list_bounded : ListBounded
unfolding list_bytes
list_bounded f D e =
    let B = decoded_bounded f D e in
    let c = listed_few D B in
    (omega arith, entry_bytes D (listed D) (listed_small D B))

pub list_short : ListShort
unfolding list_file list_after
list_short f out D e h = let n = count_of D in served_short list_bytes f out D e (omega arith)
