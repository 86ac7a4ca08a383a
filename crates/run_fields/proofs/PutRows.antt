-- The row of a start fact and of an event's action, by the bytes of the record. Assumes nothing.
use mathlib.Core.Path.{◌≡◌, refl, sym, ap, ap₂, ◌∙◌}
use mathlib.Core.List.{List, [], ◌∷◌, ◌++◌, map, append_assoc}
use Prim.Native.Nat.{ℕ, suc, ◌+◌, ◌-◌, ◌≤◌}
use native.Mathlib.Omega.{arith}
use lib.ListN.{length, take, drop, replicate, length-append, length-map, length-drop}
use lib.Seq.{paste, take_all, drop-cons}
use Rattle.records.specs.Memory.{over}
use Rattle.records.proofs.Lists.{map_back}
use Rattle.records.proofs.Memory.{over_paste, drop_replicate}
use Rattle.literals.specs.Domain.{object}
use Rattle.literals.specs.Decode.{byte}
use Rattle.verdict.specs.Judged.{object_numbers}
use Rattle.verdict.specs.Held.{fact_row}
use Rattle.run_semantics.specs.RunFile.{fact_of, event_of}
use Rattle.events.specs.Held.{ground_row}

-- ---- the rows of a record

-- objects by their bytes
numbers_of : (l : List ℕ) → object_numbers (map object l) ≡ l
numbers_of l = map_back (λ o. o.0) object (λ n. refl) l

-- behind the bytes of `head` those of a list, in a row that is filled with FF
row_put : (head s : List ℕ) (n : ℕ) → paste (head ++ replicate n 255) (length head) s (length s) ≡ head ++ (s ++ replicate (n - length s) 255)
unfolding over
row_put head s n =
    let old : List ℕ = replicate (length head + n) 255 in
    let z : length head + n - length head ≡ n = omega arith in
    let y : length head + n - length (head ++ s) ≡ n - length s = omega (arith, length-append head s) in
    ap (λ (t : List ℕ). paste (head ++ t) (length head) s (length s)) (sym (drop_replicate (length head) (length head + n) 255 ∙ ap (λ (k : ℕ). replicate k 255) z))
    ∙ over_paste head old s (length head) (length s) refl refl
    ∙ ap (λ (t : List ℕ). (head ++ s) ++ t) (drop_replicate (length (head ++ s)) (length head + n) 255 ∙ ap (λ (k : ℕ). replicate k 255) y)
    ∙ append_assoc head s (replicate (n - length s) 255)

-- the bytes of a record behind its first, as the code lends them
abbrev behind : List ℕ → List ℕ
behind p = take (length p - 1) (drop 1 p)

behind_first : (p : List ℕ) → behind p ≡ drop 1 p
behind_first p = take_all (length p - 1) (drop 1 p) (omega (arith, length-drop 1 p))

pub fact_put : (p out : List ℕ) → 1 ≤ length p → out ≡ paste (byte p 0 ∷ (length p - 1) ∷ replicate 6 255) 2 (behind p) (length (behind p)) → out ≡ fact_row (fact_of p)
fact_put p out h o =
    let n : length p - 1 ≡ length (map object (drop 1 p)) = sym (length-map (drop 1 p) object ∙ length-drop 1 p) in
    let k : length (behind p) ≡ length (map object (drop 1 p)) = ap length (behind_first p) ∙ sym (length-map (drop 1 p) object) in
    o
    ∙ row_put (byte p 0 ∷ (length p - 1) ∷ []) (behind p) 6
    ∙ ap₂ (λ (a : ℕ) (t : List ℕ). byte p 0 ∷ a ∷ t) n (ap₂ (λ (t : List ℕ) (a : ℕ). t ++ replicate (6 - a) 255) (behind_first p ∙ sym (numbers_of (drop 1 p))) k)

pub ground_put : (p out : List ℕ) → 2 ≤ length p → out ≡ paste (replicate 17 255) 0 (behind p) (length (behind p)) → out ≡ ground_row (event_of p).act
ground_put p out h o =
    let l = length-map (drop 2 p) object in
    let z : 17 - suc (length (drop 2 p)) ≡ 16 - length (map object (drop 2 p)) = omega arith in
    o
    ∙ row_put [] (behind p) 17
    ∙ ap (λ (t : List ℕ). t ++ replicate (17 - length t) 255) (behind_first p ∙ drop-cons p 1 0 (omega arith))
    ∙ ap₂ (λ (t : List ℕ) (a : ℕ). byte p 1 ∷ (t ++ replicate a 255)) (sym (numbers_of (drop 2 p))) z
