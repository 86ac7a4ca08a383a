-- The row of a fact more in work memory, behind the others. Assumes nothing.
use mathlib.Core.Path.{◌≡◌, refl, sym, ap, ap₂, ◌∙◌}
use mathlib.Core.List.{List, [], ◌∷◌, ◌++◌, append_assoc}
use Prim.Native.Nat.{ℕ, ◌+◌, ◌-◌, ◌*◌, ◌≤◌, ◌<◌}
use native.Mathlib.Omega.{arith}
use lib.ListN.{length, drop, replicate, length-append, length-replicate}
use lib.Seq.{paste, drop_at, drop-append-le, drop-append-add}
use Rattle.records.specs.Memory.{over}
use Rattle.records.proofs.Lists.{flat_map_snoc}
use Rattle.records.proofs.Memory.{over_paste, drop_replicate}
use Rattle.literals.specs.Domain.{Fact}
use Rattle.literals.proofs.Tables.{length_flat}
use Rattle.verdict.specs.Judged.{fact_bytes}
use Rattle.verdict.specs.Held.{fact_row}
use Rattle.run_semantics.specs.RunFile.{max_facts}
use Rattle.run_semantics.specs.Play.{work_bytes, held_bytes}
use Rattle.store.specs.Held.{Few}
use Rattle.events.proofs.FactRows.{length_fact_row}
use Rattle.machine.proofs.HeldBytes.{bytes_flat}

-- ---- a fact more in work memory

-- bytes with zeros behind them, and 8 bytes more in the place of the first zeros
module _ (b row old : List ℕ) (m : ℕ) (h : length b + 8 ≤ m) (e : length row ≡ 8) where
  zeros_length : length (b ++ replicate (m - length b) 0) ≡ m
  zeros_length = simp (length-append, length-replicate) (omega arith)

  zeros_more : paste (over (b ++ replicate (m - length b) 0) old) (length b) row 8 ≡ over ((b ++ row) ++ replicate (m - length (b ++ row)) 0) old
  unfolding over
  zeros_more =
      let z : List ℕ = replicate (m - length b) 0 in
      let rest : List ℕ = drop (length (b ++ z)) old in
      let la = length-append b row in
      let lz = length-replicate {A = ℕ} (m - length b) 0 in
      let ln = zeros_length in
      let lm : length ((b ++ row) ++ replicate (m - length (b ++ row)) 0) ≡ m = simp (length-append, length-replicate) (omega arith) in
      let k : m - length b - 8 ≡ m - length (b ++ row) = omega arith in
      let q : length (b ++ z) ≡ length ((b ++ row) ++ replicate (m - length (b ++ row)) 0) = ln ∙ sym lm in
      ap (λ (t : List ℕ). paste t (length b) row 8) (append_assoc b z rest ∙ ap (λ (t : List ℕ). b ++ t) (sym (drop_at b (z ++ rest) (length b) refl)))
      ∙ over_paste b (b ++ (z ++ rest)) row (length b) 8 refl e
      ∙ ap (λ (t : List ℕ). (b ++ row) ++ t)
      (ap (λ (n : ℕ). drop n (b ++ (z ++ rest))) la
      ∙ drop-append-add b (z ++ rest) (length row)
      ∙ ap (λ (n : ℕ). drop n (z ++ rest)) e
      ∙ drop-append-le 8 z rest (omega arith)
      ∙ ap₂ (λ (x y : List ℕ). x ++ y) (drop_replicate 8 (m - length b) 0 ∙ ap (λ (n : ℕ). replicate n 0) k) (ap (λ (n : ℕ). drop n old) q))
      ∙ sym (append_assoc (b ++ row) (replicate (m - length (b ++ row)) 0) (drop (length ((b ++ row) ++ replicate (m - length (b ++ row)) 0)) old))

bytes_snoc : (fs : List Fact) (f : Fact) → fact_bytes (fs ++ (f ∷ [])) ≡ fact_bytes fs ++ fact_row f
bytes_snoc fs f = bytes_flat (fs ++ (f ∷ [])) ∙ flat_map_snoc fact_row fs f ∙ ap (λ (b : List ℕ). b ++ fact_row f) (sym (bytes_flat fs))

-- the row of a fact behind the others
pub held_more : (fs : List Fact) (f : Fact) (row old : List ℕ) (n : ℕ) → Few fs → length f.args ≤ 6 → n ≡ length fs → n < max_facts → row ≡ fact_row f
    → paste (over (held_bytes fs) old) (8 * n) row 8 ≡ over (held_bytes (fs ++ (f ∷ []))) old
unfolding held_bytes
held_more fs f row old n few h e l r =
    let k : length (fact_bytes fs) ≡ 8 * length fs = ap length (bytes_flat fs) ∙ length_flat fact_row fs (λ g m. length_fact_row g (few g m)) in
    let at : 8 * n ≡ length (fact_bytes fs) = omega arith in
    ap₂ (λ (a : ℕ) (b : List ℕ). paste (over (held_bytes fs) old) a b 8) at r
    ∙ zeros_more (fact_bytes fs) (fact_row f) old work_bytes (omega arith) (length_fact_row f h)
    ∙ ap (λ (b : List ℕ). over (b ++ replicate (work_bytes - length b) 0) old) (sym (bytes_snoc fs f))
