-- Laws of a literal's row, bound. Assumes nothing.
use mathlib.Core.Path.{◌≡◌, refl, sym, ap, ◌∙◌}
use mathlib.Core.List.{List, ◌++◌, map}
use Prim.Native.Nat.{ℕ, zero, suc, ◌+◌, ◌-◌, ◌≤◌, ◌<◌}
use native.Mathlib.Omega.{arith}
use lib.ListN.{length, get_or, take, drop, replicate, length-append, length-drop, length-map, length-replicate, get_or-replicate, get_or-append}
use lib.Seq.{length-take-le, get_or-take, get_or-drop, get_or-append-add}
use Rattle.literals.proofs.Rows.{length_part, part_at}
use Rattle.literals.proofs.Indices.{get_d_map}
use Rattle.literals.specs.Held.{arity_in}
use Rattle.events.specs.Held.{bound_argument, bound_bytes, bound_row}

-- ---- a literal's row, bound

module _ (arity : ℕ) (act t : List ℕ) (at : ℕ) (h : at + 8 ≤ length t) (g : arity ≤ 6) where
  abbrev row : List ℕ
  row = take 8 (drop at t)

  abbrev objects : List ℕ
  objects = map (bound_argument act) (take arity (drop 2 row))

  length_arguments : length (take arity (drop 2 row)) ≡ arity
  length_arguments = let l = length_part 8 t at h in length-take-le arity (drop 2 row) (simp length-drop (omega arith))

  length_objects : length objects ≡ arity
  length_objects = length-map (take arity (drop 2 row)) (bound_argument act) ∙ length_arguments

  pub length_bound : length (bound_bytes arity act row) ≡ 8
  length_bound =
      let l = length_objects in
      let a = length-append objects (replicate (6 - arity) 255) in
      let r = length-replicate {A = ℕ} (6 - arity) 255 in
      omega arith

  pub bound_object : (i r : ℕ) → (i ≡ 0 → ⊥) → (i ≡ 1 → ⊥) → i < 2 + arity
      → r ≡ bound_argument act (get_or t (at + i) 0) → r ≡ get_or (bound_bytes arity act row) i 0
  bound_object zero r n o l e = absurd (n refl)
  bound_object (suc zero) r n o l e = absurd (o refl)
  bound_object (suc (suc k)) r n o l e =
      let m = length_arguments in
      let q = length_objects in
      let z : suc (suc k) ≡ 2 + k = omega arith in
      e
      ∙ ap (λ (i : ℕ). bound_argument act (get_or t (at + i) 0)) z
      ∙ sym
      (get_or-append objects (replicate (6 - arity) 255) 0 k (omega arith)
      ∙ get_d_map (bound_argument act) (take arity (drop 2 row)) k 0 0 (omega arith)
      ∙ ap (bound_argument act) (get_or-take arity (drop 2 row) k 0 (omega arith) ∙ get_or-drop 2 row k 0 ∙ part_at 8 t at h (2 + k) (omega arith)))

  pub bound_fill : (i : ℕ) → i < 8 → (i ≡ 0 → ⊥) → (i ≡ 1 → ⊥) → 2 + arity ≤ i → 255 ≡ get_or (bound_bytes arity act row) i 0
  bound_fill zero l n o m = absurd (n refl)
  bound_fill (suc zero) l n o m = absurd (o refl)
  bound_fill (suc (suc k)) l n o m =
      let q = length_objects in
      let e : k ≡ length objects + (k - arity) = omega arith in
      sym
      (ap (λ (i : ℕ). get_or (objects ++ replicate (6 - arity) 255) i 0) e
      ∙ get_or-append-add objects (replicate (6 - arity) 255) (k - arity) 0
      ∙ get_or-replicate (6 - arity) (k - arity) 255 0 (omega arith))

  -- the whole row, by the arity that the head has
  pub bound_whole : {fact : List ℕ} → fact ≡ bound_bytes arity act row → (head : List ℕ) → arity ≡ arity_in head (get_or t (at + 1) 0)
      → fact ≡ bound_row head act row
  unfolding bound_row
  bound_whole e head f = e ∙ ap (λ (n : ℕ). bound_bytes n act row) (f ∙ sym (ap (arity_in head) (part_at 8 t at h 1 (omega arith))))
