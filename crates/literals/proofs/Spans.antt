-- Where the literals of an action stand in the table. Assumes nothing.
use mathlib.Core.Path.{◌≡◌, sym, ap, ◌∙◌}
use mathlib.Core.List.Memᴰ
use mathlib.Core.List.{List, [], ◌∷◌, ◌++◌, flat_map, append_assoc, append-nil}
use Prim.Native.Nat.{ℕ, zero, suc, ◌+◌, ◌-◌, ◌*◌, ◌≤◌, ◌<◌}
use native.Mathlib.Nat.{zero-add}
use native.Mathlib.Omega.{arith}
use lib.ListN.{length, take, drop, get_or, length-append, length-drop}
use lib.Seq.{take_at, drop_at, split_at, length-take-le}
use Rattle.records.specs.Lists.{In}
use Rattle.records.specs.Memory.{over}
use Rattle.records.proofs.Lists.{flat_map_append}
use Rattle.literals.specs.Domain.{Action, no_action}
use Rattle.literals.specs.Held.{all_literals}
use Rattle.literals.proofs.Tables.{length_flat}

-- ---- the rows of some elements, between those before them and those behind them

module _ {A : Type 0} (f : A → List ℕ) where
  pub part_flat : (xs ys zs : List A) (old : List ℕ) → ((a : A) → In a (xs ++ (ys ++ zs)) → length (f a) ≡ 8)
      → take (8 * length ys) (drop (8 * length xs) (over (flat_map f (xs ++ (ys ++ zs))) old)) ≡ flat_map f ys
  unfolding over
  part_flat xs ys zs old h =
      let rest = drop (length (flat_map f (xs ++ (ys ++ zs)))) old in
      let before = length_flat f xs (λ a m. h a (Memᴰ.append_left (ys ++ zs) m)) in
      let own = length_flat f ys (λ a m. h a (Memᴰ.append_right xs (Memᴰ.append_left zs m))) in
      let component_rows : flat_map f (xs ++ (ys ++ zs)) ++ rest ≡ flat_map f xs ++ (flat_map f ys ++ (flat_map f zs ++ rest)) = simp (flat_map_append, append_assoc) in
      ap (λ (t : List ℕ). take (8 * length ys) (drop (8 * length xs) t)) component_rows
      ∙ ap (take (8 * length ys)) (drop_at (flat_map f xs) (flat_map f ys ++ (flat_map f zs ++ rest)) (8 * length xs) before)
      ∙ take_at (flat_map f ys) (flat_map f zs ++ rest) (8 * length ys) own

-- ---- the literals before an action, its own, and those behind it

pub literals_split : (as' : List Action) (i : ℕ) → i < length as'
    → all_literals as' ≡ all_literals (take i as') ++ ((get_or as' i no_action).lits ++ all_literals (drop (suc i) as'))
unfolding all_literals flat_map
literals_split as' i b =
    ap all_literals (split_at as' i no_action b)
    ∙ flat_map_append (λ (a : Action). a.lits) (take i as') (get_or as' i no_action ∷ drop (suc i) as')

pub literals_next : (as' : List Action) (i : ℕ) → i < length as'
    → length (all_literals (take (suc i) as')) ≡ length (all_literals (take i as')) + length (get_or as' i no_action).lits
unfolding all_literals flat_map
literals_next [] i b = absurd (omega arith)
literals_next (a ∷ as') zero b = ap length (append-nil a.lits) ∙ sym (zero-add (length a.lits))
literals_next (a ∷ as') (suc i) b =
    let l = length-append a.lits (all_literals (take (suc i) as')) in
    let k = length-append a.lits (all_literals (take i as')) in
    let r = literals_next as' i (omega arith) in
    omega arith

-- ---- the part of the table between two rows, in bytes

pub part_length : (table : List ℕ) (start behind : ℕ) → start ≤ behind → 8 * behind ≤ length table → length (take (8 * behind - 8 * start) (drop (8 * start) table)) ≡ 8 * (behind - start)
part_length table start behind h g =
    let d = length-drop (8 * start) table in
    let z : 8 * behind - 8 * start ≡ 8 * (behind - start) = omega arith in
    length-take-le (8 * behind - 8 * start) (drop (8 * start) table) (omega arith) ∙ z
