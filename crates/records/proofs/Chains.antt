-- The tests on lists of `specs/Lists` beside the library's own, by which chains of iterators are told: the same answers. Assumes nothing.
use mathlib.Core.Path.{◌≡◌, refl, sym, ◌∙◌}
use mathlib.Core.Bool.{Bool, true, false, cond}
use mathlib.Core.List.{List, [], ◌∷◌}
use Prim.Native.Nat.{ℕ, suc, ◌+◌}
use native.Mathlib.Omega.{arith}
use lib.Dec.{ltb}
use lib.ListN.{length}
use Rattle.std.specs.Prelude.{Option, Some, None}
use Rattle.std.specs.List.{count_by as library_count, position_or_len, position_from}
use Rattle.std.proofs.lemmas.List.Recursion.{is_count_by, is_position_or_len}
use Rattle.std.proofs.lemmas.Iterator.Adapters.{position_from-zero}
use Rattle.records.specs.Lists.{add_if, count_by, position}

module _ {A : Type 0} (p : A → Bool) where
  one_more : (b : Bool) (n : ℕ) → add_if b n ≡ cond b (1 + n) n
  one_more true n = omega arith
  one_more false n = refl

  pub count_is : (xs : List A) → count_by p xs ≡ library_count p xs
  count_is xs = is_count_by (count_by p) p refl (λ x rest. one_more (p x) (count_by p rest)) xs

  one_further : (b : Bool) (n : ℕ) → cond b 0 (suc n) ≡ cond b 0 (1 + n)
  one_further true n = refl
  one_further false n = omega arith

  pub position_is : (xs : List A) → position p xs ≡ position_or_len p xs
  position_is xs = is_position_or_len (position p) p refl (λ x rest. one_further (p x) (position p rest)) xs

  -- what `position` of an iterator answers
  pub position_found : (xs : List A) → cond (ltb (position p xs) (length xs)) (Some (position p xs)) None ≡ position_from p 0 xs
  position_found xs = rw (position_is xs) (position_from-zero p xs)
