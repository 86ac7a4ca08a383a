-- Objects among others, and those of the witness: "variable i is object i". Assumes nothing.
use mathlib.Core.Path.{◌≡◌, refl, ap, ap₂, ◌∙◌}
use mathlib.Core.Bool.{true, false, not}
use mathlib.Core.Logic.{◌⊎◌, inl, inr}
use mathlib.Core.List.Memᴰ
use mathlib.Core.List.{List, [], ◌∷◌, map}
use Prim.Native.Nat.{ℕ, zero, suc, ◌+◌, ◌≤◌, ◌<◌}
use native.Mathlib.Omega.{arith}
use lib.Dec.{eqb}
use lib.ListN.{get_or, length}
use borrow.Author.Tests.{ne_eqb, eqb-true, eqb-false}
use Rattle.records.specs.Lists.{In, elem, distinct}
use Rattle.records.proofs.Lists.{and_i, all_in, all_of, elem_in, in_elem, bool_cases}
use Rattle.literals.specs.declared.Variable.{Variable}
use Rattle.literals.specs.declared.Object.{Object}
use Rattle.literals.specs.Domain.{object, same_object, Action}
use Rattle.verdict.specs.Binding.{value_of, objects_from, same_numbers}
use Rattle.verdict.specs.Claims.{among}
use Rattle.verdict.specs.Judged.{object_numbers}
use Rattle.verdict.proofs.Equality.{object_eq, object_self}
use Rattle.verdict.proofs.Tuples.{Below}

-- ---- objects among others

pub among_of : (objs os : List Object) → ((o : Object) → In o os → In o objs) → among objs os ≡ true
among_of objs os h = all_of (λ o. elem same_object o objs) os (λ o m. in_elem same_object object_self (h o m))

pub among_in : (objs os : List Object) → among objs os ≡ true → (o : Object) → In o os → In o objs
among_in objs os h o m = elem_in same_object object_eq o objs (all_in (λ o. elem same_object o objs) os h m)

-- ---- n objects from k on

pub objects_length : (k n : ℕ) → length (objects_from k n) ≡ n
objects_length k zero = refl
objects_length k (suc n) = ap suc (objects_length (suc k) n)

pub objects_range : (k n : ℕ) (o : Object) → In o (objects_from k n) → (k ≤ o.0) × (o.0 < k + n)
objects_range k zero o m = absurd (Memᴰ.not-nil m)
objects_range k (suc n) o (Memᴰ.head e) = let z : o.0 ≡ k = ap (λ (p : Object). p.0) e in (omega arith, omega arith)
objects_range k (suc n) o (Memᴰ.tail m) = let r = objects_range (suc k) n o m in let s = r.0 in let t = r.1 in (omega arith, omega arith)

pub object_in : (k n : ℕ) (o : Object) → k ≤ o.0 → o.0 < k + n → In o (objects_from k n)
object_in k zero o h l = absurd (omega arith)
object_in k (suc n) o h l = go (bool_cases (eqb o.0 k)) (λ g. object_in (suc k) n o g (omega arith))
  where
    go : (eqb o.0 k ≡ true) ⊎ (eqb o.0 k ≡ false) → (suc k ≤ o.0 → In o (objects_from (suc k) n)) → In o (objects_from k (suc n))
    go (inl t) ih = Memᴰ.head (ap object (eqb-true o.0 k t))
    go (inr f) ih = let ne = eqb-false o.0 k f in Memᴰ.tail (ih (omega arith))

pub objects_distinct : (k n : ℕ) → distinct same_object (objects_from k n) ≡ true
objects_distinct k zero = refl
objects_distinct k (suc n) =
    and_i (all_of (λ o. not (same_object (object k) o)) (objects_from (suc k) n) (λ o m. let r = (objects_range (suc k) n o m).0 in ap not (ne_eqb k o.0 (λ e. omega arith))))
    (objects_distinct (suc k) n)

-- ---- "variable i is object i": binding keeps the numbers

object_at_lem : (k n i : ℕ) → i < n → get_or (objects_from k n) i (object 0) ≡ object (k + i)
object_at_lem k zero i h = absurd (omega arith)
object_at_lem k (suc n) zero h = let e : k ≡ k + 0 = omega arith in ap object e
object_at_lem k (suc n) (suc i) h = let e : suc k + i ≡ k + suc i = omega arith in object_at_lem (suc k) n i (omega arith) ∙ ap object e

value_number : (a : Action) (v : Variable) → v.0 < a.vars → (value_of (same_numbers a) v).0 ≡ v.0
value_number a v h = let e : 0 + v.0 ≡ v.0 = omega arith in ap (λ (o : Object). o.0) (object_at_lem 0 a.vars v.0 h) ∙ e

pub value_numbers : (a : Action) (vs : List Variable) → Below a.vars vs
    → object_numbers (map (value_of (same_numbers a)) vs) ≡ map (λ (v : Variable). v.0) vs
value_numbers a [] h = refl
value_numbers a (v ∷ vs) h = ap₂ ◌∷◌ (value_number a v (h v (Memᴰ.head refl))) (value_numbers a vs (λ w m. h w (Memᴰ.tail m)))
