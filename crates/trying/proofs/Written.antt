-- The bytes that the engine writes are those of the report's rows of actions at once. Assumes nothing.
use mathlib.Core.Path.{◌≡◌, refl, sym, ap, ap₂, ◌∙◌}
use mathlib.Core.Bool.{Bool, true, false, not, cond}
use mathlib.Core.Logic.{◌⊎◌, inl, inr}
use mathlib.Core.List.Memᴰ
use mathlib.Core.List.{List, [], ◌∷◌, ◌++◌, map, map-append}
use Prim.Native.Nat.{ℕ, suc, ◌+◌, ◌*◌, ◌≤◌, ◌<◌}
use native.Mathlib.Nat.{zero-add}
use native.Mathlib.Omega.{arith}
use lib.Dec.{ltb}
use lib.ListN.{get_or, length, take, drop, length-append, length-map}
use lib.Seq.{take_at}
use borrow.Author.Tests.{ltb-true, ltb-false}
use Rattle.records.specs.Lists.{In, filter_by, keep_if}
use Rattle.records.specs.Memory.{over}
use Rattle.records.proofs.Lists.{bool_cases, in_get_d, filter_append}
use Rattle.literals.specs.declared.Variable.{Variable}
use Rattle.literals.specs.declared.Moment.{Moment}
use Rattle.literals.specs.declared.Moment.TheVariants.{Start, End}
use Rattle.literals.specs.Domain.{Action, Domain, no_action, action}
use Rattle.literals.specs.Held.{Bounded}
use Rattle.literals.proofs.Bounds.{decoded_bounded}
use Rattle.classes.specs.Classes.{classes, moments_of, name_of}
use Rattle.classes.proofs.Members.{classes_few}
use Rattle.verdict.specs.Decision.{Row, row_at, rows_of_classes, rows_from, rows, class_at}
use Rattle.verdict.specs.Judged.{Answer, answer_at}
use Rattle.verdict.specs.Claims.{well_formed}
use Rattle.verdict.proofs.Decodes.{decoded_well_formed}
use Rattle.services.proofs.Answers.{served_short, served_done}
use Rattle.trying.specs.Trying.{tries, tried_of, tried_from, tried, tried_file, tried_after}
use Rattle.trying.specs.Claims.{is_harmful, rows_at_once, row_byte, TriedAsNamed, TriedBounded, TriedOfFile, TriedShort, AgreesWithNames}
use Rattle.trying.proofs.Engine.{trying_exact}

abbrev at_once : Domain → Row → Bool
at_once D r = not (action D r.action).lasting

module _ (D : Domain) (a : Action) (i : ℕ) (e : action D i ≡ a) where
  -- the rows of a lasting action are passed over
  lasting_rows : a.lasting ≡ true → (j : ℕ) (xs : List (List Variable)) → filter_by (at_once D) (rows_of_classes D a i j xs) ≡ []
  lasting_rows l j [] = refl
  lasting_rows l j (x ∷ xs) =
      let ms : moments_of a ≡ Start ∷ End ∷ [] = ap {B = List Moment} (λ b. cond b (Start ∷ End ∷ []) (Start ∷ [])) l in
      let t : (action D i).lasting ≡ true = ap (λ (b : Action). b.lasting) e ∙ l in
      ap (λ (ms : List Moment). filter_by (at_once D) (map (row_at D a i j x) ms ++ rows_of_classes D a i (suc j) xs)) ms
      ∙ ap (λ (b : Bool). keep_if (not b) (row_at D a i j x Start)
      (keep_if (not b) (row_at D a i j x End) (filter_by (at_once D) (rows_of_classes D a i (suc j) xs)))) t
      ∙ lasting_rows l (suc j) xs

  -- the rows of an action at once: one for each class
  once_rows : a.lasting ≡ false → (j : ℕ) (xs : List (List Variable))
      → ((x : List Variable) → In x xs → tries D i x ≡ is_harmful (name_of D a x Start))
      → map (λ x. cond (tries D i x) 1 0) xs ≡ map row_byte (filter_by (at_once D) (rows_of_classes D a i j xs))
  once_rows l j [] h = refl
  once_rows l j (x ∷ xs) h =
      let ms : moments_of a ≡ Start ∷ [] = ap {B = List Moment} (λ b. cond b (Start ∷ End ∷ []) (Start ∷ [])) l in
      let t : (action D i).lasting ≡ false = ap (λ (b : Action). b.lasting) e ∙ l in
      let first : cond {A = ℕ} (tries D i x) 1 0 ≡ row_byte (row_at D a i j x Start)
      = ap {B = ℕ} (λ b. cond b 1 0) (h x (Memᴰ.head refl)) in
      ap₂ ◌∷◌ first (once_rows l (suc j) xs (λ z m. h z (Memᴰ.tail m)))
      ∙ sym (ap (λ (ms : List Moment). map row_byte (filter_by (at_once D) (map (row_at D a i j x) ms ++ rows_of_classes D a i (suc j) xs))) ms
      ∙ ap (λ (b : Bool). map row_byte (keep_if (not b) (row_at D a i j x Start) (filter_by (at_once D) (rows_of_classes D a i (suc j) xs)))) t)

module _ (D : Domain) (wf : well_formed D ≡ true) where
  -- the rows of the action i
  abbrev rows_of : ℕ → List Row
  rows_of i = filter_by (at_once D) (rows_of_classes D (action D i) i 0 (classes D (action D i)))

  class_bytes : (i : ℕ) → i < length D.actions → (l : Bool) → (action D i).lasting ≡ l
      → cond l [] (map (λ x. cond (tries D i x) 1 0) (classes D (action D i))) ≡ map row_byte (rows_of i)
  unfolding class_at
  class_bytes i h true e = sym (ap (map row_byte) (lasting_rows D (action D i) i refl e 0 (classes D (action D i))))
  class_bytes i h false e = once_rows D (action D i) i refl e 0 (classes D (action D i)) of_class
    where
      of_class : (x : List Variable) → In x (classes D (action D i)) → tries D i x ≡ is_harmful (name_of D (action D i) x Start)
      of_class x m =
          let r = in_get_d (classes D (action D i)) [] m in
          let t = trying_exact D wf i r.0 (record { listed = h; at_once_lem = e; numbered = r.1 }) in rw r.2 at t

  bytes_from_lem : (i : ℕ) (as' : List Action) → i + length as' ≡ length D.actions
      → ((k : ℕ) → k < length as' → action D (i + k) ≡ get_or as' k no_action)
      → tried_from D i as' ≡ map row_byte (filter_by (at_once D) (rows_from D i as'))
  bytes_from_lem i [] e h = refl
  bytes_from_lem i (a ∷ as') e h =
      let q : action D i ≡ a = ap (action D) (let z : i ≡ i + 0 = omega arith in z) ∙ h 0 (omega arith) in
      ap₂ ◌++◌ (ap (tried_of D i) (sym q) ∙ class_bytes i (omega arith) (action D i).lasting refl
      ∙ ap (λ (b : Action). map row_byte (filter_by (at_once D) (rows_of_classes D b i 0 (classes D b)))) q)
      (bytes_from_lem (suc i) as' (omega arith)
      (λ k l. ap (action D) (let z : suc i + k ≡ i + suc k = omega arith in z) ∙ h (suc k) (omega arith)))
      ∙ sym (ap (map row_byte) (filter_append (at_once D) (rows_of_classes D a i 0 (classes D a)) (rows_from D (suc i) as'))
      ∙ map-append row_byte (filter_by (at_once D) (rows_of_classes D a i 0 (classes D a))) (filter_by (at_once D) (rows_from D (suc i) as')))

pub tried_as_named : TriedAsNamed
unfolding tried rows action
tried_as_named D wf =
    bytes_from_lem D wf 0 D.actions (zero-add (length D.actions)) (λ k h. ap (λ n. get_or D.actions n no_action) (zero-add k))

-- ---- how many

of_few : (D : Domain) → Bounded D → (i : ℕ) (a : Action) → length a.lits ≤ 64 → length (tried_of D i a) ≤ 64
of_few D B i a h = go a.lasting
  where
    go : (l : Bool) → length (cond {A = List ℕ} l [] (map (λ x. cond (tries D i x) 1 0) (classes D a))) ≤ 64
    go true = omega arith
    go false =
        let m = length-map {B = ℕ} (classes D a) (λ x. cond (tries D i x) 1 0) in
        let c = classes_few D a B in omega arith

from_few : (D : Domain) → Bounded D → (i : ℕ) (as' : List Action) → ((a : Action) → In a as' → length a.lits ≤ 64)
    → length (tried_from D i as') ≤ 64 * length as'
from_few D B i [] h = omega arith
from_few D B i (a ∷ as') h =
    let l = length-append (tried_of D i a) (tried_from D (suc i) as') in
    let f = of_few D B i a (h a (Memᴰ.head refl)) in
    let r = from_few D B (suc i) as' (λ b m. h b (Memᴰ.tail m)) in omega arith

pub tried_bounded : TriedBounded
unfolding tried
tried_bounded f D e =
    let B = decoded_bounded f D e in
    let h = from_few D B 0 D.actions B.sizes in
    let n = B.actions in omega arith

-- ---- of a file

count_of : (D : Domain) → well_formed D ≡ true → length (tried D) ≡ length (rows_at_once D)
count_of D wf = ap length (tried_as_named D wf) ∙ length-map (rows_at_once D) row_byte

pub tried_of_file : TriedOfFile
unfolding tried_file tried_after
tried_of_file f out D e h =
    let wf = decoded_well_formed f D e in
    let n = count_of D wf in
    let r = served_done tried f out D e (omega arith) in
    (r.0 ∙ ap (answer_at 0) n, r.1 ∙ ap (λ (b : List ℕ). over b out) (tried_as_named D wf))

pub tried_short : TriedShort
unfolding tried_file tried_after
tried_short f out D e h = let n = count_of D (decoded_well_formed f D e) in served_short tried f out D e (omega arith)

-- what is new stands in front
take_over : (new old : List ℕ) (n : ℕ) → length new ≡ n → take n (over new old) ≡ new
unfolding over
take_over new old n e = take_at new (drop (length new) old) n e

-- ---- of an answer: its bytes agree with the report's names

pub agrees_with_names : (f out : List ℕ) (n k : ℕ) (after : List ℕ) → n ≡ (tried_file f out).number → k ≡ (tried_file f out).first
    → after ≡ tried_after f out → AgreesWithNames f n k after
agrees_with_names f out n k after en ek ea D e z = go (bool_cases (ltb (length out) (length (rows_at_once D))))
  where
    go : (ltb (length out) (length (rows_at_once D)) ≡ true) ⊎ (ltb (length out) (length (rows_at_once D)) ≡ false)
        → (k ≡ length (rows_at_once D)) × (take k after ≡ map row_byte (rows_at_once D))
    go (inl t) =
        let s = (tried_short f out D e (ltb-true _ _ t)).0 in
        let q : ◌≡◌ {A = ℕ} 0 30 = sym z ∙ en ∙ ap (λ (a : Answer). a.number) s in
        absurd (omega arith)
    go (inr t) =
        let s = tried_of_file f out D e (ltb-false _ _ t) in
        let count : k ≡ length (rows_at_once D) = ek ∙ ap (λ (a : Answer). a.first) s.0 in (
          count,
          ap (take k) (ea ∙ s.1)
              ∙ take_over (map row_byte (rows_at_once D)) out k (length-map (rows_at_once D) row_byte ∙ sym count),
        )
