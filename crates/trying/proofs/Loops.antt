-- Laws of the loops: the row of the event, the index of its true conditions, the answers of its classes. Assumes nothing.
use mathlib.Core.Path.{◌≡◌, refl, sym, ap, ap₂, ◌∙◌, subst}
use mathlib.Core.Bool.{Bool, false, ◌||◌}
use mathlib.Core.List.Memᴰ
use mathlib.Core.List.{List, [], ◌∷◌, ◌++◌, map-append, append-nil, append_assoc}
use Prim.Native.Nat.{ℕ, zero, suc, ◌+◌, ◌-◌, ◌*◌, ◌<◌}
use native.Mathlib.Numerals.{add-one}
use native.Mathlib.Omega.{arith}
use lib.ListN.{length, get_or, set, take, drop, replicate, length-map, length-replicate, get_or-replicate, drop_of_length-le}
use lib.Seq.{set_at, take_all, paste}
use Rattle.records.specs.Lists.{any, below}
use Rattle.records.specs.Memory.{over}
use Rattle.records.proofs.Lists.{any_append}
use Rattle.records.proofs.Memory.{paste_front}
use Rattle.literals.specs.declared.Object.{Object}
use Rattle.literals.specs.Domain.{object}
use Rattle.literals.specs.Decode.{byte}
use Rattle.literals.specs.Held.{rows_in, arity_in, component_row_in}
use Rattle.literals.proofs.Indices.{below_snoc}
use Rattle.literals.proofs.Rows.{rows_snoc}
use Rattle.literals.proofs.Heads.{arity_limit}
use Rattle.verdict.specs.Binding.{objects_from}
use Rattle.verdict.specs.Judged.{object_numbers}
use Rattle.verdict.proofs.Objects.{objects_length}
use Rattle.store.specs.Held.{fact_index, total_at, Sized, Indexed, instance_bytes_in}
use Rattle.store.proofs.InstanceFacts.{length_instance_at}
use Rattle.verdict.specs.Held.{patterns_meet}
use Rattle.events.specs.Held.{GroundLiteral, ground_row, ground_at, ground_in}
use Rattle.trying.specs.Held.{plain_ground, is_about}

-- ---- the row of the event

objects_snoc : (k n : ℕ) → objects_from k (suc n) ≡ objects_from k n ++ (object (k + n) ∷ [])
objects_snoc k zero = let e : k ≡ k + 0 = omega arith in ap {B = List Object} (λ (j : ℕ). object j ∷ []) e
objects_snoc k (suc n) =
    let e : suc k + n ≡ k + suc n = omega arith in
    ap {B = List Object} (λ l. object k ∷ l) (objects_snoc (suc k) n ∙ ap (λ (j : ℕ). objects_from (suc k) n ++ (object j ∷ [])) e)

module _ (i : ℕ) where
  -- with the objects of the first k variables
  abbrev pub row_up_to : ℕ → List ℕ
  row_up_to k = i ∷ (object_numbers (objects_from 0 k) ++ replicate (16 - k) 255)

  numbers_more : (k : ℕ) → object_numbers (objects_from 0 (suc k)) ≡ object_numbers (objects_from 0 k) ++ (k ∷ [])
  numbers_more k =
      let e : 0 + k ≡ k = omega arith in
      ap object_numbers (objects_snoc 0 k)
      ∙ map-append (λ (o : Object). o.0) (objects_from 0 k) (object (0 + k) ∷ [])
      ∙ ap (λ (j : ℕ). object_numbers (objects_from 0 k) ++ (j ∷ [])) e

  pub row_more : (k : ℕ) {row : List ℕ} → k < 16 → row ≡ row_up_to k → set row (k + 1) k ≡ row_up_to (k + 1)
  row_more k h e =
      let n = length-map (objects_from 0 k) (λ (o : Object). o.0) ∙ objects_length 0 k in
      let z : 16 - k ≡ suc (16 - (k + 1)) = omega arith in
      let fill : List ℕ = replicate (16 - (k + 1)) 255 in
      ap₂ (λ (l : List ℕ) (j : ℕ). set l j k) (e ∙ ap (λ (m : ℕ). i ∷ (object_numbers (objects_from 0 k) ++ replicate m 255)) z) (add-one k)
      ∙ ap {B = List ℕ} (λ l. i ∷ l) (set_at (object_numbers (objects_from 0 k)) 255 fill k k n
      ∙ sym (append_assoc (object_numbers (objects_from 0 k)) (k ∷ []) fill)
      ∙ ap (λ (l : List ℕ). l ++ fill) (sym (numbers_more k)))
      ∙ ap (λ (m : ℕ). i ∷ (object_numbers (objects_from 0 m) ++ fill)) (sym (add-one k))

  pub row_whole : (n : ℕ) → row_up_to n ≡ ground_row (plain_ground i n)
  row_whole n = ap (λ (m : ℕ). i ∷ (object_numbers (objects_from 0 n) ++ replicate (16 - m) 255)) (sym (objects_length 0 n))

-- ---- the index

pub index_none : (head index : List ℕ) → index ≡ replicate fact_index 0 → Indexed head index []
unfolding total_at
index_none head index e =
    record {
      numbers = ap length e ∙ length-replicate {A = ℕ} fact_index 0;
      totals = λ place l. ap (λ (t : List ℕ). get_or t place 0) e ∙ get_or-replicate fact_index place 0 0 (omega arith);
      sized = λ row m. absurd (Memᴰ.not-nil m);
    }

-- where the loop over the rows stands
abbrev pub Entering : List ℕ → List ℕ → List ℕ → List ℕ → ℕ → Type 0
Entering head rows index₀ index i = Indexed head index₀ [] → Sized head (rows_in i rows) → Indexed head index (rows_in i rows)

pub enter_more : (head rows index₀ index index' : List ℕ) (i : ℕ) → Entering head rows index₀ index i
    → ((old : List (List ℕ)) → Indexed head index old
    → byte (take 8 (drop (8 * i) rows)) 1 ≡ arity_in head (byte (take 8 (drop (8 * i) rows)) 0)
    → Indexed head index' (old ++ (take 8 (drop (8 * i) rows) ∷ [])))
    → Entering head rows index₀ index' (i + 1)
enter_more head rows index₀ index index' i E f z S =
    let row : List ℕ = take 8 (drop (8 * i) rows) in
    let S' : Sized head (rows_in i rows ++ (row ∷ [])) = subst (Sized head) (rows_snoc i rows) S in
    subst (Indexed head index') (sym (rows_snoc i rows))
    (f (rows_in i rows) (E z (λ r m. S' r (Memᴰ.append_left (row ∷ []) m)))
    (S' row (Memᴰ.append_right (rows_in i rows) (Memᴰ.head refl))))

-- ---- the row of a further fact

instance_length : (head : List ℕ) (c o : ℕ) (instance : List ℕ) → length (instance_bytes_in head c o instance) ≡ 8
instance_length head c o instance =
    length_instance_at (arity_in head (get_or (component_row_in head c) 0 0)) o instance head c
    (arity_limit head (get_or (component_row_in head c) 0 0))

-- it takes the place of the one before it
pub instance_put : (head : List ℕ) (c o : ℕ) (instance fact next : List ℕ) → length instance ≡ 8 → length fact ≡ 8
    → next ≡ paste fact 0 (instance_bytes_in head c o (take 8 instance)) 8 → next ≡ instance_bytes_in head c o instance
unfolding over
instance_put head c o instance fact next s l e =
    let new : List ℕ = instance_bytes_in head c o instance in
    let n = instance_length head c o instance in
    e
    ∙ ap (λ (t : List ℕ). paste fact 0 (instance_bytes_in head c o t) 8) (take_all 8 instance (omega arith))
    ∙ paste_front new fact 8 (sym n)
    ∙ ap (λ (t : List ℕ). new ++ t) (drop_of_length-le fact {i = length new} (omega arith))
    ∙ append-nil new

-- ---- a memory copied to another of its size

pub copied : {n : ℕ} (from to next : List ℕ) → length from ≡ n → length to ≡ n → next ≡ paste to 0 from (length from) → next ≡ from
unfolding over
copied from to next e f g =
    g
    ∙ paste_front from to (length from) refl
    ∙ ap (λ (t : List ℕ). from ++ t) (drop_of_length-le to {i = length from} (omega arith))
    ∙ append-nil from

-- ---- the ground literals by their indices

pub about_below : (memory fact : List ℕ) → length fact ≡ 8 → (n : ℕ)
    → any (λ i. patterns_meet (take 8 (drop (8 * i) memory)) (take 8 (drop 0 fact))) (below n) ≡ is_about (ground_in n memory) fact
about_below memory fact e zero = refl
about_below memory fact e (suc n) =
    ap (any meets) (below_snoc n)
    ∙ any_append meets (below n) (n ∷ [])
    ∙ ap₂ ◌||◌ (about_below memory fact e n) (ap (λ (t : List ℕ). patterns_meet (ground_at memory n).row t || false) (take_all 8 fact (omega arith)))
    ∙ sym (any_append (λ (l : GroundLiteral). patterns_meet l.row fact) (ground_in n memory) (ground_at memory n ∷ []))
  where
    meets : ℕ → Bool
    meets i = patterns_meet (take 8 (drop (8 * i) memory)) (take 8 (drop 0 fact))
