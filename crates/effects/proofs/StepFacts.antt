-- The facts after a step: the rows that are kept and then joined are those of the machine's `facts_after`. Assumes nothing.
use mathlib.Core.Path.{◌≡◌, refl, sym, ap, ◌∙◌, subst}
use mathlib.Core.Bool.{true, not}
use mathlib.Core.List.{List, [], ◌∷◌, ◌++◌, map, flat_map, map-append, append_assoc}
use Prim.Native.Nat.{ℕ, zero, suc, ◌-◌, ◌*◌, ◌≤◌}
use native.Mathlib.Omega.{arith}
use lib.Dec.{eqb}
use lib.ListN.{length, take, drop, replicate, length-map}
use lib.Seq.{take_all, take_at}
use Rattle.std.specs.Prelude.{Option}
use Rattle.records.specs.Lists.{filter_by, same_list, elem, distinct, dedup}
use Rattle.records.specs.Memory.{over}
use Rattle.records.proofs.Lists.{filter_in, filter_agree, dedup_in}
use Rattle.literals.specs.declared.Object.{Object}
use Rattle.literals.specs.declared.Usage.TheVariants.{Delete}
use Rattle.literals.specs.Domain.{Fact, same_fact, Domain}
use Rattle.literals.specs.Held.{rows_in}
use Rattle.verdict.specs.Judged.{object_numbers, fact_bytes}
use Rattle.verdict.specs.Machine.{Event, step_facts, facts_after}
use Rattle.store.specs.Held.{Sized, Indexed, has_row}
use Rattle.effects.specs.Held.{join_rows, Once, at_most, flat, HoldsJoined, HoldsAfter, stays, kept_of, count_of}
use Rattle.events.proofs.FactRows.{same_row}
use Rattle.effects.proofs.Joins.{outside_map, dedup_map, distinct_map, joined_rows}
use Rattle.literals.proofs.Indices.{filter_map}
use Rattle.literals.proofs.Rows.{rows_whole}
use Rattle.verdict.specs.Held.{fact_row}
use Rattle.effects.proofs.FilledRows.{Whole, whole_append, length_whole, Filled, filled_rows, kept_few, behind, most_inside}
use Rattle.effects.proofs.EffectRows.{EffectsOf}

-- ---- the rows of facts

-- those not among some others
outside : (fs gs : List Fact) → filter_by (λ (row : List ℕ). not (has_row row (map fact_row gs))) (map fact_row fs)
    ≡ map fact_row (filter_by (λ (f : Fact). not (elem same_fact f gs)) fs)
outside fs gs = outside_map fact_row same_fact (same_list eqb) fs gs (λ f g m k. same_row f g)

-- facts that stand once have rows that stand once
pub once_facts : (fs : List Fact) → distinct same_fact fs ≡ true → Once (map fact_row fs)
once_facts fs o = distinct_map fact_row same_fact (same_list eqb) fs (λ f g m k. same_row f g) ∙ o

-- facts that join others
joined_facts : (fs gs : List Fact) → join_rows (map fact_row fs) (map fact_row gs) ≡ map fact_row (fs ++ filter_by (λ (f : Fact). not (elem same_fact f fs)) (dedup same_fact gs))
joined_facts fs gs =
    joined_rows (map fact_row fs) (map fact_row gs)
    ∙ ap (λ (l : List (List ℕ)). map fact_row fs ++ l)
    (ap (filter_by (λ (row : List ℕ). not (has_row row (map fact_row fs)))) (dedup_map fact_row same_fact (same_list eqb) gs (λ f g m k. same_row f g))
    ∙ outside (dedup same_fact gs) fs)
    ∙ sym (map-append fact_row fs (filter_by (λ (f : Fact). not (elem same_fact f fs)) (dedup same_fact gs)))

pub fact_bytes_lem : (fs : List Fact) → flat (map fact_row fs) ≡ fact_bytes fs
unfolding flat_map fact_bytes
fact_bytes_lem [] = refl
fact_bytes_lem (f ∷ fs) =
    ap (λ (l : List ℕ). f.rel ∷ length f.args ∷ l)
    (append_assoc (object_numbers f.args) (replicate (6 - length f.args) 255) (flat (map fact_row fs))
    ∙ ap (λ (l : List ℕ). object_numbers f.args ++ (replicate (6 - length f.args) 255 ++ l)) (fact_bytes_lem fs))

take_map : {A B : Type 0} (g : A → B) (n : ℕ) (l : List A) → take n (map g l) ≡ map g (take n l)
take_map g zero l = refl
take_map g (suc n) [] = refl
take_map {A} {B} g (suc n) (x ∷ xs) = ap {B = List B} (λ l. g x ∷ l) (take_map g n xs)

-- what is new stands in front
take_over : (new old : List ℕ) (n : ℕ) → length new ≡ n → take n (over new old) ≡ new
unfolding over
take_over new old n e = take_at new (drop (length new) old) n e

-- ---- what the step keeps, and what it leaves

module _ {D : Domain} {objs : List Object} {fs : List Fact} {es : List Event} {head : List ℕ} {struck added : List (List ℕ)}
    (E : EffectsOf D objs fs es head struck added) where
  abbrev kept_facts : List Fact
  kept_facts = filter_by (λ (f : Fact). not (elem same_fact f (step_facts D objs es Delete))) fs

  kept_facts_lem : filter_by (stays struck) (map fact_row fs) ≡ map fact_row kept_facts
  kept_facts_lem =
      filter_map fact_row (stays struck) fs
      ∙ ap (map fact_row)
      (filter_agree (λ (f : Fact). stays struck (fact_row f)) (λ (f : Fact). not (elem same_fact f (step_facts D objs es Delete))) fs
      (λ f m. ap not (E.gone f m)))

  after_facts : join_rows (map fact_row kept_facts) added ≡ map fact_row (facts_after D objs fs es)
  unfolding facts_after
  after_facts =
      ap (join_rows (map fact_row kept_facts)) E.rows
      ∙ joined_facts kept_facts E.new
      ∙ ap (λ (l : List Fact). map fact_row (kept_facts ++ filter_by (λ (f : Fact). not (elem same_fact f kept_facts)) l)) (sym E.once)

-- ---- as the code leaves it

-- the rows that are struck and those that are added, the work memory, the scratch memory before what is kept, behind that and
-- when all has joined, and the index
pub record Done (head struck work adds : List ℕ) (m n k : ℕ) (out₀ out₁ out₂ index₀ index₁ index₂ : List ℕ) (kept : ℕ) (facts : Option ℕ) : Type 0 where
  pub small : n ≤ 1024
  pub within : 8 * n ≤ length work
  pub adds_within : 8 * k ≤ length adds
  pub room : 8192 ≤ length out₀
  pub kept_count : kept ≡ length (kept_of (rows_in m struck) work n)
  pub kept_bytes : out₁ ≡ over (flat (kept_of (rows_in m struck) work n)) out₀
  pub kept_indexed : Indexed head index₀ (rows_in n work) → Indexed head index₁ (kept_of (rows_in m struck) work n)
  pub joined : Indexed head index₁ (rows_in kept out₁) → Sized head (rows_in k adds)
      → HoldsJoined head (join_rows (rows_in kept out₁) (rows_in k adds)) out₁ (count_of facts) out₂ index₂

module _ {head struck work adds : List ℕ} {m n k : ℕ} {out₀ out₁ out₂ index₀ index₁ index₂ : List ℕ} {kept : ℕ} {facts : Option ℕ}
    (X : Done head struck work adds m n k out₀ out₁ out₂ index₀ index₁ index₂ kept facts) where
  abbrev kept_rows : List (List ℕ)
  kept_rows = kept_of (rows_in m struck) work n

  abbrev new_rows : List (List ℕ)
  new_rows = behind kept_rows (rows_in k adds)

  filled : Filled kept_rows kept out₁ out₀
  filled =
      let q = kept_few (rows_in m struck) work n in
      let c = X.kept_count in
      let a = X.small in
      let r = X.room in
      record { count = c; room = omega arith; whole = λ row i. rows_whole n work X.within row (filter_in (stays (rows_in m struck)) (rows_in n work) i).0; bytes = X.kept_bytes }

  kept_still : rows_in kept out₁ ≡ kept_rows
  kept_still = filled_rows filled

  all_joined : join_rows (rows_in kept out₁) (rows_in k adds) ≡ kept_rows ++ new_rows
  all_joined = ap (λ (l : List (List ℕ)). join_rows l (rows_in k adds)) kept_still ∙ joined_rows kept_rows (rows_in k adds)

  new_whole : Whole new_rows
  new_whole row i = rows_whole k adds X.adds_within row (dedup_in (same_list eqb) (rows_in k adds)
      (filter_in (λ (row : List ℕ). not (has_row row kept_rows)) (dedup (same_list eqb) (rows_in k adds)) i).0)

  pub after_few : kept ≤ n
  after_few =
      let q = kept_few (rows_in m struck) work n in
      let c = X.kept_count in
      omega arith

  module _ {D : Domain} {objs : List Object} {fs : List Fact} {es : List Event} (E : EffectsOf D objs fs es head (rows_in m struck) (rows_in k adds))
      (u : rows_in n work ≡ map fact_row fs) where
    abbrev after : List Fact
    after = facts_after D objs fs es

    kept_rows_lem : kept_rows ≡ map fact_row (kept_facts E)
    kept_rows_lem = ap (filter_by (stays (rows_in m struck))) u ∙ kept_facts_lem E

    after_rows : join_rows (rows_in kept out₁) (rows_in k adds) ≡ map fact_row after
    after_rows = ap (λ (l : List (List ℕ)). join_rows l (rows_in k adds)) (kept_still ∙ kept_rows_lem) ∙ after_facts E

    after_kept : kept ≡ length (filter_by (λ (f : Fact). not (elem same_fact f (step_facts D objs es Delete))) fs)
    after_kept = X.kept_count ∙ ap length kept_rows_lem ∙ length-map (kept_facts E) fact_row

    after_length : length (fact_bytes after) ≡ 8 * length after
    after_length =
        sym (ap length (fact_bytes_lem after))
        ∙ length_whole (map fact_row after) (subst Whole (sym all_joined ∙ after_rows) (whole_append kept_rows new_rows filled.whole new_whole))
        ∙ ap (λ (i : ℕ). 8 * i) (length-map after fact_row)

    module _ (I : Indexed head index₀ (map fact_row fs)) where
      kept_held : Indexed head index₁ (rows_in kept out₁)
      kept_held = subst (Indexed head index₁) (sym kept_still) (X.kept_indexed (subst (Indexed head index₀) (sym u) I))

      H : HoldsJoined head (join_rows (rows_in kept out₁) (rows_in k adds)) out₁ (count_of facts) out₂ index₂
      H = X.joined kept_held E.sized

      after_count : count_of facts ≡ at_most 1024 (length after)
      after_count = H.count ∙ ap (at_most 1024) (ap length after_rows ∙ length-map after fact_row)

      after_held : length after ≤ 1024 → take (8 * length after) out₂ ≡ fact_bytes after
      after_held y =
          ap (take (8 * length after))
          (H.bytes
          ∙ ap (λ (l : List (List ℕ)). over (flat l) out₁) (ap (take 1024) after_rows ∙ take_map fact_row 1024 after)
          ∙ ap (λ (l : List Fact). over (flat (map fact_row l)) out₁) (take_all 1024 after y)
          ∙ ap (λ (l : List ℕ). over l out₁) (fact_bytes_lem after))
          ∙ take_over (fact_bytes after) out₁ (8 * length after) after_length

      after_indexed : length after ≤ 1024 → Indexed head index₂ (map fact_row after)
      after_indexed y =
          let c : count_of facts ≡ length after = after_count ∙ sym (most_inside (length after) y) in
          subst (Indexed head index₂) after_rows (H.indexed (omega arith))

      pub holds_after : HoldsAfter D objs fs es head (record { kept = kept; facts = facts }) out₂ index₂
      holds_after = record { kept = after_kept; facts = after_count; held = after_held; indexed = after_indexed }
