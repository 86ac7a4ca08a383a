-- The bytes of facts in work memory: rows of 8, zeros to 8,192, the rest untouched. Assumes nothing.
use mathlib.Core.Path.{◌≡◌, refl, sym, ap, ◌∙◌, subst}
use mathlib.Core.List.{List, [], ◌∷◌, ◌++◌, map, flat_map, append_assoc}
use Prim.Native.Nat.{ℕ, ◌+◌, ◌-◌, ◌*◌, ◌≤◌}
use native.Mathlib.Omega.{arith}
use lib.ListN.{length, drop, replicate, length-append, length-replicate, replicate-append-replicate}
use lib.Seq.{drop-append-le, drop-append-add}
use Rattle.records.specs.Memory.{over}
use Rattle.records.proofs.Memory.{drop_replicate}
use Rattle.literals.specs.declared.Object.{Object}
use Rattle.literals.specs.Domain.{Fact, Domain}
use Rattle.literals.specs.Held.{rows_in, Bounded}
use Rattle.literals.proofs.Bounds.{arity_six}
use Rattle.literals.proofs.Tables.{length_flat, rows_flat}
use Rattle.verdict.specs.Judged.{object_numbers, fact_bytes}
use Rattle.records.specs.Lists.{In}
use Rattle.verdict.specs.Machine.{Event, State}
use Rattle.verdict.specs.Held.{fact_row}
use Rattle.run_semantics.specs.RunFile.{max_facts}
use Rattle.run_semantics.specs.Play.{work_bytes, held_bytes}
use Rattle.store.specs.Held.{Few, FactFits}
use Rattle.machine.specs.Held.{StateRows, state_of, Kept}
use Rattle.events.proofs.FactRows.{length_fact_row}
use Rattle.effects.specs.Held.{Once}
use Rattle.effects.proofs.StepFacts.{once_facts}

-- facts of the domain have room in a row
pub fits_few : {D : Domain} → Bounded D → (fs : List Fact) → ((f : Fact) → In f fs → FactFits D f) → Few fs
fits_few {D} B fs h f m = let e = (h f m).sized in let k = arity_six D B.arities f.rel in omega arith

pub bytes_flat : (fs : List Fact) → fact_bytes fs ≡ flat_map fact_row fs
unfolding fact_bytes flat_map
bytes_flat [] = refl
bytes_flat (f ∷ fs) =
    let n : List ℕ = object_numbers f.args in
    let r : List ℕ = replicate (6 - length f.args) 255 in
    ap {B = List ℕ} (λ l. f.rel ∷ length f.args ∷ l) (ap (λ (t : List ℕ). n ++ (r ++ t)) (bytes_flat fs) ∙ sym (append_assoc n r (flat_map fact_row fs)))

module _ (fs : List Fact) (h : Few fs) where
  length_bytes : length (fact_bytes fs) ≡ 8 * length fs
  length_bytes = ap length (bytes_flat fs) ∙ length_flat fact_row fs (λ f m. length_fact_row f (h f m))

  -- the rows in front of anything
  pub bytes_rows : (rest : List ℕ) → rows_in (length fs) (fact_bytes fs ++ rest) ≡ map fact_row fs
  bytes_rows rest = ap (λ (b : List ℕ). rows_in (length fs) (b ++ rest)) (bytes_flat fs) ∙ rows_flat fact_row fs rest (λ f m. length_fact_row f (h f m))

  module _ (few : length fs ≤ max_facts) where
    pub length_held : length (held_bytes fs) ≡ work_bytes
    unfolding held_bytes
    length_held =
        let l = length_bytes in
        let a = length-append (fact_bytes fs) (replicate (work_bytes - length (fact_bytes fs)) 0) in
        let r = length-replicate {A = ℕ} (work_bytes - length (fact_bytes fs)) 0 in
        omega arith

    pub work_rows : (old : List ℕ) → rows_in (length fs) (over (held_bytes fs) old) ≡ map fact_row fs
    unfolding over held_bytes
    work_rows old =
        ap (rows_in (length fs)) (append_assoc (fact_bytes fs) (replicate (work_bytes - length (fact_bytes fs)) 0) (drop (length (held_bytes fs)) old))
        ∙ bytes_rows (replicate (work_bytes - length (fact_bytes fs)) 0 ++ drop (length (held_bytes fs)) old)

-- other facts in their place: their bytes, and zeros where there were more
pub held_settled : (fs gs : List Fact) → Few fs → Few gs → length fs ≤ max_facts → length gs ≤ max_facts → (old : List ℕ)
    → over (fact_bytes gs ++ replicate (8 * length fs - 8 * length gs) 0) (over (held_bytes fs) old) ≡ over (held_bytes gs) old
unfolding over held_bytes
held_settled fs gs hf hg kf kg old =
    let F : List ℕ = fact_bytes fs in
    let G : List ℕ = fact_bytes gs in
    let f = length_bytes fs hf in
    let g = length_bytes gs hg in
    let n = length_held fs hf kf in
    let m = length_held gs hg kg in
    let more : ℕ = 8 * length fs - 8 * length gs in
    let on : ℕ = 8 * length gs + more - 8 * length fs in
    let left : ℕ = work_bytes - length F - on in
    let rest : List ℕ = drop (length (held_bytes fs)) old in
    let r = length-replicate {A = ℕ} more 0 in
    let l = length-append G (replicate more 0) in
    let k : length (G ++ replicate more 0) ≡ length F + on = omega arith in
    let e : more + left ≡ work_bytes - length G = omega arith in
    let z : length (held_bytes fs) ≡ length (held_bytes gs) = omega arith in
    ap (λ (b : List ℕ). (G ++ replicate more 0) ++ b)
    (ap (λ (j : ℕ). drop j (held_bytes fs ++ rest)) k ∙ drop-append-le (length F + on) (held_bytes fs) rest (omega arith)
    ∙ ap (λ (b : List ℕ). b ++ rest) (drop-append-add F (replicate (work_bytes - length F) 0) on ∙ drop_replicate on (work_bytes - length F) 0))
    ∙ append_assoc G (replicate more 0) (replicate left 0 ++ rest)
    ∙ ap (λ (b : List ℕ). G ++ b) (sym (append_assoc (replicate more 0) (replicate left 0) rest) ∙ ap (λ (b : List ℕ). b ++ rest) (replicate-append-replicate more left 0 ∙ ap (λ (j : ℕ). replicate j 0) e))
    ∙ sym (append_assoc G (replicate (work_bytes - length G) 0) rest)
    ∙ ap (λ (j : ℕ). held_bytes gs ++ drop j old) z

-- the rows of the facts that a state of the machine holds in work memory
pub state_rows : (D : Domain) → Bounded D → {objs : List Object} (s : State) (es : List Event) → Kept D objs s es → (holding : StateRows) → holding ≡ state_of s es → (work old : List ℕ) → work ≡ over (held_bytes s.facts) old
    → rows_in holding.facts work ≡ map fact_row s.facts
state_rows D B s es k holding is work old e =
    ap (λ (h : StateRows). rows_in h.facts work) is ∙ ap (rows_in (length s.facts)) e ∙ work_rows s.facts (fits_few B s.facts k.facts) k.facts_few old

-- none of which stands twice
pub state_once : (D : Domain) → Bounded D → {objs : List Object} (s : State) (es : List Event) → Kept D objs s es → (holding : StateRows) → holding ≡ state_of s es → (work old : List ℕ) → work ≡ over (held_bytes s.facts) old
    → Once (rows_in holding.facts work)
state_once D B s es k holding is work old e = subst Once (sym (state_rows D B s es k holding is work old e)) (once_facts s.facts k.facts_once)
