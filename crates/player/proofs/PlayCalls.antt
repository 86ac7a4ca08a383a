-- The call of playing: from what reading, deciding and the run promise to the answer, the work memory and the part. Assumes nothing.
use mathlib.Core.Path.{◌≡◌, refl, sym, ap, ap₂, ◌∙◌}
use mathlib.Core.Bool.{Bool, true, false, cond}
use mathlib.Core.List.{List}
use Prim.Native.Nat.{ℕ}
use native.Mathlib.Omega.{arith}
use lib.Dec.{eqb}
use lib.ListN.{length}
use borrow.Author.Tests.{eqb-true, eq-eqb, ne_eqb, le-ltb}
use Rattle.records.specs.Memory.{over}
use Rattle.literals.specs.Domain.{Fact, Domain}
use Rattle.literals.specs.Decode.{Decoded, domain}
use Rattle.player.specs.declared.run.Ended.{Ended}
use Rattle.player.specs.declared.play.Fault.TheVariants.{Run as InRun}
use Rattle.player.specs.declared.play.PlayAnswer.{PlayAnswer}
use Rattle.run_semantics.specs.RunFile.{entries_before, entries_up_to, begun_in}
use Rattle.run_semantics.specs.Play.{work_bytes, Outcome, place_of, held_bytes, play_run, Returned, of_domain, of_run, Call, outcome_call, call_by}
use Rattle.run_semantics.specs.Play.{call, played, work_after, returned, returned_bytes}
use Rattle.run_semantics.specs.Claims.{final_of, AsMachine, PlaysAsMachine, StaysLow}
use Rattle.player.specs.Held.{ended_of}
use Rattle.player.specs.Called.{file_of, offset_of}
use Rattle.player.specs.Held.{as_fault, fault_file, fault_offset, part_at, answer_of, answer_by}
use Rattle.run_semantics.proofs.Never.{played_as_machine, weight_stays_low}

-- ---- the answer of a run

module _ (e : Ended) (o : Outcome) (is : e ≡ ended_of o) where
  pub answer_played : e.number ≡ 2 → record { number = e.number; place = 0; steps = e.tally.steps; weight = e.tally.weight; fault = InRun e.place } ≡ answer_by o
  answer_played z =
      let n : o.number ≡ 2 = sym (ap (λ (x : Ended). x.number) is) ∙ z in
      let f : eqb o.number 2 ≡ true = eq-eqb o.number 2 n in
      λ i. record { number = (is i).number; place = place_none f i; steps = (is i).tally.steps; weight = (is i).tally.weight; fault = InRun (is i).place }
    where
      place_none : eqb o.number 2 ≡ true → 0 ≡ cond (eqb o.number 2) 0 o.place
      place_none f = rw f

  pub answer_stopped : (e.number ≡ 2 → ⊥) → record { number = e.number; place = e.place; steps = e.tally.steps; weight = e.tally.weight; fault = InRun e.place } ≡ answer_by o
  answer_stopped z =
      let f : eqb o.number 2 ≡ false = ne_eqb o.number 2 (λ k. z (ap (λ (x : Ended). x.number) is ∙ k)) in
      λ i. record { number = (is i).number; place = (ap (λ (x : Ended). x.place) is ∙ place_is f) i; steps = (is i).tally.steps; weight = (is i).tally.weight; fault = InRun (is i).place }
    where
      place_is : eqb o.number 2 ≡ false → o.place ≡ cond (eqb o.number 2) 0 o.place
      place_is f = rw f

-- ---- the part

-- of the part that comes back
pub fault_file_lem : (x : Returned) → fault_file (as_fault x) ≡ file_of x
fault_file_lem (of_domain at) = refl
fault_file_lem (of_run at) = refl

pub fault_offset_lem : (x : Returned) → fault_offset (as_fault x) ≡ offset_of x
fault_offset_lem (of_domain at) = refl
fault_offset_lem (of_run at) = refl

pub fault_part : (d r : List ℕ) (x : Returned) → part_at d r (as_fault x) ≡ returned_bytes d r x
unfolding returned_bytes
fault_part d r (of_domain at) = refl
fault_part d r (of_run at) = refl

-- ---- the answer's parts

module _ (d r w : List ℕ) (a : PlayAnswer) (e : a ≡ answer_of (call d r w)) where
  pub number_is : a.number ≡ (played d r w).number
  unfolding played
  number_is = ap (λ (x : PlayAnswer). x.number) e

  pub place_is : a.place ≡ (played d r w).first
  unfolding played
  place_is = ap (λ (x : PlayAnswer). x.place) e

  pub steps_is : a.steps ≡ (played d r w).steps
  unfolding played
  steps_is = ap (λ (x : PlayAnswer). x.steps) e

  pub weight_is : a.weight ≡ (played d r w).weight
  unfolding played
  weight_is = ap (λ (x : PlayAnswer). x.weight) e

  pub file_is : fault_file a.fault ≡ file_of (returned d r w)
  unfolding returned
  file_is = ap (λ (x : PlayAnswer). fault_file x.fault) e ∙ fault_file_lem (call d r w).part

  pub offset_is : fault_offset a.fault ≡ offset_of (returned d r w)
  unfolding returned
  offset_is = ap (λ (x : PlayAnswer). fault_offset x.fault) e ∙ fault_offset_lem (call d r w).part

  pub part_is : (p : List ℕ) → p ≡ part_at d r a.fault → p ≡ returned_bytes d r (returned d r w)
  unfolding returned
  part_is p f = f ∙ ap (λ (x : PlayAnswer). part_at d r x.fault) e ∙ fault_part d r (call d r w).part

-- ---- the call is the machine's

-- with 2 the run ends with its file
whole_file_lem : (D : Domain) (r : List ℕ) (o : Outcome) → AsMachine D r o → cond (eqb o.number 2) (length r) (place_of o) ≡ o.place
whole_file_lem D r o m = go (eqb o.number 2) refl
  where
    go : (b : Bool) → eqb o.number 2 ≡ b → cond b (length r) (cond b 0 o.place) ≡ o.place
    go true q = sym (m.whole (eqb-true o.number 2 q))
    go false q = refl

pub as_machine : (d r w : List ℕ) (number place steps weight : ℕ) (memory : List ℕ) → number ≡ (played d r w).number → place ≡ (played d r w).first → steps ≡ (played d r w).steps → weight ≡ (played d r w).weight
    → memory ≡ work_after d r w → PlaysAsMachine d r w number place steps weight memory
unfolding played work_after call call_by outcome_call
as_machine d r w number place steps weight memory n p s h m D e l =
    let o = play_run D r in
    let f : call d r w ≡ outcome_call o w = ap (λ (x : Decoded). call_by x r w) e ∙ by_room in
    let a = played_as_machine d D e r in
    let n' : number ≡ o.number = n ∙ ap (λ (x : Call). x.answer.number) f in
    let p' : place ≡ place_of o = p ∙ ap (λ (x : Call). x.answer.first) f in
    let at : cond (eqb number 2) (length r) place ≡ o.place = ap₂ (λ (x y : ℕ). cond (eqb x 2) (length r) y) n' p' ∙ whole_file_lem D r o a in
    let fs : (final_of D (entries_before r (cond (eqb number 2) (length r) place))).facts ≡ o.facts = ap (λ (x : ℕ). (final_of D (entries_before r x)).facts) at ∙ sym a.facts in
    let gs : (final_of D (entries_before r (cond (eqb number 2) (length r) place))).running ≡ o.running
    = ap (λ (x : ℕ). (final_of D (entries_before r x)).running) at ∙ sym a.running in
    let b : begun_in (entries_up_to r (cond (eqb number 2) (length r) place)) ≡ o.begun
    = ap (λ (x : ℕ). begun_in (entries_up_to r x)) at ∙ sym a.begun in (
      same_outcome D r o a _ (λ i. record { number = n' i; place = at i; steps = (s ∙ ap (λ (x : Call). x.answer.steps) f) i; weight = (h ∙ ap (λ (x : Call). x.answer.weight) f) i; facts = fs i; running = gs i; begun = b i }),
      m ∙ ap (λ (x : Call). x.memory) f ∙ ap (λ (gs : List Fact). over (held_bytes gs) w) (sym fs),
    )
  where
    by_room : call_by (domain D) r w ≡ outcome_call (play_run D r) w
    by_room = rw (call_by, le-ltb (length w) work_bytes l)

    same_outcome : (D : Domain) (r : List ℕ) (o : Outcome) → AsMachine D r o → (x : Outcome) → x ≡ o → AsMachine D r x
    same_outcome D r o a x e = rw e a

-- of the weight answered: where the template is accepted and the start weighs at most 1, it is at most 1
pub stays_low : (d r w : List ℕ) (weight : ℕ) → weight ≡ (played d r w).weight → StaysLow d r weight
stays_low d r w weight e D q a h = let l = weight_stays_low d r w D q a h in omega arith
