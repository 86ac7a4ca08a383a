-- Demand 3 for the player: for an accepted template, no state reached weighs more than 1 where the start doesn't. Assumes nothing.
use mathlib.Core.Path.{◌≡◌, refl}
use mathlib.Core.Bool.{Bool, true, false, cond}
use mathlib.Core.List.{List}
use Prim.Native.Nat.{ℕ, ◌≤◌}
use native.Mathlib.Omega.{arith}
use lib.Dec.{ltb}
use lib.ListN.{length}
use borrow.Author.Tests.{eq-eqb}
use Rattle.records.specs.Lists.{In, all}
use Rattle.records.proofs.Lists.{and_r, and_i, all_in, all_weaken, dedup_in}
use Rattle.literals.specs.declared.Object.{Object}
use Rattle.literals.specs.Domain.{Fact, same_fact, Domain}
use Rattle.literals.specs.Decode.{Refusal, Decoded, refused, domain, decode}
use Rattle.verdict.specs.Judged.{decided, decided_file}
use Rattle.verdict.specs.Machine.{Event, State, legal_step, start_state, instances_in, run, top_weight}
use Rattle.verdict.specs.Claims.{among, is_event, has_arity, is_fact, well_formed, Chosen, Accepted}
use Rattle.verdict.proofs.Decodes.{decoded_well_formed}
use Rattle.verdict.proofs.Objects.{among_of, among_in}
use Rattle.verdict.proofs.Over.{Over, run_over, instance_over}
use Rattle.verdict.proofs.Safety.{safety}
use Rattle.run_semantics.specs.RunFile.{entries_up_to, start_facts_in, steps_in, begun_in}
use Rattle.run_semantics.specs.Play.{work_bytes, play_run, Played, of_run, Call, played_at, outcome_call, call_by, call, played}
use Rattle.run_semantics.specs.Claims.{objects_of, states_of, peak_of, AsMachine, PlayedAsMachine, played_entries, NeverAboveOne, WeightStaysLow}
use Rattle.run_semantics.proofs.Traced.{ended}
use Rattle.verdict.proofs.TopWeight.{largest_below, below_top, top_below, instance_size}

-- ---- demand 3, of the highest weight

-- facts over some objects have their arguments among them
pub among_facts : (D : Domain) (objs : List Object) (fs : List Fact) → all (is_fact D objs) fs ≡ true
    → all (λ (f : Fact). among objs f.args) fs ≡ true
among_facts D objs fs =
    all_weaken (is_fact D objs) (λ (f : Fact). among objs f.args) fs (λ f t. and_r (has_arity D f.rel f.args) _ t)

module _ (D : Domain) (wf : well_formed D ≡ true) (acc : Accepted (decided D)) (objs : List Object) (fs : List Fact)
    (ess : List (List Event))
    (hf : all (is_fact D objs) fs ≡ true) (hs : all (legal_step D) ess ≡ true) (he : all (all (is_event D objs)) ess ≡ true) where
  -- the facts of a state reached are over the run's objects, and so are the instances that match one
  reached_over : (s : State) → In s (run D objs (start_state fs) ess) → (f : Fact) → In f s.facts → Over objs f
  reached_over =
      run_over D wf objs (start_state fs) ess (λ es m e n. all_in (is_event D objs) es (all_in (all (is_event D objs)) ess he m) n)
      (λ f m. among_in objs f.args (all_in (λ (f : Fact). among objs f.args) fs (among_facts D objs fs hf) (dedup_in same_fact fs m)))

  chosen : (y : List Object) (s : State) → In s (run D objs (start_state fs) ess) → In y (instances_in D s.facts) → Chosen D objs fs y ess
  chosen y s k m =
      record {
        facts_over = among_facts D objs fs hf;
        instance =
            and_i (eq-eqb _ _ (instance_size D wf s.facts y m))
            (among_of objs y (instance_over D objs s.facts y (reached_over s k) m));
        steps_legal = hs;
        events = he;
      }

  -- where the start weights are at most one, so are those of every state reached
  stays_low : top_weight D (start_state fs).facts ≤ 1 → (s : State) → In s (run D objs (start_state fs) ess) → top_weight D s.facts ≤ 1
  stays_low t s m =
      top_below D s.facts 1
      (λ y k. safety D wf acc objs fs y ess (chosen y s m k) (let b = below_top D (start_state fs).facts y in omega arith) s m)

-- every run is played exactly as the machine plays it
pub played_as_machine : PlayedAsMachine
played_as_machine d D e r = ended D r

-- ---- of the answer

-- a refused file, too little work memory, or the outcome
answers : (P : Played → Type 0) (d r w : List ℕ) → ((f : Refusal) → decode d ≡ refused f → P (played_at f.number f.place 0 0)) → P (played_at 58 0 0 0)
    → ((D : Domain) → decode d ≡ domain D → P (outcome_call (play_run D r) w).answer) → P (played d r w)
unfolding played call call_by
answers P d r w x y z = by (decode d) refl
  where
    of : (D : Domain) → decode d ≡ domain D → (b : Bool)
        → P (elim b as (λ _. Call) [ true ↦ record { answer = played_at 58 0 0 0; memory = w; part = of_run (length r) } | false ↦ outcome_call (play_run D r) w ]).answer
    of D e true = y
    of D e false = z D e

    by : (c : Decoded) → decode d ≡ c → P (call_by c r w).answer
    by (refused f) e = x f e
    by (domain D) e = of D e (ltb (length w) work_bytes)

pub never_above_one : NeverAboveOne
unfolding decided_file
never_above_one d D e acc r h =
    stays_low D (decoded_well_formed d D e) (rw e at acc) (objects_of (played_entries D r)) (start_facts_in (played_entries D r))
    (steps_in (played_entries D r)) told.facts_legal told.steps_legal told.events_legal h
  where
    told : AsMachine D r (play_run D r)
    told = played_as_machine d D e r

pub weight_stays_low : WeightStaysLow
unfolding outcome_call
weight_stays_low d r w D e acc h =
    answers (λ a. a.weight ≤ 1) d r w (λ f _. omega arith) (omega arith)
    (λ C c. let z : C ≡ D = cc in rw z (low (begun_in (entries_up_to r (play_run D r).place)) (played_as_machine d D e r).weight))
  where
    peak_low : peak_of D (played_entries D r) ≤ 1
    peak_low = largest_below (λ (s : State). top_weight D s.facts) 1 (states_of D (played_entries D r)) (never_above_one d D e acc r h)

    low : (b : Bool) → (play_run D r).weight ≡ cond b (peak_of D (played_entries D r)) 0 → (play_run D r).weight ≤ 1
    low true q = let k = peak_low in omega arith
    low false q = omega arith
