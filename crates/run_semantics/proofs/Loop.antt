-- Playing goes record by record, each at least 4 bytes further on, so the fuel is never used up. Assumes nothing.
use mathlib.Core.Path.{◌≡◌, refl, sym, ◌∙◌}
use mathlib.Core.Bool.{Bool, true, false, cond}
use mathlib.Core.List.{List}
use Prim.Native.Nat.{ℕ, zero, suc, ◌+◌, ◌≤◌, ◌<◌}
use native.Mathlib.Nat.{add-suc}
use native.Mathlib.Omega.{arith}
use lib.Dec.{eqb, ltb}
use lib.ListN.{length}
use Rattle.records.specs.declared.Record.{Record}
use Rattle.records.specs.declared.Record.TheVariants.{Whole, Cut, End}
use Rattle.records.specs.Record.{record_at, payload}
use Rattle.records.proofs.Laws.{whole_within}
use Rattle.literals.specs.Domain.{Domain}
use Rattle.literals.specs.Decode.{byte}
use Rattle.verdict.specs.Machine.{State, next, top_weight}
use Rattle.run_semantics.specs.RunFile.{RunKind, objects_record, fact_record, event_record, step_record, end_record, other_record, run_kind_of, fact_of, event_of, objects_stop, fact_stop, event_stop, step_stop, end_stop}
use Rattle.run_semantics.specs.Play.{Playing, before_run, Outcome, PlayTurn, go_on, finish, stop_at, begin, with_objects, with_fact, with_event}
use Rattle.run_semantics.specs.Play.{run_objects, forbidden, too_large, after_step, close_step, with_close, play_record, play_found, play_step}
use Rattle.run_semantics.specs.Play.{play_from}

-- ---- one turn of the loop

pub play_more : (fuel : ℕ) (D : Domain) (r : List ℕ) (p q : Playing) → play_step D r p ≡ go_on q → play_from (suc fuel) D r p ≡ play_from fuel D r q
unfolding play_from
play_more fuel D r p q e = rw (e, play_from)

pub play_done : (fuel : ℕ) (D : Domain) (r : List ℕ) (p : Playing) (o : Outcome) → play_step D r p ≡ finish o → play_from (suc fuel) D r p ≡ o
unfolding play_from
play_done fuel D r p o e = rw (e, play_from)

-- ---- a turn that goes on, goes on at an offset

abbrev At : ℕ → PlayTurn → Type 0
At n (go_on q) = q.at ≡ n
At n (finish o) = Unit {0}

at_cond : (n : ℕ) (b : Bool) (t u : PlayTurn) → At n t → At n u → At n (cond b t u)
at_cond n true t u h k = h
at_cond n false t u h k = k

at_close : (D : Domain) (p : Playing) (behind : ℕ) → At behind (close_step D p behind)
unfolding close_step
at_close D p behind =
    at_cond behind (eqb (forbidden D (run_objects p) p.state p.waiting) 0)
    (cond (too_large after) (stop_at 52 p) (after_step p after top behind)) (stop_at (forbidden D (run_objects p) p.state p.waiting) p)
    (at_cond behind (too_large after) (stop_at 52 p) (after_step p after top behind) tt refl)
    tt
  where
    after : State
    after = next D (run_objects p) p.state p.waiting

    top : ℕ
    top = top_weight D after.facts

at_record_lem : (D : Domain) (p : Playing) (k : RunKind) (b : List ℕ) (behind : ℕ) → At behind (play_record D p k b behind)
unfolding play_record
at_record_lem D p objects_record b behind = at_cond behind (eqb (objects_stop p.objects b) 0) (go_on (with_objects p (byte b 0) behind)) (stop_at (objects_stop p.objects b) p) refl tt
at_record_lem D p fact_record b behind = at_cond behind (eqb (fact_stop D p.objects p.tally.begun p.state.facts b) 0) (go_on (with_fact p (fact_of b) behind)) (stop_at (fact_stop D p.objects p.tally.begun p.state.facts b) p) refl tt
at_record_lem D p event_record b behind = let q = begin D p in at_cond behind (eqb (event_stop D p.objects p.waiting b) 0) (go_on (with_event q (event_of b) behind)) (stop_at (event_stop D p.objects p.waiting b) q) refl tt
at_record_lem D p step_record b behind = let q = begin D p in at_cond behind (eqb (step_stop p.objects b) 0) (close_step D q behind) (stop_at (step_stop p.objects b) q) (at_close D q behind) tt
at_record_lem D p end_record b behind = let q = begin D p in at_cond behind (eqb (end_stop p.objects p.waiting b) 0) (go_on (with_close q behind)) (stop_at (end_stop p.objects p.waiting b) q) refl tt
at_record_lem D p other_record b behind = tt

-- ---- where a turn goes on: at least 4 bytes further, within the file

abbrev Further : Playing → List ℕ → PlayTurn → Type 0
Further p r (go_on q) = (p.at + 4 ≤ q.at) × (q.at ≤ length r)
Further p r (finish o) = Unit {0}

further : (D : Domain) (r : List ℕ) (p : Playing) → Further p r (play_step D r p)
unfolding play_step play_found
further D r p = go p.closed (ltb p.at (length r)) (record_at r p.at) refl
  where
    moved : (t : PlayTurn) (behind : ℕ) → At behind t → p.at + 4 ≤ behind → behind ≤ length r → Further p r t
    moved (go_on q) behind e h k = (omega arith, omega arith)
    moved (finish o) behind e h k = tt

    go : (b c : Bool) (f : Record) → record_at r p.at ≡ f → Further p r (cond b (cond c (stop_at 50 p) (stop_at 2 p)) (play_found D r p f))
    go true true f e = tt
    go true false f e = tt
    go false c (Whole k start len) e =
        let w = whole_within r p.at e in
        moved (play_record D p (run_kind_of k) (payload r start len) (start + len)) (start + len) (at_record_lem D p (run_kind_of k) (payload r start len) (start + len)) (omega arith) (omega arith)
    go false c Cut e = tt
    go false c End e = tt

pub play_at : (D : Domain) (r : List ℕ) (p q : Playing) → play_step D r p ≡ go_on q → (p.at + 4 ≤ q.at) × (q.at ≤ length r)
play_at D r p q e = rw e at (further D r p)

-- ---- fuel

-- from any offset within the file: fuel above the number of bytes left is never used up
pub more_fuel_from : (k fuel : ℕ) (D : Domain) (r : List ℕ) (p : Playing) → p.at ≤ length r → length r < p.at + fuel → play_from (k + fuel) D r p ≡ play_from fuel D r p
more_fuel_from k zero D r p h l = absurd (omega arith)
more_fuel_from k (suc fuel) D r p h l = rw add-suc (go (λ q. more_fuel_from k fuel D r q) (play_step D r p) refl)
  where
    go : ((q : Playing) → q.at ≤ length r → length r < q.at + fuel → play_from (k + fuel) D r q ≡ play_from fuel D r q)
        → (t : PlayTurn) → play_step D r p ≡ t → play_from (suc (k + fuel)) D r p ≡ play_from (suc fuel) D r p
    go ih (go_on q) e =
        let f = play_at D r p q e in
        play_more (k + fuel) D r p q e ∙ ih q f.1 (omega arith) ∙ sym (play_more fuel D r p q e)
    go ih (finish o) e = play_done (k + fuel) D r p o e ∙ sym (play_done fuel D r p o e)

-- more fuel than `play_run` takes changes nothing: the fuel is a device and nothing else
pub more_fuel : (k : ℕ) (D : Domain) (r : List ℕ) → play_from (k + suc (length r)) D r before_run ≡ play_from (suc (length r)) D r before_run
more_fuel k D r = more_fuel_from k (suc (length r)) D r before_run (omega arith) (omega arith)
