-- What stands beside the facts after a record: their index, and what is noted of the open entries. Assumes nothing.
use Prim.{tt}
use mathlib.Core.Path.{◌≡◌, refl, sym, ap, ◌∙◌}
use mathlib.Core.Bool.{Bool, true, false, cond}
use mathlib.Core.List.Memᴰ
use mathlib.Core.List.{List, [], ◌∷◌, ◌++◌, map, map-append}
use Prim.Native.Nat.{ℕ, ◌≤◌}
use native.Mathlib.Omega.{arith}
use lib.Dec.{eqb}
use lib.ListN.{length, get_or, set, replicate, length-replicate, get_or-replicate}
use borrow.Author.Tests.{eqb-true, ne_eqb}
use Rattle.records.specs.Lists.{elem}
use Rattle.literals.specs.declared.Object.{Object}
use Rattle.literals.specs.Domain.{Fact, same_fact, Domain}
use Rattle.literals.specs.Decode.{byte}
use Rattle.literals.specs.Held.{arity_in, HeadOf}
use Rattle.verdict.specs.Machine.{Event, State, next, top_weight}
use Rattle.verdict.specs.Held.{fact_row}
use Rattle.store.specs.Held.{note_at, fact_index, total_at, Indexed}
use Rattle.run_semantics.specs.RunFile.{RunKind, objects_record, fact_record, event_record, step_record, end_record, other_record}
use Rattle.run_semantics.specs.RunFile.{fact_of, event_of, max_facts, objects_stop, fact_stop, event_stop, step_stop, end_stop}
use Rattle.run_semantics.specs.Play.{Playing, PlayTurn, go_on, finish, stop_at, unless, begin, with_objects, with_fact, with_event, with_close}
use Rattle.run_semantics.specs.Play.{before_run, run_objects, too_large, forbidden, after_step, close_step, play_record}
use Rattle.run_semantics.specs.declared.Stop.{Stop}
use Rattle.run_semantics.specs.Numbers.{stop_number}
use Rattle.run_semantics.proofs.Numbers.{numbered_stop}
use Rattle.machine.specs.Held.{Noted, close_stop, close_state}
use Rattle.machine.proofs.Resting.{indexed_set, noted_anew, unset}
use Rattle.player.specs.Held.{WholeTurn as Turn, Sound, PlayLeadsTo, NotedAfter}
use Rattle.player.proofs.Sound.{objects_taken, fact_taken}

module _ (D : Domain) (head index : List ℕ) where
  -- where a record ends the run, nothing is asked
  pub noted_ended : (t : PlayTurn) (turn : Turn) (work old : List ℕ) → PlayLeadsTo t turn work old → (turn.number ≡ 0 → ⊥) → NotedAfter D head index t
  noted_ended (go_on q) turn work old l z = absurd (z l.number)
  noted_ended (finish o) turn work old l z = tt

  pub noted_unless : (n : ℕ) (q : Playing) (t : PlayTurn) → NotedAfter D head index t → NotedAfter D head index (unless n q t)
  noted_unless n q t h = go (eqb n 0)
    where
      go : (b : Bool) → NotedAfter D head index (cond b t (stop_at n q))
      go true = h
      go false = tt

  pub noted_stopped : (q : Playing) (stop : Stop) (n : ℕ) (t : PlayTurn) → stop_number stop ≡ n → NotedAfter D head index (unless n q t)
  noted_stopped q stop n t e = let f : eqb n 0 ≡ false = ne_eqb n 0 (λ k. numbered_stop stop (e ∙ k)) in rw f tt

  -- the step's close
  module _ (q : Playing) (behind : ℕ) where
    abbrev objs : List Object
    objs = run_objects q

    abbrev s : State
    s = q.state

    abbrev es : List Event
    es = q.waiting

    pub noted_closed : (number : ℕ) → number ≡ close_stop D objs s es → (number ≡ 0 → Noted D objs head index (close_state D objs s es)) → NotedAfter D head index (close_step D q behind)
    unfolding close_step close_stop close_state
    noted_closed number e h = go (eqb (forbidden D objs s es) 0) (too_large (next D objs s es)) e h
      where
        go : (b c : Bool) → number ≡ cond b (cond c 52 0) (forbidden D objs s es) → (number ≡ 0 → Noted D objs head index (cond (eqb (cond b (cond c 52 0) (forbidden D objs s es)) 0) (next D objs s es) s))
            → NotedAfter D head index (cond b (cond c (stop_at 52 q) (after_step q (next D objs s es) (top_weight D (next D objs s es).facts) behind)) (stop_at (forbidden D objs s es) q))
        go true true k n = tt
        go true false k n = n k
        go false c k n = tt

-- ---- records by their kind

module _ (D : Domain) (head index : List ℕ) (q : Playing) where
  pub noted_begun : Noted D (run_objects q) head index q.state → Noted D (run_objects (begin D q)) head index (begin D q).state
  unfolding begin
  noted_begun h = h

  module _ (b : List ℕ) (behind : ℕ) where
    pub noted_of : (k kind : RunKind) → k ≡ kind → NotedAfter D head index (play_record D q kind b behind) → NotedAfter D head index (play_record D q k b behind)
    noted_of k kind e h = rw e h

    -- nothing is open before there are objects, so that nothing is asked of it
    pub noted_objects : Sound D q → Noted D (run_objects q) head index q.state → NotedAfter D head index (play_record D q objects_record b behind)
    unfolding play_record
    noted_objects S h = go (eqb (objects_stop q.objects b) 0) refl
      where
        go : (t : Bool) → eqb (objects_stop q.objects b) 0 ≡ t
            → NotedAfter D head index (cond t (go_on (with_objects q (byte b 0) behind)) (stop_at (objects_stop q.objects b) q))
        go true e =
            let none = S.idle (objects_taken q b (eqb-true (objects_stop q.objects b) 0 e)).none in
            record { indexed = h.indexed; settled = λ z. rw none }
        go false e = tt

    pub noted_fact_record : NotedAfter D head index (unless (fact_stop D q.objects q.tally.begun q.state.facts b) q (go_on (with_fact q (fact_of b) behind))) → NotedAfter D head index (play_record D q fact_record b behind)
    unfolding play_record
    noted_fact_record h = h

    pub noted_event : Noted D (run_objects q) head index q.state → NotedAfter D head index (play_record D q event_record b behind)
    unfolding play_record begin
    noted_event h = noted_unless D head index (event_stop D q.objects q.waiting b) (begin D q) (go_on (with_event (begin D q) (event_of b) behind)) h

    pub noted_step_record : NotedAfter D head index (close_step D (begin D q) behind) → NotedAfter D head index (play_record D q step_record b behind)
    unfolding play_record begin
    noted_step_record h = noted_unless D head index (step_stop q.objects b) (begin D q) (close_step D (begin D q) behind) h

    pub noted_end : Noted D (run_objects q) head index q.state → NotedAfter D head index (play_record D q end_record b behind)
    unfolding play_record begin
    noted_end h = noted_unless D head index (end_stop q.objects q.waiting b) (begin D q) (go_on (with_close (begin D q) behind)) h

    pub noted_other : NotedAfter D head index (play_record D q other_record b behind)
    unfolding play_record
    noted_other = tt

-- ---- a start fact

-- its row has the arity of its relation
pub fact_sized : (D : Domain) (head : List ℕ) → HeadOf D head → (q : Playing) (b : List ℕ) → length q.state.facts ≤ max_facts
    → fact_stop D q.objects q.tally.begun q.state.facts b ≡ 0 → (row : List ℕ) → row ≡ fact_row (fact_of b) → byte row 1 ≡ arity_in head (byte row 0)
fact_sized D head H q b few z row e =
    ap (λ (x : List ℕ). byte x 1) e
    ∙ (fact_taken D q b few z).fits.sized
    ∙ sym (H.arities (fact_of b).rel)
    ∙ ap (λ (x : List ℕ). arity_in head (byte x 0)) (sym e)

module _ (D : Domain) (head : List ℕ) (q : Playing) (f : Fact) (behind : ℕ) where
  -- held already
  pub noted_again : (index : List ℕ) → elem same_fact f q.state.facts ≡ true → Noted D (run_objects q) head index q.state → NotedAfter D head index (go_on (with_fact q f behind))
  noted_again index e h = rw e h

  -- new: nothing is noted of the open entries any more
  pub noted_fact : (index : List ℕ) → elem same_fact f q.state.facts ≡ false → Indexed head index (map fact_row q.state.facts ++ (fact_row f ∷ []))
      → NotedAfter D head (set index note_at 0) (go_on (with_fact q f behind))
  noted_fact index e h =
      let m : map fact_row (q.state.facts ++ (f ∷ [])) ≡ map fact_row q.state.facts ++ (fact_row f ∷ []) = map-append fact_row q.state.facts (f ∷ []) in
      let g : Indexed head index (map fact_row (q.state.facts ++ (f ∷ []))) = rw m h in
      rw e (noted_anew head D (set index note_at 0) (record { facts = q.state.facts ++ (f ∷ []); running = q.state.running })
      (indexed_set head index 0 (map fact_row (q.state.facts ++ (f ∷ []))) g) (unset index h.numbers))

-- ---- before the run

pub noted_none : (D : Domain) (head index : List ℕ) → index ≡ replicate fact_index 0 → Noted D (run_objects before_run) head index before_run.state
unfolding total_at
noted_none D head index e =
    record {
      indexed = record { numbers = ap length e ∙ length-replicate {A = ℕ} fact_index 0; totals = λ place l. ap (λ (t : List ℕ). get_or t place 0) e ∙ get_or-replicate fact_index place 0 0 (omega arith); sized = λ row m. absurd (Memᴰ.not-nil m) };
      settled = λ z. refl;
    }
