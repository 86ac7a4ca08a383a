-- The loop over a run file: where it stands, and that it ends as the definition does. Assumes nothing.
use mathlib.Core.Path.{◌≡◌, refl, sym, ap, ◌∙◌}
use mathlib.Core.List.{List, [], ◌++◌}
use Prim.Native.Nat.{ℕ, zero, suc, ◌+◌, ◌-◌, ◌≤◌, ◌<◌}
use native.Mathlib.Omega.{arith}
use lib.ListN.{length, drop, replicate, length-replicate}
use lib.Seq.{paste, drop_at}
use Rattle.records.specs.Memory.{over}
use Rattle.records.proofs.Memory.{paste_front}
use Rattle.literals.specs.Domain.{Domain}
use Rattle.literals.specs.Held.{Bounded, Read}
use Rattle.verdict.specs.Judged.{fact_bytes}
use Rattle.store.specs.Held.{fact_index}
use Rattle.run_semantics.specs.Play.{work_bytes, Playing, before_run, Outcome, PlayTurn, go_on, finish, run_objects, held_bytes, play_step}
use Rattle.run_semantics.specs.Play.{play_from, play_run}
use Rattle.events.specs.Held.{open_of}
use Rattle.machine.specs.Held.{Noted}
use Rattle.player.specs.declared.run.Ended.{Ended}
use Rattle.player.specs.Held.{Whole as Player, WholeTurn as Turn, player_of, Stands, PlayLeadsTo, NotedAfter, Playable, ended_of}
use Rattle.run_semantics.proofs.Loop.{play_more, play_done, play_at}
use Rattle.player.proofs.Sound.{sound_on, sound_new}
use Rattle.player.proofs.PlayTurns.{at_is}
use Rattle.player.proofs.NotedTurns.{noted_none}

-- where the loop stands: it has played a part of the file as `play_run` does, and the fuel that is left suffices
pub record Loop (D : Domain) (head r old : List ℕ) (player : Player) (work index : List ℕ) : Type 0 where
  pub reached : Playing
  pub stands : Stands D reached player work old
  pub within : reached.at ≤ length r
  pub left : ℕ
  pub enough : length r < reached.at + left
  pub same : play_from left D r reached ≡ play_run D r
  pub noted : Noted D (run_objects reached) head index reached.state

-- before the first record no fact is held
pub begins : (D : Domain) (head r old work index : List ℕ) (player : Player) → player ≡ player_of before_run → work ≡ over (held_bytes []) old → index ≡ replicate fact_index 0
    → Loop D head r old player work index
unfolding play_run
begins D head r old work index player is e z =
    record {
      reached = before_run;
      stands = record { is = is; memory = e; sound = sound_new D };
      within = omega arith;
      left = suc (length r);
      enough = omega arith;
      same = refl;
      noted = noted_none D head index z;
    }

-- the first bytes overwritten again
over_again : (new old : List ℕ) → over new (over new old) ≡ over new old
unfolding over
over_again new old = ap (λ (t : List ℕ). new ++ t) (drop_at new (drop (length new) old) (length new) refl)

held_none : replicate 8192 0 ≡ held_bytes []
unfolding held_bytes fact_bytes
held_none = refl

pub cleared : (old work : List ℕ) → work ≡ paste old 0 (replicate 8192 0) 8192 → work ≡ over (held_bytes []) old
cleared old work e = e ∙ paste_front (replicate 8192 0) old 8192 (sym (length-replicate {A = ℕ} 8192 0)) ∙ ap (λ (z : List ℕ). over z old) held_none

pub cleared_again : (old work : List ℕ) → work ≡ over (held_bytes []) old → work ≡ over (held_bytes []) work
cleared_again old work e = e ∙ sym (over_again (held_bytes []) old) ∙ ap (over (held_bytes [])) (sym e)

-- the fuel is not used up
fuel_left : {D : Domain} {head r old : List ℕ} {player : Player} {work index : List ℕ} (i : Loop D head r old player work index) → (f : ℕ) × (i.left ≡ suc f)
fuel_left i = go i.left refl
  where
    go : (n : ℕ) → i.left ≡ n → (f : ℕ) × (i.left ≡ suc f)
    go zero e = let a = i.enough in let b = i.within in absurd (omega arith)
    go (suc f) e = (f, e)

-- one turn, from what `step` ensures
module _ (D : Domain) (B : Bounded D) {head : List ℕ} (r old : List ℕ) (player : Player) (work : List ℕ) {index : List ℕ} (i : Loop D head r old player work index) (t : Turn) (work' index' : List ℕ)
    (step : (q : Playing) (old : List ℕ) → Stands D q player work old → Noted D (run_objects q) head index q.state → PlayLeadsTo (play_step D r q) t work' old)
    (notes : (q : Playing) (old : List ℕ) → Stands D q player work old → Noted D (run_objects q) head index q.state → NotedAfter D head index' (play_step D r q)) where
  record Turned : Type 0 where
    next : Loop D head r old t.player work' index'
    further : player.at < t.player.at
    inside : t.player.at ≤ length r

  turned : t.number ≡ 0 → Turned
  turned z = go (play_step D r i.reached) refl (step i.reached old i.stands i.noted) (notes i.reached old i.stands i.noted)
    where
      q : Playing
      q = i.reached

      go : (u : PlayTurn) → play_step D r q ≡ u → PlayLeadsTo u t work' old → NotedAfter D head index' u → Turned
      go (go_on n) e h m =
          let g = play_at D r q n e in
          let f = fuel_left i in
          let s : Stands D n t.player work' old = record { is = h.is; memory = h.memory; sound = sound_on D B r q n i.stands.sound e } in
          let a = at_is D r q player work old i.stands in
          let b = at_is D r n t.player work' old s in
          let l = i.enough in
          let k = f.1 in
          record {
            next =
                record {
                  reached = n;
                  stands = s;
                  within = g.1;
                  left = f.0;
                  enough = omega arith;
                  same = sym (play_more f.0 D r q n e) ∙ ap (λ (m : ℕ). play_from m D r q) (sym f.1) ∙ i.same;
                  noted = m;
                };
            further = omega arith;
            inside = omega arith;
          }
      go (finish o) e h m = absurd (h.some (sym h.number ∙ z))

  pub loop_on : t.number ≡ 0 → Loop D head r old t.player work' index'
  loop_on z = (turned z).next

  pub loop_falls : t.number ≡ 0 → length r - t.player.at < length r - player.at
  loop_falls z = let f = (turned z).further in let n = (turned z).inside in omega arith

  pub loop_ends : (t.number ≡ 0 → ⊥) → (ended : Ended)
      → ended ≡ record {
        number = t.number;
        place = t.player.at;
        begun = t.player.tally.begun;
        tally = record { steps = t.player.tally.steps; weight = t.player.tally.weight };
        facts = t.player.state.facts;
        opened = t.player.state.running.count;
      }
      → (ended ≡ ended_of (play_run D r)) × (work' ≡ over (held_bytes (play_run D r).facts) old)
      × (t.player.state.running ≡ open_of (play_run D r).running)
  unfolding open_of
  loop_ends z ended is = go (play_step D r i.reached) refl (step i.reached old i.stands i.noted)
    where
      q : Playing
      q = i.reached

      go : (u : PlayTurn) → play_step D r q ≡ u → PlayLeadsTo u t work' old
          → (ended ≡ ended_of (play_run D r)) × (work' ≡ over (held_bytes (play_run D r).facts) old)
          × (t.player.state.running ≡ open_of (play_run D r).running)
      go (go_on n) e h = absurd (z h.number)
      go (finish o) e h =
          let f = fuel_left i in
          let p : o ≡ play_run D r = sym (play_done f.0 D r q o e) ∙ ap (λ (m : ℕ). play_from m D r q) (sym f.1) ∙ i.same in
          let k : ended ≡ ended_of o = is ∙ (λ j.
          record {
            number = h.number j;
            place = h.place j;
            begun = (h.tally j).begun;
            tally = record { steps = (h.tally j).steps; weight = (h.tally j).weight };
            facts = h.facts j;
            opened = (h.running j).count;
          }) in
          (k ∙ ap ended_of p, h.memory ∙ ap (λ (x : Outcome). over (held_bytes x.facts) old) p, h.running ∙ ap (λ (x : Outcome). open_of x.running) p)

-- what a turn relies on
pub playable : {head table old : List ℕ} (R : Read head table) → work_bytes ≤ length old → (r : List ℕ) (player : Player) (work index : List ℕ)
    → Loop R.0 head r old player work index → Playable head player work index
playable {old = old} R l r player work index i =
    record {
      said = R.0;
      reached = i.reached;
      old = old;
      says = R.1.says;
      stands = i.stands;
      room = l;
      noted = i.noted;
    }
