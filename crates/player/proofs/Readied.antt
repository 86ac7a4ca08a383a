-- A domain that is held, and a player that stands in its run, give the code all that it relies on. Assumes nothing.
use mathlib.Core.Path.{◌≡◌, ap, ◌∙◌}
use mathlib.Core.List.{List}
use Prim.Native.Nat.{ℕ, ◌*◌, ◌≤◌}
use native.Mathlib.Omega.{arith}
use lib.ListN.{length}
use Rattle.records.proofs.Memory.{length_over}
use Rattle.literals.specs.Domain.{Domain}
use Rattle.literals.specs.Held.{Bounded, HeadOf}
use Rattle.run_semantics.specs.RunFile.{max_facts}
use Rattle.run_semantics.specs.Play.{work_bytes, Playing, begin, run_objects, held_bytes}
use Rattle.events.specs.Held.{open_of, waiting_of}
use Rattle.machine.specs.Held.{StateRows, Closable, Noted}
use Rattle.player.specs.Held.{Whole as Player, player_of, Stands, Playable}
use Rattle.machine.proofs.HeldBytes.{fits_few, length_held, state_once}
use Rattle.player.proofs.Sound.{sound_begin}
use Rattle.player.proofs.PlayTurns.{state_is, waiting_are}

-- the work memory has its length
pub work_length : {D : Domain} (B : Bounded D) {q : Playing} {player : Player} {work old : List ℕ} → Stands D q player work old → work_bytes ≤ length old → length work ≡ length old
work_length {D} B {q} {player} {work} {old} st l =
    let k = st.sound.kept in
    let n = length_held q.state.facts (fits_few B q.state.facts k.facts) k.facts_few in
    ap length st.memory ∙ length_over (held_bytes q.state.facts) old (omega arith)

-- ---- what playing a record relies on

module _ {head : List ℕ} {player : Player} {work index : List ℕ} (P : Playable head player work index) where
  abbrev bounded : Bounded P.said
  bounded = P.says.bounded

  pub room_now : work_bytes ≤ length work
  room_now = let e = work_length bounded P.stands P.room in let r = P.room in omega arith

  pub facts_held : player.state.facts ≤ max_facts
  facts_held = let e = ap (λ (h : StateRows). h.facts) (state_is P.said P.reached P.stands) in let k = P.stands.sound.kept.facts_few in omega arith

  pub facts_room : 8 * player.state.facts ≤ length work
  facts_room = let f = facts_held in let r = room_now in omega arith

  -- of the player once the start counts
  module _ (begun : Player)
      (is : (D : Domain) (p : Playing) (old : List ℕ) → HeadOf D head → Stands D p player work old → Noted D (run_objects p) head index p.state → begun ≡ player_of (begin D p)) where
    -- it stands there, for every domain that is held
    pub stands_begun : (D : Domain) → HeadOf D head → (q : Playing) (old : List ℕ) → Stands D q player work old → Noted D (run_objects q) head index q.state → Stands D (begin D q) begun work old
    unfolding begin
    stands_begun D H q old st noted =
        record {
          is = is D q old H st noted;
          memory = st.memory;
          sound = sound_begin D q st.sound;
        }

    abbrev here : Stands P.said (begin P.said P.reached) begun work P.old
    here = stands_begun P.said P.says P.reached P.old P.stands P.noted

    pub waits_few : begun.state.waiting.count ≤ 16
    waits_few =
        let w = waiting_are P.said (begin P.said P.reached) here in
        let k = here.sound.kept.waiting_few in
        omega arith

    pub step_shape : Closable begun.state.facts work × (begun.tally.steps ≤ begun.at) × (begun.at ≡ player.at)
    unfolding player_of begin open_of waiting_of
    step_shape =
        let a : begun.at ≡ P.reached.at = ap (λ (x : Player). x.at) here.is in
        let b : player.at ≡ P.reached.at = ap (λ (x : Player). x.at) P.stands.is in
        let s : begun.tally.steps ≡ (begin P.said P.reached).tally.steps = ap (λ (x : Player). x.tally.steps) here.is in
        let f : begun.state.facts ≡ length P.reached.state.facts = ap (λ (x : Player). x.state.facts) here.is in
        let k = here.sound.steps in
        let n = here.sound.kept.facts_few in (
          record {
            facts_few = omega arith;
            facts_once = state_once P.said bounded P.reached.state P.reached.waiting here.sound.kept begun.state (state_is P.said (begin P.said P.reached) here) work P.old P.stands.memory;
            room = room_now;
          },
          omega arith,
          omega arith,
        )
