-- `Player::take_fact` meets its contract: refused, held already, or new. Assumes nothing.
use borrow.Author.Rules.{rules}
use mathlib.Core.Path.{◌≡◌, refl, sym, ◌∙◌}
use mathlib.Core.List.{map}
use Prim.Native.Nat.{◌+◌}
use native.Mathlib.Omega.{arith}
use lib.ListN.{length, take, drop}
use lib.Seq.{take_all}
use Rattle.verdict.specs.Held.{fact_row}
use Rattle.run_semantics.specs.RunFile.{fact_of, fact_stop}
use Rattle.run_semantics.specs.Play.{go_on, with_fact}
use Rattle.run_fields.proofs.RunFields.{fact_found}
use Rattle.player.specs.Held.{whole_in}
use Rattle.player.proofs.PlayTurns.{gone_on, stopped_unless, passes, facts_rows, fact_asked, fact_again, fact_room, fact_new}
use Rattle.player.proofs.NotedTurns.{noted_stopped, noted_unless, fact_sized, noted_again, noted_fact}
use Rattle.player.proofs.Player.take_fact.Goals as goal

pub returns-in-Err : goal.returns-in-Err
returns-in-Err c =
    let a = c.args in
    let e = c.in-Err in record {
      leads = λ D q agenda old H st noted.
          stopped_unless D q a.self agenda a.work.now old st c.stopped.result e.stop c.stopped.ensures
          (fact_stop D q.objects q.tally.begun q.state.facts a.p.now) (go_on (with_fact q (fact_of a.p.now) a.behind))
          (fact_asked D H.bounded q (whole_in a.self agenda) a.work.now old st a.p.now a.behind _ (λ fs. e.ensures.is D fs H));
      noted = λ D q agenda old H st noted.
          noted_stopped D a.head.now a.index.now q e.stop
          (fact_stop D q.objects q.tally.begun q.state.facts a.p.now) (go_on (with_fact q (fact_of a.p.now) a.behind))
          (fact_asked D H.bounded q (whole_in a.self agenda) a.work.now old st a.p.now a.behind _ (λ fs. e.ensures.is D fs H));
    }

pub returns-then-is_held : goal.returns-then-is_held
returns-then-is_held c =
    let a = c.args in
    let row = c.fact_row-row in
    let found = c.is_held in record {
      leads = λ D q agenda old H st noted.
          let player = whole_in a.self agenda in
          let rows = facts_rows D q player a.work.now old st H.bounded in
          let zero = sym (fact_asked D H.bounded q player a.work.now old st a.p.now a.behind 0 (λ fs. c.in_default.ensures.is D fs H)) in
          let sized = fact_sized D a.head.now H q a.p.now st.sound.kept.facts_few zero row.result row.ensures in
          let is = found.ensures a.head.now (rw rows noted.indexed) sized in
          passes D q (fact_stop D q.objects q.tally.begun q.state.facts a.p.now) (go_on (with_fact q (fact_of a.p.now) a.behind)) _ a.work.now old zero
          (fact_again D H.bounded q player a.work.now old st a.p.now a.behind zero row.result row.ensures
          found.result is c.if-is_held.true (whole_in c.onward.result agenda)
          (gone_on a.self c.onward.result a.behind a.self.state.facts a.self.state.waits agenda c.onward.ensures));
      noted = λ D q agenda old H st noted.
          let player = whole_in a.self agenda in
          let rows = facts_rows D q player a.work.now old st H.bounded in
          let zero = sym (fact_asked D H.bounded q player a.work.now old st a.p.now a.behind 0 (λ fs. c.in_default.ensures.is D fs H)) in
          let sized = fact_sized D a.head.now H q a.p.now st.sound.kept.facts_few zero row.result row.ensures in
          let is = found.ensures a.head.now (rw rows noted.indexed) sized in
          noted_unless D _ _ (fact_stop D q.objects q.tally.begun q.state.facts a.p.now) q (go_on (with_fact q (fact_of a.p.now) a.behind))
          (noted_again D _ q (fact_of a.p.now) a.behind _
          (fact_found (fact_of a.p.now) q.state.facts row.result _ found.result row.ensures rows is ∙ c.if-is_held.true) noted);
    }

pub returns-then-n-ge-MAX_FACTS : goal.returns-then-n-ge-MAX_FACTS
returns-then-n-ge-MAX_FACTS c =
    let a = c.args in
    let row = c.fact_row-row in
    let found = c.is_held in record {
      leads = λ D q agenda old H st noted.
          let player = whole_in a.self agenda in
          let rows = facts_rows D q player a.work.now old st H.bounded in
          let zero = sym (fact_asked D H.bounded q player a.work.now old st a.p.now a.behind 0 (λ fs. c.in_default.ensures.is D fs H)) in
          let sized = fact_sized D a.head.now H q a.p.now st.sound.kept.facts_few zero row.result row.ensures in
          let is = found.ensures a.head.now (rw rows noted.indexed) sized in
          let l = fact_room D H.bounded q player a.work.now old st a.p.now a.behind zero row.result row.ensures found.result is c.if-is_held.false in
          absurd (omega arith);
      noted = λ D q agenda old H st noted.
          let player = whole_in a.self agenda in
          let rows = facts_rows D q player a.work.now old st H.bounded in
          let zero = sym (fact_asked D H.bounded q player a.work.now old st a.p.now a.behind 0 (λ fs. c.in_default.ensures.is D fs H)) in
          let sized = fact_sized D a.head.now H q a.p.now st.sound.kept.facts_few zero row.result row.ensures in
          let is = found.ensures a.head.now (rw rows noted.indexed) sized in
          let l = fact_room D H.bounded q player a.work.now old st a.p.now a.behind zero row.result row.ensures found.result is c.if-is_held.false in
          absurd (omega arith);
    }

pub returns : goal.returns
returns c =
    let a = c.args in
    let row = c.fact_row-row in
    let found = c.is_held in
    let entered = c.enter in record {
      leads = λ D q agenda old H st noted.
          let player = whole_in a.self agenda in
          let rows = facts_rows D q player a.work.now old st H.bounded in
          let zero = sym (fact_asked D H.bounded q player a.work.now old st a.p.now a.behind 0 (λ fs. c.in_default.ensures.is D fs H)) in
          let sized = fact_sized D a.head.now H q a.p.now st.sound.kept.facts_few zero row.result row.ensures in
          let is = found.ensures a.head.now (rw rows noted.indexed) sized in
          passes D q (fact_stop D q.objects q.tally.begun q.state.facts a.p.now) (go_on (with_fact q (fact_of a.p.now) a.behind)) _ _ old zero
          (fact_new D H.bounded q player a.work.now old st a.p.now a.behind zero row.result row.ensures
          found.result is c.if-is_held.false (whole_in c.onward-2.result agenda) _ refl
          (gone_on a.self c.onward-2.result a.behind (a.self.state.facts + 1) a.self.state.waits agenda c.onward-2.ensures) _ c.put_fact.ensures);
      noted = λ D q agenda old H st noted.
          let player = whole_in a.self agenda in
          let rows = facts_rows D q player a.work.now old st H.bounded in
          let zero = sym (fact_asked D H.bounded q player a.work.now old st a.p.now a.behind 0 (λ fs. c.in_default.ensures.is D fs H)) in
          let sized = fact_sized D a.head.now H q a.p.now st.sound.kept.facts_few zero row.result row.ensures in
          let is = found.ensures a.head.now (rw rows noted.indexed) sized in
          let long : length row.result ≡ 8 = search rules in
          let whole : take 8 (drop 0 row.result) ≡ row.result = take_all 8 row.result (omega arith) in
          let more = entered.ensures.indexed (map fact_row q.state.facts) noted.indexed (rw whole sized) in
          let now = rw (whole, row.ensures) at more in
          noted_unless D _ _ (fact_stop D q.objects q.tally.begun q.state.facts a.p.now) q (go_on (with_fact q (fact_of a.p.now) a.behind))
          (noted_fact D _ q (fact_of a.p.now) a.behind _
          (fact_found (fact_of a.p.now) q.state.facts row.result _ found.result row.ensures rows is ∙ c.if-is_held.false) now);
    }
