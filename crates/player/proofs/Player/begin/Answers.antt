-- `Player::begin` meets its contract: all but the tally stays, and it is that of the start. Assumes nothing.
use mathlib.Core.Path.{◌≡◌, ap, ◌∙◌}
use Prim.Native.Nat.{max}
use native.Mathlib.Omega.{arith}
use Rattle.verdict.specs.Machine.{top_weight}
use Rattle.machine.proofs.TopWeights.{top_all}
use Rattle.player.specs.Held.{whole_in}
use Rattle.player.proofs.PlayTurns.{begun_already, begun_now, begun_player, facts_rows}
use Rattle.player.proofs.Player.begin.Goals as goal

pub returns-then-self : goal.returns-then-self
returns-then-self c D p agenda old H st noted =
    let a = c.args in
    let player = whole_in a.self agenda in
    begun_player D p player a.work.now old st _ (begun_already D p player _ old st c.if-self.true)

pub returns : goal.returns
returns c D p agenda old H st noted =
    let a = c.args in
    let player = whole_in a.self agenda in
    let top = c.top_from-top in
    let rows = facts_rows D p player a.work.now old st H.bounded in
    let t = top.ensures.weights D p.state.facts H (rw rows noted.indexed) rows st.sound.kept.facts in
    let z : max 0 (top_weight D p.state.facts) ≡ top_weight D p.state.facts = omega arith in
    begun_player D p player a.work.now old st _
    (begun_now D p player a.work.now old st c.if-self.false top.result (t ∙ ap (max 0) (top_all D p.state.facts) ∙ z))
