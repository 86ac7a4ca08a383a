-- `ground_plain` meets its contract: the action is the only event of the step. Assumes nothing.
use mathlib.Core.Path.{ap, ◌∙◌}
use Prim.Native.Nat.{ℕ}
use native.Mathlib.Omega.{arith}
use Rattle.literals.specs.Domain.{action}
use Rattle.events.specs.Held.{ground_row}
use Rattle.trying.specs.Held.{plain_ground}
use Rattle.trying.proofs.Plainly.{plain_fits, plain_grounded}
use Rattle.trying.proofs.plain.ground_plain.Goals as goal

pub returns : goal.returns
returns c =
    let back8 = c in
    let a = back8.args in
    let g = c.ground_action-n in
    let row = c.plain_row-row in
    let few = g.ensures.few.1 in record {
      few = omega arith;
      grounded = λ D H h.
          let v = c.variables_of.ensures.number ∙ H.says.variables a.i h in
          plain_grounded H.says a.i h a.memory.now g.new.memory g.result back8.requires.memory
          g.auto.memory few
          (g.ensures.literals D (plain_ground a.i (action D a.i).vars) H (plain_fits H.says.bounded a.i h)
          (row.ensures ∙ ap (λ (n : ℕ). ground_row (plain_ground a.i n)) v))
          g.ensures.counts;
    }
