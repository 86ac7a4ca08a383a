use mathlib.Core.Path.{ap, ◌∙◌}
use mathlib.Core.Bool.{◌&&◌}
use Prim.Native.Nat.{ℕ, ◌+◌, ◌*◌}
use native.Mathlib.Omega.{arith}
use lib.Dec.{eqb}
use lib.ListN.{get_or}
use Rattle.classes.specs.Held.{sole_more, counts_in}
use Rattle.classes.proofs.Soles.{tallied_none, tallied_more, tallied_all}
use Rattle.classes.proofs.names.note_soles.Goals as goal

pub loop-j-init : goal.loop-j-init
loop-j-init c = let a = c.args in
    (omega arith, λ e. tallied_none a.rows.now a.numbers.now a.soles.now e)

pub note_literal-requires : goal.note_literal-requires
note_literal-requires c =
    let w = c.requires.rowed in
    let f = c.requires.few in
    record { row = omega arith; few = omega arith }

pub loop-j-preserved : goal.loop-j-preserved
loop-j-preserved c =
    let a = c.args in
    let l = c.loop-j in
    let t = c.note_literal in (
      omega arith,
      λ e.
          tallied_more a.rows.now a.numbers.now l.j l.soles t.new.soles (omega arith) (l.invariant.1 e)
          (λ s k p q.
          t.ensures s k p q
          ∙ ap (λ (n : ℕ). sole_more (eqb n k && counts_in a.rows.now s l.j) l.j (get_or l.soles (64 * s + k) 0))
          c.from.ensures),
    )

pub returns : goal.returns
returns c e = let a = c.args in let l = c.loop-j in
    tallied_all a.rows.now a.numbers.now l.j l.soles (omega arith) (l.invariant.1 e)
