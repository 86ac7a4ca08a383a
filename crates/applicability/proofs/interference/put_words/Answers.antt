use mathlib.Core.Path.{refl, ◌∙◌}
use native.Mathlib.Omega.{arith}
use lib.ListN.{length-set}
use Rattle.applicability.proofs.Clashes.{words_more}
use Rattle.applicability.proofs.interference.put_words.Goals as goal

pub loop-i-init : goal.loop-i-init
loop-i-init c = (omega arith, refl, λ i h. absurd (omega arith))

pub bounds-words-i : goal.bounds-words-i
bounds-words-i c = let k = c.loop-i.invariant.1 in let p = c.requires in omega arith

pub loop-i-preserved : goal.loop-i-preserved
loop-i-preserved c =
    let a = c.args in
    let l = c.loop-i in
    let k = l.invariant.1 in
    let p = c.requires in
    let row = c.row_at in
    let word = c.word_of in (
      omega arith,
      length-set l.words l.i word.result ∙ k,
      words_more a.memory.now l.words l.i word.result row.result l.invariant.2 (omega arith) row.ensures
          word.ensures.number,
    )

pub shape_of-words : goal.shape_of-words
shape_of-words c = c.loop-i.invariant.1

pub returns : goal.returns
returns c i h = c.loop-i.invariant.2 i (omega arith)
