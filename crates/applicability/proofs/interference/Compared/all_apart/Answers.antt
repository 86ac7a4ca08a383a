use mathlib.Core.Path.{◌≡◌, refl, sym, ap, ◌∙◌}
use mathlib.Core.Bool.{not}
use mathlib.Core.List.{[]}
use Prim.Native.Nat.{◌<◌}
use native.Mathlib.Omega.{arith}
use lib.ListN.{length}
use Rattle.records.proofs.Lists.{pairwise_hit, pairwise_miss, pairwise_end}
use Rattle.applicability.specs.Held.{literals_clash}
use Rattle.applicability.proofs.Clashes.{before_first, laid_end, laid_within, laid_clash}
use Rattle.applicability.proofs.interference.Compared.all_apart.Goals as goal

pub loop-i-init : goal.loop-i-init
loop-i-init c = (omega arith, omega arith, λ parts e L T. (before_first parts, refl))

pub overflow_add-to : goal.overflow_add-to
overflow_add-to c = let g = c.loop-i.invariant.1 in omega arith

pub returns-then-total-to : goal.returns-then-total-to
returns-then-total-to c parts e L T =
    let l = c.loop-i in
    let n = c.from in
    let q : length parts ≡ c.args.count = e in
    let h : l.i < length parts = omega arith in
    let w = laid_within L l.i h l.from (l.invariant.2 parts e L T).0 n.result n.ensures in
    let t = c.if-total-to.true in
    absurd (omega arith)

pub literals_clash-requires : goal.literals_clash-requires
literals_clash-requires c =
    let p = c.requires in
    record { few = p.few; order = c.if-total-to.false; worded = p.worded }

pub returns-then-literals_clash : goal.returns-then-literals_clash
returns-then-literals_clash c parts e L T =
    let back8 = c in
    let l = c.loop-i in
    let n = c.from in
    let v = l.invariant.2 parts e L T in
    let clash = c.literals_clash in
    let q : length parts ≡ back8.args.count = e in
    let h : l.i < length parts = omega arith in
    let z = laid_clash L l.i h l.from v.0 n.result n.ensures clash.result (clash.ensures T) in
    sym (pairwise_miss parts l.i [] h (λ first later. not (literals_clash first later)) (z ∙ ap not c.if-literals_clash.true)) ∙ v.1

pub loop-i-preserved : goal.loop-i-preserved
loop-i-preserved c =
    let back8 = c in
    let l = c.loop-i in
    let n = c.from in
    let clash = c.literals_clash in (
      omega arith,
      c.if-total-to.false,
      λ parts e L T.
          let v = l.invariant.2 parts e L T in
          let q : length parts ≡ back8.args.count = e in
          let h : l.i < length parts = omega arith in
          let z = laid_clash L l.i h l.from v.0 n.result n.ensures clash.result (clash.ensures T) in (
            laid_end L l.i h l.from v.0 n.result n.ensures,
            sym (pairwise_hit parts l.i [] h (λ first later. not (literals_clash first later)) (z ∙ ap not c.if-literals_clash.false)) ∙ v.1,
          ),
    )

pub returns : goal.returns
returns c parts e L T =
    let l = c.loop-i in
    let q : length parts ≡ c.args.count = e in
    sym (pairwise_end parts l.i [] (λ first later. not (literals_clash first later)) (omega arith)) ∙ (l.invariant.2 parts e L T).1
