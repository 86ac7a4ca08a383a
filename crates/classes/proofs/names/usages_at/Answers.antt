use native.Mathlib.Omega.{arith}
use mathlib.Core.Path.{◌≡◌, ap, ◌∙◌}
use mathlib.Core.List.{[], map}
use Prim.Native.Nat.{ℕ}
use Rattle.records.specs.Lists.{below}
use Rattle.literals.specs.Held.{pad}
use Rattle.classes.specs.Held.{usage_in}
use Rattle.classes.proofs.Usages.{usages_more, usages_held}
use Rattle.classes.proofs.names.usages_at.Goals as goal

pub loop-j-init : goal.loop-j-init
loop-j-init c = (omega arith, λ e. e)

pub loop-j-preserved : goal.loop-j-preserved
loop-j-preserved c =
    let a = c.args in
    let l = c.loop-j in (
      omega arith,
      λ e. usages_more a.wide a.rows.now a.m l.usages l.j c.usage_mark.result (omega arith) (l.invariant.1 e) (c.usage_mark.ensures ∙ c.usage_once.ensures),
    )

pub returns : goal.returns
returns c =
    let s = c in
    let l = c.loop-j in
    let j : l.j ≡ s.args.n = omega arith in
    let bytes : (s.args.usages.now ≡ pad 64 [] → l.usages ≡ pad 64
    (map (usage_in s.args.wide s.args.rows.now s.args.m) (below s.args.n))) = λ z. l.invariant.1 z
    ∙ ap (λ (k : ℕ). pad 64 (map (usage_in s.args.wide s.args.rows.now s.args.m) (below k))) j in record {
      bytes = bytes;
      usages = λ D a head A z.
          bytes z
          ∙ ap (pad 64) (usages_held s.args.wide s.args.m s.args.rows.now s.args.n A.says.bounded A.listed
          A.apart A.literals s.requires.rowed);
    }
