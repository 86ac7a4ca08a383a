-- `usage_once` meets its contract: 0 where an earlier row says a usage that may meet. Assumes nothing.
use mathlib.Core.Path.{◌≡◌, refl, sym, ap, ap₂, ◌∙◌}
use mathlib.Core.Bool.{Bool, true, false, ◌&&◌, cond}
use mathlib.Core.List.{List}
use Prim.Native.Nat.{ℕ, ◌*◌}
use lib.ListN.{get_or}
use Rattle.records.specs.Lists.{any, below}
use Rattle.literals.specs.declared.Moment.{Moment}
use Rattle.classes.specs.Held.{usage_byte, may_meet, says_at, usage_in}
use Rattle.classes.proofs.names.usage_once.Goals as goal
use Rattle.classes.proofs.names.usage_once.Goals.{else-may_meet-via-then-may_meet+else-earlier_same, else-may_meet-via-else-may_meet}
use Rattle.literals.specs.declared.Moment.TheVariants.{Start, End}

module _ (wide : Bool) (rows : List ℕ) (m : Moment) (j usage : ℕ) (e : usage ≡ usage_byte wide m (get_or rows (8 * j) 0)) where
  by_test : cond (may_meet wide m usage && any (says_at wide rows m usage j) (below j)) 0 usage ≡ usage_in wide rows m j
  unfolding usage_in
  by_test = ap (λ (k : ℕ). cond (may_meet wide m k && any (says_at wide rows m k j) (below j)) 0 k) e

  apart : may_meet wide m usage ≡ false → usage ≡ usage_in wide rows m j
  apart g = sym (ap (λ (b : Bool). cond (b && any (says_at wide rows m usage j) (below j)) 0 usage) g) ∙ by_test

  said : may_meet wide m usage ≡ true → any (says_at wide rows m usage j) (below j) ≡ true → 0 ≡ usage_in wide rows m j
  said g h = sym (ap₂ (λ (b d : Bool). cond (b && d) 0 usage) g h) ∙ by_test

  new : may_meet wide m usage ≡ true → any (says_at wide rows m usage j) (below j) ≡ false → usage ≡ usage_in wide rows m j
  new g h = sym (ap₂ (λ (b d : Bool). cond (b && d) 0 usage) g h) ∙ by_test

-- what is nothing there meets nothing
nothing : (wide : Bool) (m : Moment) → may_meet wide m 0 ≡ false
nothing wide Start = refl
nothing true End = refl
nothing false End = refl

pub returns-in_err-usage : goal.returns-in_err-usage
returns-in_err-usage c =
    let a = c.args in
    simp c.from_residual.ensures (apart a.wide a.rows.now a.m a.j 0 c.in_err-usage.ensures (nothing a.wide a.m))

pub returns-then-earlier_same : goal.returns-then-earlier_same
returns-then-earlier_same c =
    let a = c.args in
    said a.wide a.rows.now a.m a.j _ c.in_ok-usage.ensures (sym c.may_meet.ensures ∙ c.if-may_meet.true) (sym c.earlier_same.ensures ∙ c.if-earlier_same.true)

pub returns : goal.returns
returns c =
    let a = c.args in
    elim c.else-may_meet.branch [
      | else-may_meet-via-then-may_meet+else-earlier_same w ↦
          new a.wide a.rows.now a.m a.j _ c.in_ok-usage.ensures (sym c.may_meet.ensures ∙ w.if-may_meet.true) (sym w.earlier_same.ensures ∙ w.if-earlier_same.false)
      | else-may_meet-via-else-may_meet w ↦ apart a.wide a.rows.now a.m a.j _ c.in_ok-usage.ensures (sym c.may_meet.ensures ∙ w.if-may_meet.false)
    ]
