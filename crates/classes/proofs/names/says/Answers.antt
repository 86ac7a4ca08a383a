-- `says` meets its contract, test by test. Assumes nothing.
use mathlib.Core.Path.{◌≡◌, refl, sym, ap, ◌∙◌}
use mathlib.Core.Bool.{false}
use Prim.Native.Nat.{ℕ, ◌*◌}
use lib.Dec.{eqb}
use lib.ListN.{get_or}
use Rattle.std.specs.Prelude.{Option, Some, None}
use Rattle.std.specs.Option.{option_eq}
use Rattle.literals.specs.declared.Usage.{Usage}
use Rattle.literals.specs.declared.Usage.TheVariants.{Positive, Negative, Add, Delete}
use Rattle.literals.specs.contracts.UsagePartialEq.TheImpl.{eq-value}
use Rattle.classes.specs.Held.{usage_mark, usage_byte, says_at}
use Rattle.classes.proofs.Soles.{by_second}
use Rattle.classes.proofs.names.says.Goals as goal

-- usages are the same where their bytes are
by_bytes : (o : Option Usage) (u : Usage) → option_eq eq-value.it o (Some u) ≡ eqb (usage_mark o) (usage_mark (Some u))
by_bytes None Positive = refl
by_bytes None Negative = refl
by_bytes None Add = refl
by_bytes None Delete = refl
by_bytes (Some Positive) Positive = refl
by_bytes (Some Positive) Negative = refl
by_bytes (Some Positive) Add = refl
by_bytes (Some Positive) Delete = refl
by_bytes (Some Negative) Positive = refl
by_bytes (Some Negative) Negative = refl
by_bytes (Some Negative) Add = refl
by_bytes (Some Negative) Delete = refl
by_bytes (Some Add) Positive = refl
by_bytes (Some Add) Negative = refl
by_bytes (Some Add) Add = refl
by_bytes (Some Add) Delete = refl
by_bytes (Some Delete) Positive = refl
by_bytes (Some Delete) Negative = refl
by_bytes (Some Delete) Add = refl
by_bytes (Some Delete) Delete = refl

pub returns-then-rows_agree : goal.returns-then-rows_agree
unfolding says_at
returns-then-rows_agree c =
    let a = c.args in
    c.eq.ensures
    ∙ by_bytes c.usage_at.result a.usage
    ∙ ap (λ (n : ℕ). eqb n (usage_mark (Some a.usage))) c.usage_at.ensures
    ∙ by_second _ _ _ (sym c.rows_agree.ensures ∙ c.if-rows_agree.true)

pub returns-else-rows_agree : goal.returns-else-rows_agree
unfolding says_at
returns-else-rows_agree c =
    let a = c.args in
    c.if-rows_agree.false
    ∙ by_second (eqb (usage_byte a.wide a.m (get_or a.rows.now (8 * a.i) 0)) (usage_mark (Some a.usage))) _ false
    (sym c.rows_agree.ensures ∙ c.if-rows_agree.false)
