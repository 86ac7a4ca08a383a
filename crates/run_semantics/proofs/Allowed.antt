-- What the player tests at a step's close is what the machine allows. Assumes nothing.
use mathlib.Core.Path.{◌≡◌, refl, sym, ap, ◌∙◌}
use mathlib.Core.Bool.{Bool, true, false, ◌&&◌, not, cond}
use Prim.Native.Nat.{ℕ}
use lib.Dec.{eqb}
use Rattle.records.specs.Lists.{all}
use Rattle.verdict.specs.Machine.{is_open, conditions_hold, own_hold, over_all_hold, independent, allowed}
use Rattle.verdict.proofs.Asking.{own_is_enough}
use Rattle.run_semantics.specs.Play.{forbidden}
use Rattle.run_semantics.specs.Claims.{AllowedIsNotForbidden, ForbiddenByOwn}

pub allowed_not_forbidden : AllowedIsNotForbidden
unfolding allowed forbidden
allowed_not_forbidden D objs s es =
    four (all (is_open s.running) es) (all (conditions_hold D objs s.facts) es) (all (over_all_hold D objs s.facts) s.running)
    (independent D objs es)
  where
    four : (a b c d : Bool) → (a && b && c && d) ≡ eqb (cond (not a) 57 (cond (not (b && c)) 55 (cond (not d) 56 0))) 0
    four false b c d = refl
    four true false c d = refl
    four true true false d = refl
    four true true true false = refl
    four true true true true = refl

pub forbidden_by_own : ForbiddenByOwn
unfolding forbidden
forbidden_by_own D objs s es =
    go (all (is_open s.running) es) (all (over_all_hold D objs s.facts) s.running) (all (conditions_hold D objs s.facts) es)
    (all (own_hold D objs s.facts) es)
    (cond (not (independent D objs es)) 56 0) (own_is_enough D objs s es)
  where
    go : (o v c w : Bool) (n : ℕ) → (o ≡ true → v ≡ true → c ≡ w) → cond (not o) 57 (cond (not (c && v)) 55 n) ≡ cond (not o) 57 (cond (not (w && v)) 55 n)
    go false v c w n same = refl
    go true true c w n same = ap (λ (t : Bool). cond (not (t && true)) 55 n) (same refl refl)
    go true false c w n same = none c ∙ sym (none w)
      where
        none : (t : Bool) → cond (not (t && false)) 55 n ≡ 55
        none true = refl
        none false = refl
