-- How the code marks the journeys of an action. Assumes nothing.
use Rattle.std.specs.Prelude.{cond, [], ℕ, get_or}
use Rattle.literals.specs.declared.Moment.TheVariants.{Start}
use Rattle.literals.specs.Domain.{Domain, Action}
use Rattle.literals.specs.Decode.{max_literals}
use Rattle.literals.specs.Held.{pad}
use Rattle.classes.specs.Classes.{classes, journey}
use Rattle.classes.specs.Held.{class_numbers, own_usages, sole_at}

-- the mark of a class: 0 where it is no journey, k + 1 where its true condition at the start is the literal k
unfoldable pub journey_mark : Domain → Action → ℕ → ℕ
unfolding journey class_numbers sole_at
journey_mark D a class =
    cond (journey D a (get_or (classes D a) class [])) (sole_at (class_numbers D a) (pad max_literals (own_usages a Start)) class 1) 0
