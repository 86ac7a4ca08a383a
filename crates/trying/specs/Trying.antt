-- "Trying the facts themselves": for a class of an action at once, one step of the machine from each of a few small sets of facts. By the
-- machine, key tuples and matching alone: no name, no coverage, no number of conditions or adds. Assumes nothing.
use Rattle.std.specs.Prelude.{Bool, ◌&&◌, cond, ℕ, suc, leb}
use mathlib.Core.List.{List, [], ◌∷◌, ◌++◌, map, flat_map}
use Rattle.records.specs.Lists.{any}
use Rattle.literals.specs.declared.Variable.{Variable}
use Rattle.literals.specs.declared.Object.{Object}
use Rattle.literals.specs.declared.Usage.TheVariants.{Positive}
use Rattle.literals.specs.Domain.{Fact, Action, Component, Domain, action}
use Rattle.classes.specs.Classes.{classes}
use Rattle.verdict.specs.Binding.{bind_tuple, same_numbers}
use Rattle.verdict.specs.Decision.{instance_fact}
use Rattle.verdict.specs.Machine.{Event, required_facts, allowed, next, start_state, weight}
use Rattle.verdict.specs.Judged.{Answer}
use Rattle.verdict.specs.Claims.{plain_event, plain_objects}
use Rattle.services.specs.Service.{served, served_after}

-- ---- the sets

-- the facts of an instance, over some objects, that a component has: the instance's objects under the keys, any of the objects in the
-- counted place. (Without a counted place it is the same fact for each of them.)
abbrev pub facts_under : List Object → List Object → Component → List Fact
facts_under objs y c = map (λ o. instance_fact o y c) objs

-- the facts of an instance over some objects
unfoldable pub instance_facts : Domain → List Object → List Object → List Fact
unfolding flat_map
instance_facts D objs y = flat_map (facts_under objs y) D.template

-- "the action's true conditions": "bind variable i to object i, add the spare object". The machine's objects are these, so a clearing
-- literal stands for a fact of each
abbrev pub held_facts : Domain → ℕ → List Fact
held_facts D i = required_facts D (plain_objects D i) (plain_event D i) Positive

-- "every set made of the action's true conditions plus at most one further fact of the instance". A further fact that is a condition adds
-- nothing: the machine's start holds each once
unfoldable pub sets : Domain → ℕ → List Object → List (List Fact)
unfolding required_facts instance_facts
sets D i y = held_facts D i ∷ map (λ f. held_facts D i ++ (f ∷ [])) (instance_facts D (plain_objects D i) y)

-- ---- the step

-- "one step of the machine from each such set that weighs at most one and allows it": of the event alone; and "two or more facts of the
-- instance" result
unfoldable pub breaks : Domain → List Object → Event → List Object → List Fact → Bool
unfolding weight allowed next
breaks D objs e y fs =
    leb (weight D y (start_state fs).facts) 1 && allowed D objs (start_state fs) (e ∷ [])
    && leb 2 (weight D y (next D objs (start_state fs) (e ∷ [])).facts)

-- of the class of the action i that has the key tuple x, whose objects are the instance: whether any of the sets does that
unfoldable pub tries : Domain → ℕ → List Variable → Bool
unfolding breaks sets action
tries D i x =
    let y = bind_tuple (same_numbers (action D i)) x in any (breaks D (plain_objects D i) (plain_event D i) y) (sets D i y)

-- ---- the bytes

-- "a byte a class in the report's order, 1 yes, 0 no, lasting actions passed over"
abbrev pub tried_of : Domain → ℕ → Action → List ℕ
tried_of D i a = cond a.lasting [] (map (λ x. cond (tries D i x) 1 0) (classes D a))

abbrev pub tried_from : Domain → ℕ → List Action → List ℕ
tried_from D i [] = []
tried_from D i (a ∷ as') = tried_of D i a ++ tried_from D (suc i) as'

unfoldable pub tried : Domain → List ℕ
unfolding tries classes
tried D = tried_from D 0 D.actions

-- the answer to a file with lent memory, and the memory afterwards
unfoldable pub tried_file : List ℕ → List ℕ → Answer
unfolding served tried
tried_file f out = served tried f out

unfoldable pub tried_after : List ℕ → List ℕ → List ℕ
unfolding served_after tried
tried_after f out = served_after tried f out
