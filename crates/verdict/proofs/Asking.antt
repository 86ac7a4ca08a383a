-- An end's over-all conditions are asked of everything open, so that its own are left to ask. Assumes nothing.
use mathlib.Core.Path.{◌≡◌, refl, sym, ap₂}
use mathlib.Core.Bool.{Bool, true, false, ◌&&◌, not}
use mathlib.Core.Logic.{◌⊎◌, inl, inr}
use mathlib.Core.List.{List, [], ◌∷◌, flat_map}
use Rattle.records.specs.Lists.{In, all, elem}
use Rattle.records.proofs.Lists.{and_l, and_r, and_i, all_in, all_of, elem_in, flat_map_in, in_flat_map}
use Rattle.literals.specs.declared.Object.{Object}
use Rattle.literals.specs.declared.Argument.{Argument}
use Rattle.literals.specs.declared.Usage.{Usage}
use Rattle.literals.specs.declared.Usage.TheVariants.{Positive, Negative}
use Rattle.literals.specs.Domain.{Atom, Fact, same_fact, Action, Domain, action}
use Rattle.literals.specs.declared.Moment.{Moment}
use Rattle.literals.specs.declared.Moment.TheVariants.{Start, End}
use Rattle.literals.specs.Matching.{literals_at, required, over_all_literals}
use Rattle.classes.proofs.Roles.{required_cases}
use Rattle.verdict.specs.Binding.{facts_of}
use Rattle.verdict.specs.Machine.{GroundAction, Event, same_ground, event_facts, required_facts, over_all_facts, is_open_at, is_open}
use Rattle.verdict.specs.Machine.{conditions_hold, own_hold, over_all_hold}
use Rattle.verdict.specs.Claims.{OwnIsEnough}
use Rattle.verdict.proofs.Equality.{ground_eq}
use Rattle.verdict.proofs.Events.{own_asked_facts}

pub both_ways : (s t : Bool) → (s ≡ true → t ≡ true) → (t ≡ true → s ≡ true) → s ≡ t
both_ways true t f g = sym (f refl)
both_ways false true f g = g refl
both_ways false false f g = refl

module _ (D : Domain) (objs : List Object) (s : List Fact) where
  abbrev held : Fact → Bool
  held f = elem same_fact f s

  abbrev lacked : Fact → Bool
  lacked f = not (elem same_fact f s)

  -- what is asked includes its own
  own_of : (e : Event) → conditions_hold D objs s e ≡ true → own_hold D objs s e ≡ true
  unfolding conditions_hold own_hold
  own_of e t =
      and_i (all_of held (event_facts D objs e Positive)
      (λ f m. all_in held (required_facts D objs e Positive) (and_l _ _ t) (own_asked_facts D objs e Positive m)))
      (all_of lacked (event_facts D objs e Negative)
      (λ f m. all_in lacked (required_facts D objs e Negative) (and_r (all held (required_facts D objs e Positive)) _ t)
      (own_asked_facts D objs e Negative m)))

  -- at an end it is its own and the over-all ones
  asked_by : (g : GroundAction) (c : Usage) (q : Fact → Bool) → all q (event_facts D objs (record { moment = End; act = g }) c) ≡ true
      → all q (over_all_facts D objs g c) ≡ true → all q (required_facts D objs (record { moment = End; act = g }) c) ≡ true
  unfolding event_facts required_facts over_all_facts
  asked_by g c q t u =
      all_of q (flat_map facts (required a End c))
      (λ f m. let r = flat_map_in facts (required a End c) m in go r.0 f r.2 (required_cases a c r.1))
    where
      a : Action
      a = action D g.action

      facts : Atom Argument → List Fact
      facts = facts_of objs g.binding

      go : (p : Atom Argument) (f : Fact) → In f (facts p) → In p (literals_at a End c) ⊎ In p (over_all_literals a c) → q f ≡ true
      go p f i (inl m) = all_in q (flat_map facts (literals_at a End c)) t (in_flat_map facts m i)
      go p f i (inr m) = all_in q (flat_map facts (over_all_literals a c)) u (in_flat_map facts m i)

  end_asked : (g : GroundAction) → over_all_hold D objs s g ≡ true → own_hold D objs s (record { moment = End; act = g }) ≡ true
      → conditions_hold D objs s (record { moment = End; act = g }) ≡ true
  unfolding conditions_hold own_hold over_all_hold
  end_asked g o t =
      and_i (asked_by g Positive held (and_l _ _ t) (and_l _ _ o))
      (asked_by g Negative lacked (and_r (all held (event_facts D objs (record { moment = End; act = g }) Positive)) _ t)
      (and_r (all held (over_all_facts D objs g Positive)) _ o))

  module _ (gs : List GroundAction) (over : all (over_all_hold D objs s) gs ≡ true) where
    event_own : (m : Moment) (g : GroundAction) → is_open_at m gs g ≡ true
        → conditions_hold D objs s (record { moment = m; act = g }) ≡ own_hold D objs s (record { moment = m; act = g })
    unfolding conditions_hold own_hold required_facts event_facts required literals_at
    event_own Start g o = refl
    event_own End g o =
        both_ways (conditions_hold D objs s (record { moment = End; act = g })) (own_hold D objs s (record { moment = End; act = g }))
        (own_of (record { moment = End; act = g }))
        (end_asked g (all_in (over_all_hold D objs s) gs over (elem_in same_ground ground_eq g gs o)))

    events_own : (es : List Event) → all (is_open gs) es ≡ true → all (conditions_hold D objs s) es ≡ all (own_hold D objs s) es
    events_own [] o = refl
    events_own (e ∷ es) o = ap₂ ◌&&◌ (event_own e.moment e.act (and_l _ _ o)) (events_own es (and_r (is_open gs e) _ o))

pub own_is_enough : OwnIsEnough
own_is_enough D objs s es o v = events_own D objs s.facts s.running v es o
