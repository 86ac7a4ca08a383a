-- The facts of a state stay over the chosen objects: "whose facts and bindings use no objects but those chosen". Assumes nothing.
use mathlib.Core.Path.{◌≡◌, refl}
use mathlib.Core.Bool.{Bool, true, false, ◌&&◌, cond}
use mathlib.Core.Logic.{inl, inr}
use mathlib.Core.List.Memᴰ
use mathlib.Core.List.{List, [], ◌∷◌}
use Prim.Native.Nat.{◌<◌}
use native.Mathlib.Omega.{arith}
use lib.ListN.{length}
use Rattle.records.specs.Lists.{In}
use Rattle.records.proofs.Lists.{and_l, and_r, flat_map_in}
use Rattle.literals.specs.declared.Object.{Object}
use Rattle.literals.specs.declared.Usage.{Usage}
use Rattle.literals.specs.declared.Usage.TheVariants.{Add}
use Rattle.literals.specs.Domain.{Fact, keys_of, Domain, action}
use Rattle.literals.specs.Held.{Bounded}
use Rattle.literals.specs.Matching.{tuples_of, literals_at}
use Rattle.classes.proofs.Roles.{literals_at_in}
use Rattle.verdict.specs.Binding.{facts_of}
use Rattle.verdict.specs.Machine.{Event, State, event_facts, legal, injective, allowed, facts_after, next, run, instances_in}
use Rattle.verdict.specs.Claims.{well_formed, is_event}
use Rattle.verdict.proofs.Steps.{After}
use Rattle.verdict.proofs.Events.{after_in, legal_listed, legal_length}
use Rattle.classes.proofs.Numbers.{key_tuple_in}
use Rattle.verdict.proofs.Tuples.{component_of_lem}
use Rattle.verdict.proofs.Facts.{facts_over}
use Rattle.verdict.proofs.WellFormed.{action_in, action_well_formed}
use Rattle.verdict.proofs.Objects.{among_in}
use Rattle.verdict.proofs.Acts.{effect_over}

-- a fact over the chosen objects
abbrev pub Over : List Object → Fact → Type 0
Over objs f = (o : Object) → In o f.args → In o objs

module _ (D : Domain) (objs : List Object) where
  -- the facts of an event whose binding is, of a domain that was read
  pub event_over : Bounded D → (e : Event) → e.act.action < length D.actions
      → length e.act.binding ≡ (action D e.act.action).vars → ((o : Object) → In o e.act.binding → In o objs)
      → (c : Usage) (f : Fact) → In f (event_facts D objs e c) → Over objs f
  unfolding event_facts
  event_over B e i n h c f m =
      let a = action D e.act.action in
      let r = flat_map_in (facts_of objs e.act.binding) (literals_at a e.moment c) m in
      let l = literals_at_in a e.moment c r.1 in
      facts_over objs e.act.binding h r.0
      (rw l.3 (λ v k. let z = B.below a (action_in D e.act.action i) l.0 l.1 v k in omega arith)) f r.2

  -- the facts after a step whose adds are
  pub after_adds : (s : List Fact) (es : List Event) → ((e : Event) → In e es → (f : Fact) → In f (event_facts D objs e Add) → Over objs f)
      → ((f : Fact) → In f s → Over objs f) → (f : Fact) → In f (facts_after D objs s es) → Over objs f
  after_adds s es l k f m = go (after_in D objs s es f m)
    where
      go : After (event_facts D objs) (λ g. In g s) es f → Over objs f
      go (inl h) = k f h.0
      go (inr h) = l h.0 h.1 f h.2

module _ (D : Domain) (wf : well_formed D ≡ true) (objs : List Object) where
  -- what an event adds
  pub added_over : (e : Event) → is_event D objs e ≡ true → (f : Fact) → In f (event_facts D objs e Add) → Over objs f
  unfolding event_facts
  added_over e h f m =
      let l : legal D e ≡ true = and_l _ _ (and_l _ _ h) in
      effect_over D (action D e.act.action) (action_well_formed D wf e.act.action (legal_listed D e l)) objs
      e.act.binding (legal_length D e l)
      (and_r (legal D e) _ (and_l _ _ h)) (among_in objs e.act.binding (and_r (legal D e && injective e) _ h)) [] e.moment Add f m

  -- the facts after a step
  pub after_over : (s : List Fact) (es : List Event) → ((e : Event) → In e es → is_event D objs e ≡ true)
      → ((f : Fact) → In f s → Over objs f)
      → (f : Fact) → In f (facts_after D objs s es) → Over objs f
  after_over s es l = after_adds D objs s es (λ e m f. added_over e (l e m) f)

  -- the facts of every state that a run reaches
  pub run_over : (s : State) (steps : List (List Event))
      → ((es : List Event) → In es steps → (e : Event) → In e es → is_event D objs e ≡ true) → ((f : Fact) → In f s.facts → Over objs f)
      → (t : State) → In t (run D objs s steps) → (f : Fact) → In f t.facts → Over objs f
  unfolding run next
  run_over s [] l k t (Memᴰ.head e) = rw e k
  run_over s [] l k t (Memᴰ.tail m) = absurd (Memᴰ.not-nil m)
  run_over s (es ∷ rest) l k t (Memᴰ.head e) = rw e k
  run_over s (es ∷ rest) l k t (Memᴰ.tail m) =
      go (allowed D objs s es)
      (λ i. run_over (next D objs s es) rest (λ ds n. l ds (Memᴰ.tail n))
      (after_over s.facts es (l es (Memᴰ.head refl)) k) t i) m
    where
      go : (b : Bool) → (In t (run D objs (next D objs s es) rest) → (f : Fact) → In f t.facts → Over objs f)
          → In t (cond b (run D objs (next D objs s es) rest) [])
          → (f : Fact) → In f t.facts → Over objs f
      go true ih m = ih m
      go false ih m = absurd (Memᴰ.not-nil m)

-- the instances that match one of them
pub instance_over : (D : Domain) (objs : List Object) (s : List Fact) (y : List Object) → ((f : Fact) → In f s → Over objs f)
    → In y (instances_in D s) → (o : Object) → In o y → In o objs
unfolding instances_in
instance_over D objs s y k m o i =
    let r = flat_map_in (tuples_of D) s m in
    let c = component_of_lem D r.0 r.2 in
    k r.0 r.1 o (key_tuple_in (keys_of D.template) c.0.labels r.0.args (rw c.3 at i))
