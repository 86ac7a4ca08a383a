-- What fits a domain fits it after a step too. Assumes nothing.
use mathlib.Core.Path.{◌≡◌, refl, sym, ap, ◌∙◌}
use mathlib.Core.Bool.{true, false}
use mathlib.Core.Logic.{◌⊎◌, inl, inr}
use mathlib.Core.List.Memᴰ
use mathlib.Core.List.{List, [], ◌∷◌, ◌++◌, map}
use native.Mathlib.Omega.{arith}
use lib.Dec.{ltb}
use lib.ListN.{length}
use borrow.Author.Tests.{ltb-false}
use Rattle.records.specs.Lists.{In}
use Rattle.records.proofs.Lists.{or_out, in_keep_if, flat_map_in}
use Rattle.literals.specs.declared.Object.{Object}
use Rattle.literals.specs.declared.Argument.{Argument}
use Rattle.literals.specs.declared.Usage.TheVariants.{Add}
use Rattle.literals.specs.Domain.{Atom, Fact, Domain, arity, action}
use Rattle.literals.specs.Held.{Bounded}
use Rattle.literals.specs.Matching.{literals_at}
use Rattle.verdict.specs.Binding.{facts_of}
use Rattle.verdict.specs.Machine.{GroundAction, Event, State, event_facts, facts_after, close_all, opens, opened_by, next}
use Rattle.classes.proofs.Roles.{literals_at_in}
use Rattle.verdict.proofs.Facts.{facts_in_lem, stand_length}
use Rattle.verdict.proofs.Over.{event_over, after_adds}
use Rattle.verdict.proofs.Steps.{After}
use Rattle.verdict.proofs.Events.{after_in}
use Rattle.verdict.proofs.Weight.{distinct_after}
use Rattle.run_semantics.specs.RunFile.{max_facts, max_running}
use Rattle.run_semantics.specs.Play.{too_large}
use Rattle.store.specs.Held.{FactFits}
use Rattle.events.specs.Held.{GroundFits, GroundsFit, EventsFit, OverObjects}
use Rattle.machine.specs.Held.{Kept}
use Rattle.events.proofs.Members.{map_in, closed_in}
use Rattle.events.proofs.FactRows.{listed_in}

-- ---- the machine's next state is of the domain too

module _ (D : Domain) (B : Bounded D) (objs : List Object) where
  -- a fact that an event adds
  added_fits : (e : Event) → GroundFits D e.act → (f : Fact) → In f (event_facts D objs e Add) → FactFits D f
  unfolding event_facts
  added_fits e h f m =
      let a = action D e.act.action in
      let r = flat_map_in (facts_of objs e.act.binding) (literals_at a e.moment Add) m in
      let l = literals_at_in a e.moment Add r.1 in
      let s = facts_in_lem objs e.act.binding r.0 f r.2 in
      let k = B.literal_arity a (listed_in D e.act.action h.listed) l.0 l.1 in
      record {
        sized =
            stand_length objs e.act.binding r.0.args f.args s.1
            ∙ ap (λ (p : Atom Argument). length p.args) l.3
            ∙ k
            ∙ ap (λ (p : Atom Argument). arity D p.rel) (sym l.3)
            ∙ ap (arity D) (sym s.0);
      }

  facts_fit : (fs : List Fact) (es : List Event) → ((f : Fact) → In f fs → FactFits D f) → EventsFit D es → (f : Fact)
      → In f (facts_after D objs fs es) → FactFits D f
  facts_fit fs es h k f m = go (after_in D objs fs es f m)
    where
      go : After (event_facts D objs) (λ g. In g fs) es f → FactFits D f
      go (inl s) = h f s.0
      go (inr s) = added_fits s.0 (k s.0 s.1) f s.2

opened_in : (D : Domain) (es : List Event) {h : GroundAction} → In h (opened_by D es) → (e : Event) × In e es × (h ≡ e.act)
opened_in D [] m = absurd (Memᴰ.not-nil m)
opened_in D (e ∷ es) {h} m = go (λ n. opened_in D es n) (in_keep_if (opens e.moment (action D e.act.action)) e.act (opened_by D es) m)
  where
    go : (In h (opened_by D es) → (d : Event) × In d es × (h ≡ d.act))
        → ((opens e.moment (action D e.act.action) ≡ true) × (h ≡ e.act)) ⊎ In h (opened_by D es) → (d : Event) × In d (e ∷ es) × (h ≡ d.act)
    go ih (inl s) = (e, Memᴰ.head refl, s.1)
    go ih (inr s) = let r = ih s in (r.0, Memᴰ.tail r.1, r.2)

running_fit : (D : Domain) (gs : List GroundAction) (es : List Event) → GroundsFit D gs → EventsFit D es → GroundsFit D (close_all es gs ++ opened_by D es)
running_fit D gs es h k g m = go (Memᴰ.append_cases (close_all es gs) m)
  where
    go : In g (close_all es gs) ⊎ In g (opened_by D es) → GroundFits D g
    go (inl s) = h g (closed_in es gs s)
    go (inr s) = let r = opened_in D es s in rw r.2 (k r.0 r.1)

-- and its facts and entries are over the chosen objects
chosen_next : (D : Domain) → Bounded D → (objs : List Object) (s : State) (es : List Event) → Kept D objs s es
    → OverObjects D objs (facts_after D objs s.facts es) (close_all es s.running ++ opened_by D es)
chosen_next D B objs s es k =
    record {
      low = k.chosen.low;
      facts =
          λ f m.
          record {
            sized = (facts_fit D B objs s.facts es k.facts k.waiting f m).sized;
            over =
                after_adds D objs s.facts es
                (λ e i. event_over D objs B e (k.waiting e i).listed (k.waiting e i).bound (k.waiting_over e i) Add)
                (λ f i. (k.chosen.facts f i).over) f m;
          };
      bindings = λ g m. go g (Memᴰ.append_cases (close_all es s.running) m);
    }
  where
    go : (g : GroundAction) → In g (close_all es s.running) ⊎ In g (opened_by D es) → (o : Object) → In o g.binding → In o objs
    go g (inl i) = k.chosen.bindings g (closed_in es s.running i)
    go g (inr i) = let r = opened_in D es i in rw r.2 (k.waiting_over r.0 r.1)

pub kept_next : (D : Domain) → Bounded D → {objs : List Object} (s : State) (es : List Event) → Kept D objs s es
    → too_large (next D objs s es) ≡ false → Kept D objs (next D objs s es) []
unfolding next
kept_next D B {objs} s es k t =
    let o = or_out (ltb max_facts (length (facts_after D objs s.facts es))) (ltb max_running (length (close_all es s.running ++ opened_by D es)))
    t in
    record {
      facts = facts_fit D B objs s.facts es k.facts k.waiting;
      facts_few = ltb-false max_facts (length (facts_after D objs s.facts es)) o.0;
      facts_once = distinct_after D objs s.facts es k.facts_once;
      running = running_fit D s.running es k.running k.waiting;
      running_few = ltb-false max_running (length (close_all es s.running ++ opened_by D es)) o.1;
      waiting = λ e m. absurd (Memᴰ.not-nil m);
      waiting_few = omega arith;
      chosen = chosen_next D B objs s es k;
      waiting_over = λ e m. absurd (Memᴰ.not-nil m);
    }

-- ---- what is asked of the events that wait, with the facts and without

module _ {D : Domain} {objs : List Object} {s : State} {es : List Event} (k : Kept D objs s es) where
  waiting_in_lem : (g : GroundAction) → In g (map (λ (e : Event). e.act) es) → (o : Object) → In o g.binding → In o objs
  waiting_in_lem g m = let r = map_in (λ (e : Event). e.act) es m in rw r.2 (k.waiting_over r.0 r.1)

  pub events_chosen : OverObjects D objs s.facts (map (λ (e : Event). e.act) es)
  events_chosen = record { low = k.chosen.low; facts = k.chosen.facts; bindings = waiting_in_lem }

  pub events_alone : OverObjects D objs [] (map (λ (e : Event). e.act) es)
  events_alone = record { low = k.chosen.low; facts = λ f m. absurd (Memᴰ.not-nil m); bindings = waiting_in_lem }
