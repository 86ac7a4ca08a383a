-- The machine's lists as facts: membership after a step, the conditions, no interference. Assumes nothing.
use mathlib.Core.Path.{◌≡◌, ap}
use mathlib.Core.Bool.{true, false, not, ◌&&◌}
use mathlib.Core.Logic.{◌⊎◌, inl, inr}
use mathlib.Core.List.Memᴰ
use mathlib.Core.List.{List, [], ◌∷◌, ◌++◌}
use Prim.Native.Nat.{◌<◌}
use lib.Dec.{ltb}
use lib.ListN.{length}
use borrow.Author.Tests.{ltb-true, eqb-true}
use Rattle.records.specs.Lists.{In, all, filter_by, elem, dedup}
use Rattle.records.proofs.Lists.{and_l, and_r, or_l, or_r, not_true, off, bool_cases, clash, in_any, all_in, filter_in, in_filter, elem_in, in_elem, not_elem, dedup_in, in_dedup, flat_map_in, in_flat_map}
use Rattle.literals.specs.declared.Object.{Object}
use Rattle.literals.specs.declared.Usage.{Usage}
use Rattle.literals.specs.declared.Usage.TheVariants.{Positive, Negative, Add, Delete}
use Rattle.literals.specs.Domain.{Fact, same_fact, Domain, action}
use Rattle.literals.specs.Matching.{literals_at}
use Rattle.classes.proofs.Roles.{own_required}
use Rattle.verdict.specs.Binding.{facts_of}
use Rattle.verdict.specs.Machine.{Event, event_facts, required_facts, step_facts, facts_after, conditions_hold, interfere, disturbs, independent, meet, has_moment, legal}
use Rattle.verdict.proofs.Equality.{fact_eq, fact_self}
use Rattle.verdict.proofs.Steps.{Holds, Quiet, Quiets, alone, beside, After}

-- ---- membership of facts

pub elem_fact : (f : Fact) (l : List Fact) → elem same_fact f l ≡ true → In f l
elem_fact = elem_in same_fact fact_eq

pub fact_elem : {f : Fact} {l : List Fact} → In f l → elem same_fact f l ≡ true
fact_elem = in_elem same_fact fact_self

pub not_fact : (f : Fact) (l : List Fact) → not (elem same_fact f l) ≡ true → In f l → ⊥
not_fact = not_elem same_fact fact_self

pub step_facts_in : (D : Domain) (objs : List Object) (c : Usage) {f : Fact} (es : List Event) → In f (step_facts D objs es c)
    → (e : Event) × In e es × In f (event_facts D objs e c)
unfolding step_facts
step_facts_in D objs c es m = flat_map_in (λ e. event_facts D objs e c) es m

pub in_step_facts : (D : Domain) (objs : List Object) (c : Usage) {f : Fact} {e : Event} {es : List Event} → In e es
    → In f (event_facts D objs e c) → In f (step_facts D objs es c)
unfolding step_facts
in_step_facts D objs c m k = in_flat_map (λ e. event_facts D objs e c) m k

-- ---- the facts after a step, as a predicate

pub after_in : (D : Domain) (objs : List Object) (s : List Fact) (es : List Event) (f : Fact) → In f (facts_after D objs s es)
    → After (event_facts D objs) (λ g. In g s) es f
unfolding facts_after
after_in D objs s es f m = go (Memᴰ.append_cases kept m)
  where
    kept : List Fact
    kept = filter_by (λ g. not (elem same_fact g (step_facts D objs es Delete))) s

    go : In f kept ⊎ In f (filter_by (λ g. not (elem same_fact g kept)) (dedup same_fact (step_facts D objs es Add)))
        → After (event_facts D objs) (λ g. In g s) es f
    go (inl n) =
        let r = filter_in (λ g. not (elem same_fact g (step_facts D objs es Delete))) s n in
        inl (r.0, λ e i d. not_fact f _ r.1 (in_step_facts D objs Delete i d))
    go (inr n) = inr (step_facts_in D objs Add es (dedup_in same_fact _ (filter_in (λ g. not (elem same_fact g kept)) _ n).0))

pub in_after : (D : Domain) (objs : List Object) (s : List Fact) (es : List Event) (f : Fact) → After (event_facts D objs) (λ g. In g s) es f
    → In f (facts_after D objs s es)
unfolding facts_after
in_after D objs s es f h = go h (bool_cases (elem same_fact f kept))
  where
    kept : List Fact
    kept = filter_by (λ g. not (elem same_fact g (step_facts D objs es Delete))) s

    struck : elem same_fact f (step_facts D objs es Delete) ≡ true → (e : Event) × In e es × In f (event_facts D objs e Delete)
    struck t = step_facts_in D objs Delete es (elem_fact f (step_facts D objs es Delete) t)

    go : After (event_facts D objs) (λ g. In g s) es f → (elem same_fact f kept ≡ true) ⊎ (elem same_fact f kept ≡ false)
        → In f (kept ++ filter_by (λ g. not (elem same_fact g kept)) (dedup same_fact (step_facts D objs es Add)))
    go (inl k) t =
        Memᴰ.append_left _ (in_filter (λ g. not (elem same_fact g (step_facts D objs es Delete))) k.0
        (ap not (off (elem same_fact f (step_facts D objs es Delete)) (λ u. let r = struck u in k.1 r.0 r.1 r.2))))
    go (inr k) (inl t) = Memᴰ.append_left _ (elem_fact f kept t)
    go (inr k) (inr t) =
        Memᴰ.append_right kept
        (in_filter (λ g. not (elem same_fact g kept)) (in_dedup same_fact fact_eq (in_step_facts D objs Add k.1 k.2)) (ap not t))

-- ---- a legal event

module _ (D : Domain) (e : Event) (ok : legal D e ≡ true) where
  pub legal_listed : e.act.action < length D.actions
  unfolding legal
  legal_listed = ltb-true _ _ (and_l _ _ (and_l _ _ ok))

  pub legal_moment : has_moment (action D e.act.action) e.moment ≡ true
  unfolding legal
  legal_moment = and_r (ltb e.act.action (length D.actions)) _ (and_l _ _ ok)

  pub legal_length : length e.act.binding ≡ (action D e.act.action).vars
  unfolding legal
  legal_length = eqb-true _ _ (and_r (ltb e.act.action (length D.actions) && has_moment (action D e.act.action) e.moment) _ ok)

-- ---- an allowed step

-- all that is asked, an end's over-all conditions too
pub asked_holds : (D : Domain) (objs : List Object) (s : List Fact) (e : Event) → conditions_hold D objs s e ≡ true
    → Holds (λ f. In f s) (required_facts D objs e)
unfolding conditions_hold
asked_holds D objs s e c = record {
  yes = λ f m. elem_fact f s (all_in (λ g. elem same_fact g s) _ (and_l _ _ c) m);
  no =
      λ f m. not_fact f s (all_in (λ g. not (elem same_fact g s)) _
      (and_r (all (λ g. elem same_fact g s) (required_facts D objs e Positive)) _ c) m);
}

-- the event's own conditions are among it
pub own_asked_facts : (D : Domain) (objs : List Object) (e : Event) (c : Usage) {f : Fact} → In f (event_facts D objs e c)
    → In f (required_facts D objs e c)
unfolding event_facts required_facts
own_asked_facts D objs e c m =
    let a = action D e.act.action in
    let facts = facts_of objs e.act.binding in
    let r = flat_map_in facts (literals_at a e.moment c) m in
    in_flat_map facts (own_required a e.moment c r.1) r.2

pub holds_of : (D : Domain) (objs : List Object) (s : List Fact) (e : Event) → conditions_hold D objs s e ≡ true
    → Holds (λ f. In f s) (event_facts D objs e)
holds_of D objs s e c =
    let h = asked_holds D objs s e c in
    record { yes = λ f m. h.yes f (own_asked_facts D objs e Positive m); no = λ f m. h.no f (own_asked_facts D objs e Negative m) }

pub quiet_of : (D : Domain) (objs : List Object) (e d : Event) → not (interfere D objs e d) ≡ true
    → Quiet (event_facts D objs e) (event_facts D objs d)
unfolding interfere disturbs
quiet_of D objs e d c = record {
  yes = λ f m n. untouched f (Memᴰ.append_left (event_facts D objs d Negative) m) (Memᴰ.append_right (event_facts D objs e Add) n);
  no = λ f m n. untouched f (Memᴰ.append_right (event_facts D objs d Positive) m) (Memᴰ.append_left (event_facts D objs e Delete) n);
  stay = λ f m n.
      clash (or_l (disturbs D objs d e)
      (or_r (meet (event_facts D objs e Positive ++ event_facts D objs e Negative) (event_facts D objs d Add ++ event_facts D objs d Delete))
      (hit f m n)))
      (not_true _ c);
}
  where
    hit : (f : Fact) {fs gs : List Fact} → In f fs → In f gs → meet fs gs ≡ true
    hit f {fs} {gs} m n = in_any (λ g. elem same_fact g gs) m (fact_elem n)

    untouched : (f : Fact) → In f (event_facts D objs d Positive ++ event_facts D objs d Negative)
        → In f (event_facts D objs e Add ++ event_facts D objs e Delete) → ⊥
    untouched f m n =
        clash (or_r (disturbs D objs e d) (or_l (meet (event_facts D objs d Add) (event_facts D objs e Delete)) (hit f m n))) (not_true _ c)

pub quiets_of : (D : Domain) (objs : List Object) (es : List Event) → independent D objs es ≡ true → Quiets (event_facts D objs) es
quiets_of D objs [] c = alone
quiets_of D objs (e ∷ es) c =
    beside (λ d m. quiet_of D objs e d (all_in (λ f. not (interfere D objs e f)) es (and_l _ _ c) m))
    (quiets_of D objs es (and_r (all (λ f. not (interfere D objs e f)) es) _ c))
