-- A step that is allowed where an end's over-all conditions count for interference too is allowed. Assumes nothing.
use mathlib.Core.Path.{◌≡◌, refl}
use mathlib.Core.Bool.{Bool, true, false, ◌&&◌, not}
use mathlib.Core.Logic.{◌⊎◌, inl, inr}
use mathlib.Core.List.Memᴰ
use mathlib.Core.List.{List, ◌++◌}
use Rattle.records.specs.Lists.{In, all, elem, pairwise}
use Rattle.records.proofs.Lists.{and_l, and_r, and_i, or_l, or_r, or_cases, in_any, any_in, pairwise_weaken}
use Rattle.literals.specs.declared.Object.{Object}
use Rattle.literals.specs.declared.Usage.TheVariants.{Positive, Negative}
use Rattle.literals.specs.Domain.{Fact, same_fact, Domain}
use Rattle.verdict.specs.Machine.{Event, event_facts, required_facts, added_facts, struck_facts, is_open, conditions_hold, over_all_hold, meet, disturbs, interfere, allowed}
use Rattle.verdict.specs.Claims.{disturbs_with_over_all, interfere_with_over_all, Wider}
use Rattle.verdict.proofs.Events.{own_asked_facts}

-- ---- with the over-all conditions events interfere no less

meet_more : (fs gs hs : List Fact) → ((f : Fact) → In f fs → In f gs) → meet fs hs ≡ true → meet gs hs ≡ true
meet_more fs gs hs up t = let r = any_in (λ f. elem same_fact f hs) fs t in in_any (λ f. elem same_fact f hs) (up r.0 r.1) r.2

module _ (D : Domain) (objs : List Object) where
  own_among : (e : Event) (f : Fact) → In f (event_facts D objs e Positive ++ event_facts D objs e Negative)
      → In f (required_facts D objs e Positive ++ required_facts D objs e Negative)
  own_among e f m = go (Memᴰ.append_cases (event_facts D objs e Positive) m)
    where
      go : In f (event_facts D objs e Positive) ⊎ In f (event_facts D objs e Negative)
          → In f (required_facts D objs e Positive ++ required_facts D objs e Negative)
      go (inl k) = Memᴰ.append_left (required_facts D objs e Negative) (own_asked_facts D objs e Positive k)
      go (inr k) = Memᴰ.append_right (required_facts D objs e Positive) (own_asked_facts D objs e Negative k)

  disturbs_more : (e f : Event) → disturbs D objs e f ≡ true → disturbs_with_over_all D objs e f ≡ true
  unfolding disturbs
  disturbs_more e f t =
      go (or_cases (meet (event_facts D objs e Positive ++ event_facts D objs e Negative) (added_facts D objs f ++ struck_facts D objs f))
      (meet (added_facts D objs e) (struck_facts D objs f)) t)
    where
      go : (meet (event_facts D objs e Positive ++ event_facts D objs e Negative) (added_facts D objs f ++ struck_facts D objs f) ≡ true)
          ⊎ (meet (added_facts D objs e) (struck_facts D objs f) ≡ true) → disturbs_with_over_all D objs e f ≡ true
      go (inl k) =
          or_l (meet (added_facts D objs e) (struck_facts D objs f))
          (meet_more (event_facts D objs e Positive ++ event_facts D objs e Negative)
          (required_facts D objs e Positive ++ required_facts D objs e Negative) (added_facts D objs f ++ struck_facts D objs f)
          (own_among e) k)
      go (inr k) =
          or_r (meet (required_facts D objs e Positive ++ required_facts D objs e Negative) (added_facts D objs f ++ struck_facts D objs f)) k

  interfere_more : (e f : Event) → interfere D objs e f ≡ true → interfere_with_over_all D objs e f ≡ true
  unfolding interfere
  interfere_more e f t = go (or_cases (disturbs D objs e f) (disturbs D objs f e) t)
    where
      go : (disturbs D objs e f ≡ true) ⊎ (disturbs D objs f e ≡ true) → interfere_with_over_all D objs e f ≡ true
      go (inl k) = or_l (disturbs_with_over_all D objs f e) (disturbs_more e f k)
      go (inr k) = or_r (disturbs_with_over_all D objs e f) (disturbs_more f e k)

contrapose : (s t : Bool) → (s ≡ true → t ≡ true) → not t ≡ true → not s ≡ true
contrapose true true h k = k
contrapose true false h k = h refl
contrapose false t h k = refl

pub wider : Wider
unfolding allowed
wider D objs s es t =
    let open-met =
    all (is_open s.running) es && all (conditions_hold D objs s.facts) es && all (over_all_hold D objs s.facts) s.running in
    and_i (and_l open-met (pairwise (λ e f. not (interfere_with_over_all D objs e f)) es) t)
    (pairwise_weaken (λ e f. not (interfere_with_over_all D objs e f)) (λ e f. not (interfere D objs e f)) es
    (λ e f. contrapose (interfere D objs e f) (interfere_with_over_all D objs e f) (interfere_more D objs e f))
    (and_r open-met (pairwise (λ e f. not (interfere_with_over_all D objs e f)) es) t))
