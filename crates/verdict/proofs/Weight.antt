-- A step holds each fact once. Assumes nothing.
use mathlib.Core.Path.{◌≡◌, ap}
use mathlib.Core.Bool.{true, not}
use mathlib.Core.List.Memᴰ
use mathlib.Core.List.{List, ◌++◌}
use Rattle.records.specs.Lists.{In, filter_by, elem, distinct, dedup}
use Rattle.records.proofs.Lists.{off, filter_in, pairwise_filter, pairwise_append, distinct_dedup}
use Rattle.literals.specs.declared.Object.{Object}
use Rattle.literals.specs.declared.Usage.TheVariants.{Add, Delete}
use Rattle.literals.specs.Domain.{Fact, same_fact, Domain}
use Rattle.verdict.specs.Machine.{Event, step_facts, facts_after}
use Rattle.verdict.proofs.Equality.{fact_eq}
use Rattle.verdict.proofs.Events.{not_fact}

pub distinct_append : (xs ys : List Fact) → distinct same_fact xs ≡ true → distinct same_fact ys ≡ true → ((f : Fact) → In f xs → In f ys → ⊥)
    → distinct same_fact (xs ++ ys) ≡ true
distinct_append xs ys s t h =
    pairwise_append (λ f g. not (same_fact f g)) xs ys s t (λ f g m n. ap not (off (same_fact f g) (λ e. h f m (Memᴰ.cast (fact_eq f g e) n))))

pub distinct_after : (D : Domain) (objs : List Object) (s : List Fact) (es : List Event) → distinct same_fact s ≡ true
    → distinct same_fact (facts_after D objs s es) ≡ true
unfolding facts_after
distinct_after D objs s es o =
    distinct_append kept _ (pairwise_filter (λ f g. not (same_fact f g)) _ s o)
    (pairwise_filter (λ f g. not (same_fact f g)) (λ f. not (elem same_fact f kept)) (dedup same_fact added) (distinct_dedup same_fact added))
    (λ f m n. not_fact f kept (filter_in (λ f. not (elem same_fact f kept)) (dedup same_fact added) n).1 m)
  where
    kept : List Fact
    kept = filter_by (λ f. not (elem same_fact f (step_facts D objs es Delete))) s

    added : List Fact
    added = step_facts D objs es Add
