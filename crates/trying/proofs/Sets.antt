-- The step from the true conditions decides those from the sets with a further fact: where the instance weighs one already, such a fact
-- makes it two; else it leaves one fact more at most, and that one exactly where no literal of the event is about it. Assumes nothing.
use mathlib.Core.Path.{◌≡◌, refl, sym, ap, ◌∙◌}
use mathlib.Core.Bool.{Bool, true, false, not, ◌&&◌, ◌||◌}
use mathlib.Core.Logic.{◌⊎◌, inl, inr}
use mathlib.Core.List.Memᴰ
use mathlib.Core.List.{List, [], ◌∷◌, ◌++◌}
use Prim.Native.Nat.{ℕ, ◌≤◌, ◌<◌}
use native.Mathlib.Omega.{arith}
use lib.Dec.{eqb, leb}
use lib.ListN.{length}
use borrow.Author.Tests.{leb-true, leb-false, le-leb, eq-eqb, eqb-true}
use Rattle.records.specs.Lists.{In, any, elem, distinct, dedup}
use Rattle.records.proofs.Lists.{and_l, and_r, and_i, or_l, or_r, or_cases, bool_cases, off, not_true, clash, all_of, any_in, in_any}
use Rattle.records.proofs.Lists.{in_dedup, dedup_in, distinct_dedup, count_some, count_none, count_pos, count_single, single_count}
use Rattle.literals.specs.declared.Variable.{Variable}
use Rattle.literals.specs.declared.Object.{Object}
use Rattle.literals.specs.declared.Usage.{Usage}
use Rattle.literals.specs.declared.Usage.TheVariants.{Positive, Negative, Add, Delete}
use Rattle.literals.specs.Domain.{Fact, same_fact, Domain, action}
use Rattle.literals.specs.Matching.{literals_at, required, matches}
use Rattle.classes.specs.Classes.{classes}
use Rattle.verdict.specs.Binding.{bind_tuple, same_numbers}
use Rattle.verdict.specs.Machine.{Event, event_facts, required_facts, conditions_hold, allowed, next, start_state, weight}
use Rattle.verdict.specs.Claims.{well_formed, is_fact, plain_objects, plain_event}
use Rattle.verdict.proofs.Equality.{fact_eq, fact_self}
use Rattle.verdict.proofs.Events.{elem_fact, fact_elem, after_in, in_after, asked_holds}
use Rattle.verdict.proofs.Steps.{Effect, One, Holds}
use Rattle.verdict.proofs.Weight.{distinct_after}
use Rattle.verdict.proofs.Asking.{both_ways}
use Rattle.verdict.proofs.WellFormed.{template_well_formed}
use Rattle.trying.specs.Trying.{held_facts, instance_facts, sets, breaks, tries}
use Rattle.trying.specs.Held.{tries_by}
use Rattle.trying.proofs.Further.{further_fits}
use Rattle.trying.proofs.Engine.{conditions_set, further_set, SetCases, sets_cases, instance}

-- ---- weights as facts

module _ (D : Domain) (y : List Object) where
  -- two facts of the instance
  two_weigh : (l : List Fact) (f g : Fact) → In f l → In g l → matches D y f ≡ true → matches D y g ≡ true → (f ≡ g → ⊥)
      → 2 ≤ weight D y l
  unfolding weight
  two_weigh l f g m n s t ne =
      let no : weight D y l ≤ 1 → ⊥ = λ le. ne (count_single (matches D y) l le f g m n s t) in omega arith

  -- one at most
  one_weighs : (l : List Fact) → distinct same_fact l ≡ true
      → ((f g : Fact) → In f l → In g l → matches D y f ≡ true → matches D y g ≡ true → f ≡ g) → weight D y l ≤ 1
  unfolding weight
  one_weighs l o h = single_count (matches D y) same_fact fact_self l o h

  all_same : (l : List Fact) → weight D y l ≤ 1 → (f g : Fact) → In f l → In g l → matches D y f ≡ true → matches D y g ≡ true → f ≡ g
  unfolding weight
  all_same l le = count_single (matches D y) l le

  some_fact : (l : List Fact) → 1 ≤ weight D y l → (f : Fact) × In f l × (matches D y f ≡ true)
  unfolding weight
  some_fact l h = count_some (matches D y) l h

  none_match : (l : List Fact) → weight D y l ≡ 0 → (f : Fact) → In f l → matches D y f ≡ true → ⊥
  unfolding weight
  none_match l e f m t = let h = count_pos (matches D y) m t in omega arith

  weighs_none : (l : List Fact) → ((f : Fact) → In f l → matches D y f ≡ true → ⊥) → weight D y l ≡ 0
  unfolding weight
  weighs_none l h = count_none (matches D y) l h

-- ---- one event at its start, with nothing open

module _ (D : Domain) (i : ℕ) where
  abbrev objs : List Object
  objs = plain_objects D i

  abbrev ev : Event
  ev = plain_event D i

  -- the facts of its literals of a usage
  abbrev pub facts_in : Effect
  facts_in c = event_facts D (plain_objects D i) (plain_event D i) c

  -- the facts that the step from some leaves
  abbrev left : List Fact → List Fact
  left s = (next D (plain_objects D i) (start_state s) (plain_event D i ∷ [])).facts

  conditions_are : held_facts D i ≡ facts_in Positive
  unfolding required_facts event_facts required literals_at
  conditions_are = refl

  holds_of : (s : List Fact) → allowed D objs (start_state s) (ev ∷ []) ≡ true → Holds (λ f. In f s) facts_in
  unfolding allowed required_facts event_facts required literals_at
  holds_of s t =
      let h = asked_holds D objs (dedup same_fact s) ev (and_l _ _ (and_r true _ (and_l _ _ (and_l _ _ t)))) in
      record { yes = λ f m. dedup_in same_fact s (h.yes f m); no = λ f m n. h.no f m (in_dedup same_fact fact_eq n) }

  of_holds : (s : List Fact) → Holds (λ f. In f s) facts_in → allowed D objs (start_state s) (ev ∷ []) ≡ true
  unfolding allowed conditions_hold required_facts event_facts required literals_at
  of_holds s h = and_i (and_i (and_i refl (and_i holds refl)) refl) refl
    where
      holds : conditions_hold D objs (dedup same_fact s) ev ≡ true
      holds =
          and_i (all_of (λ f. elem same_fact f (dedup same_fact s)) (facts_in Positive)
          (λ f m. fact_elem (in_dedup same_fact fact_eq (h.yes f m))))
          (all_of (λ f. not (elem same_fact f (dedup same_fact s))) (facts_in Negative)
          (λ f m. ap not (off (elem same_fact f (dedup same_fact s))
          (λ t. h.no f m (dedup_in same_fact s (elem_fact f (dedup same_fact s) t))))))

  pub left_is : (s : List Fact) (f : Fact) → In f (left s) → One (λ g. In g s) facts_in f
  unfolding next
  left_is s f m = go (after_in D objs (dedup same_fact s) (ev ∷ []) f m)
    where
      go : (In f (dedup same_fact s) × ((e : Event) → In e (ev ∷ []) → In f (event_facts D objs e Delete) → ⊥))
          ⊎ ((e : Event) × In e (ev ∷ []) × In f (event_facts D objs e Add)) → One (λ g. In g s) facts_in f
      go (inl k) = inl (dedup_in same_fact s k.0, k.1 ev (Memᴰ.head refl))
      go (inr (e, k, n)) = inr (rw (Memᴰ.eq_of_singleton k) at n)

  is_left : (s : List Fact) (f : Fact) → One (λ g. In g s) facts_in f → In f (left s)
  unfolding next
  is_left s f (inl k) =
      in_after D objs (dedup same_fact s) (ev ∷ []) f
      (inl (in_dedup same_fact fact_eq k.0, λ e m d. k.1 (rw (Memᴰ.eq_of_singleton m) at d)))
  is_left s f (inr k) = in_after D objs (dedup same_fact s) (ev ∷ []) f (inr (ev, Memᴰ.head refl, k))

  left_once : (s : List Fact) → distinct same_fact (left s) ≡ true
  unfolding next
  left_once s = distinct_after D objs (dedup same_fact s) (ev ∷ []) (distinct_dedup same_fact s)

  -- ---- the true conditions, and with them one further fact of the instance

  module _ (y : List Object) where
    abbrev held : List Fact
    held = held_facts D i

    abbrev before : List Fact → ℕ
    before s = weight D y (start_state s).facts

    abbrev after : List Fact → ℕ
    after s = weight D y (left s)

    before_few : (s : List Fact) → ((f g : Fact) → In f s → In g s → matches D y f ≡ true → matches D y g ≡ true → f ≡ g) → before s ≤ 1
    before_few s h =
        one_weighs D y (dedup same_fact s) (distinct_dedup same_fact s) (λ f g m n. h f g (dedup_in same_fact s m) (dedup_in same_fact s n))

    before_same : (s : List Fact) → before s ≤ 1 → (f g : Fact) → In f s → In g s → matches D y f ≡ true → matches D y g ≡ true → f ≡ g
    before_same s le f g m n = all_same D y (dedup same_fact s) le f g (in_dedup same_fact fact_eq m) (in_dedup same_fact fact_eq n)

    before_none : (s : List Fact) → before s ≡ 0 → (f : Fact) → In f s → matches D y f ≡ true → ⊥
    before_none s e f m = none_match D y (dedup same_fact s) e f (in_dedup same_fact fact_eq m)

    -- where whatever the instance matches of what one step leaves is left by another too, it weighs no more than one if it does there
    no_more : (s u : List Fact) → after u ≤ 1 → ((f : Fact) → In f (left s) → matches D y f ≡ true → In f (left u)) → after s ≤ 1
    no_more s u le h =
        one_weighs D y (left s) (left_once s) (λ f g m n p q. all_same D y (left u) le f g (h f m p) (h g n q) p q)

    module _ (f : Fact) (fits : matches D y f ≡ true) where
      abbrev more : List Fact
      more = held_facts D i ++ (f ∷ [])

      more_cases : (g : Fact) → In g more → In g held ⊎ (g ≡ f)
      more_cases g m = go (Memᴰ.append_cases held m)
        where
          go : In g held ⊎ In g (f ∷ []) → In g held ⊎ (g ≡ f)
          go (inl n) = inl n
          go (inr n) = inr (Memᴰ.eq_of_singleton n)

      is_more : In f more
      is_more = Memᴰ.append_right held (Memᴰ.head refl)

      held_more : (g : Fact) → In g held → In g more
      held_more g m = Memᴰ.append_left (f ∷ []) m

      -- a step from the set that breaks, in parts
      module _ (low : before more ≤ 1) (can : allowed D objs (start_state more) (ev ∷ []) ≡ true) (high : 2 ≤ after more) where
        held_low : before held ≤ 1
        held_low = before_few held (λ g h m n. before_same more low g h (held_more g m) (held_more h n))

        held_can : allowed D objs (start_state held) (ev ∷ []) ≡ true
        held_can =
            of_holds held (record { yes = λ g m. rw conditions_are m; no = λ g m n. (holds_of more can).no g m (held_more g n) })

        module _ (few : after held ≤ 1) where
          -- no fact of the instance is a condition: else it is the further one, and nothing is new
          held_none : (g : Fact) → In g held → matches D y g ≡ true → ⊥
          held_none g m s =
              let same : g ≡ f = before_same more low g f (held_more g m) is_more s fits in
              let here : In f held = Memᴰ.cast (sym same) m in
              let le = no_more more held few (λ h n t. is_left held h (back here h (left_is more h n))) in omega arith
            where
              back : In f held → (h : Fact) → One (λ g. In g more) facts_in h → One (λ g. In g held) facts_in h
              back here h (inr a) = inr a
              back here h (inl k) = inl (go (more_cases h k.0), k.1)
                where
                  go : In h held ⊎ (h ≡ f) → In h held
                  go (inl n) = n
                  go (inr e) = Memᴰ.cast e here

          -- of what the step leaves the instance matches an add, or the further fact, which no delete strikes
          left_cases : (g : Fact) → In g (left more) → matches D y g ≡ true
              → In g (facts_in Add) ⊎ ((g ≡ f) × (In f (facts_in Delete) → ⊥))
          left_cases g m s = go (left_is more g m)
            where
              kept : In g held ⊎ (g ≡ f) → (In g (facts_in Delete) → ⊥) → (g ≡ f) × (In f (facts_in Delete) → ⊥)
              kept (inl n) d = absurd (held_none g n s)
              kept (inr e) d = (e, λ k. d (Memᴰ.cast e k))

              go : One (λ g. In g more) facts_in g → In g (facts_in Add) ⊎ ((g ≡ f) × (In f (facts_in Delete) → ⊥))
              go (inr a) = inl a
              go (inl k) = inr (kept (more_cases g k.0) k.1)

          -- so there is an add
          left_some : 1 ≤ after held
          left_some =
              let none : after held ≡ 0 → ⊥ = λ z.
              let only : (g : Fact) → In g (left more) → matches D y g ≡ true → g ≡ f = λ g m s. go z g s (left_cases g m s) in
              let le = one_weighs D y (left more) (left_once more) (λ g h m n s t. only g m s ∙ sym (only h n t)) in omega arith in
              omega arith
            where
              go : after held ≡ 0 → (g : Fact) → matches D y g ≡ true → In g (facts_in Add) ⊎ ((g ≡ f) × (In f (facts_in Delete) → ⊥)) → g ≡ f
              go z g s (inl a) = absurd (none_match D y (left held) z g (is_left held g (inr a)) s)
              go z g s (inr k) = k.0

          -- and no literal is about the further fact
          untouched : (c : Usage) → In f (facts_in c) → ⊥
          untouched Positive m = held_none f (rw conditions_are m) fits
          untouched Negative m = (holds_of more can).no f m is_more
          untouched Add m = let le = no_more more held few (λ g n s. is_left held g (inr (go g (left_cases g n s)))) in omega arith
            where
              go : (g : Fact) → In g (facts_in Add) ⊎ ((g ≡ f) × (In f (facts_in Delete) → ⊥)) → In g (facts_in Add)
              go g (inl a) = a
              go g (inr k) = Memᴰ.cast k.0 m
          untouched Delete m = let le = no_more more held few (λ g n s. is_left held g (inr (go g (left_cases g n s)))) in omega arith
            where
              go : (g : Fact) → In g (facts_in Add) ⊎ ((g ≡ f) × (In f (facts_in Delete) → ⊥)) → In g (facts_in Add)
              go g (inl a) = a
              go g (inr k) = absurd (k.1 m)

      -- a further fact that no literal is about, where no condition is of the instance and one add is
      module _ (can : allowed D objs (start_state held) (ev ∷ []) ≡ true) (none : before held ≡ 0) (one : 1 ≤ after held)
          (free : (c : Usage) → In f (facts_in c) → ⊥) where
        only : (g : Fact) → In g more → matches D y g ≡ true → g ≡ f
        only g m s = go (more_cases g m)
          where
            go : In g held ⊎ (g ≡ f) → g ≡ f
            go (inl n) = absurd (before_none held none g n s)
            go (inr e) = e

        more_low : before more ≤ 1
        more_low = before_few more (λ g h m n s t. only g m s ∙ sym (only h n t))

        more_can : allowed D objs (start_state more) (ev ∷ []) ≡ true
        more_can = of_holds more (record { yes = λ g m. held_more g ((holds_of held can).yes g m); no = λ g m n. no g m (more_cases g n) })
          where
            no : (g : Fact) → In g (facts_in Negative) → In g held ⊎ (g ≡ f) → ⊥
            no g m (inl n) = (holds_of held can).no g m n
            no g m (inr e) = free Negative (Memᴰ.cast (sym e) m)

        more_high : 2 ≤ after more
        more_high = go (some_fact D y (left held) one)
          where
            go : (g : Fact) × In g (left held) × (matches D y g ≡ true) → 2 ≤ after more
            go (g, m, s) = by (left_is held g m)
              where
                by : One (λ g. In g held) facts_in g → 2 ≤ after more
                by (inl k) = absurd (before_none held none g k.0 s)
                by (inr a) =
                    two_weigh D y (left more) g f (is_left more g (inr a)) (is_left more f (inl (is_more, free Delete))) s fits
                    (λ e. free Add (Memᴰ.cast (sym e) a))

-- ---- the answer for a class, by any test that tells of the further facts whether a literal of the event is about them

module _ (D : Domain) (wf : well_formed D ≡ true) (i : ℕ) (idx : i < length D.actions) (x : List Variable)
    (hx : In x (classes D (action D i))) where
  abbrev y : List Object
  y = bind_tuple (same_numbers (action D i)) x

  abbrev further : List Fact
  further = instance_facts D (plain_objects D i) (bind_tuple (same_numbers (action D i)) x)

  abbrev can : Bool
  can = allowed D (plain_objects D i) (start_state (held_facts D i)) (plain_event D i ∷ [])

  further_matches : (f : Fact) → In f further → matches D y f ≡ true
  further_matches f m =
      and_r (is_fact D (plain_objects D i) f) _
      (further_fits D (template_well_formed D wf) (plain_objects D i) y (instance D wf i idx x hx) f m)

  module _ (about : Fact → Bool) (yes : (f : Fact) → In f further → about f ≡ true → (c : Usage) × In f (facts_in D i c))
      (back : (f : Fact) → In f further → (c : Usage) → In f (facts_in D i c) → about f ≡ true) where
    abbrev answer : Bool
    answer = tries_by (before D i y (held D i y)) can (after D i y (held D i y)) (any (λ f. not (about f)) further)

    tried_answers : tries D i x ≡ true → answer ≡ true
    unfolding tries breaks
    tried_answers t =
        let r = any_in (breaks D (plain_objects D i) (plain_event D i) y) (sets D i y) t in
        go r.0 (sets_cases D wf i idx y r.0 r.1) r.2
      where
        go : (fs : List Fact) → SetCases D wf i idx y fs → breaks D (plain_objects D i) (plain_event D i) y fs ≡ true → answer ≡ true
        go fs (inl e) b =
            let b' : breaks D (plain_objects D i) (plain_event D i) y (held_facts D i) ≡ true = rw e at b in
            and_i {a = leb (before D i y (held D i y)) 1 && can} (and_l _ _ b')
            (or_l _ (and_r (leb (before D i y (held D i y)) 1 && can) _ b'))
        go fs (inr (f, m, e)) b =
            and_i {a = leb (before D i y (held D i y)) 1 && can}
            (and_i {a = leb (before D i y (held D i y)) 1} (le-leb _ 1 (held_low D i y f fits low ok high))
            (held_can D i y f fits low ok high))
            (by (bool_cases (leb 2 (after D i y (held D i y)))))
          where
            fits : matches D y f ≡ true
            fits = further_matches f m

            b' : breaks D (plain_objects D i) (plain_event D i) y (held_facts D i ++ (f ∷ [])) ≡ true
            b' = rw e at b

            low : before D i y (more D i y f fits) ≤ 1
            low = leb-true _ 1 (and_l _ _ (and_l _ _ b'))

            ok : allowed D (plain_objects D i) (start_state (more D i y f fits)) (plain_event D i ∷ []) ≡ true
            ok = and_r (leb (before D i y (more D i y f fits)) 1) _ (and_l _ _ b')

            high : 2 ≤ after D i y (more D i y f fits)
            high = leb-true 2 _ (and_r (leb (before D i y (more D i y f fits)) 1
                && allowed D (plain_objects D i) (start_state (more D i y f fits)) (plain_event D i ∷ [])) _ b')

            by : (leb 2 (after D i y (held D i y)) ≡ true) ⊎ (leb 2 (after D i y (held D i y)) ≡ false)
                → leb 2 (after D i y (held D i y))
                || (eqb (before D i y (held D i y)) 0 && eqb (after D i y (held D i y)) 1 && any (λ f. not (about f)) further) ≡ true
            by (inl u) = or_l _ u
            by (inr u) =
                let l = leb-false 2 (after D i y (held D i y)) u in
                let few : after D i y (held D i y) ≤ 1 = omega arith in
                let some = left_some D i y f fits low ok high few in
                or_r (leb 2 (after D i y (held D i y)))
                (and_i (and_i (eq-eqb (before D i y (held D i y)) 0
                (weighs_none D y (start_state (held_facts D i)).facts
                (λ g n. held_none D i y f fits low ok high few g (dedup_in same_fact (held_facts D i) n))))
                (eq-eqb (after D i y (held D i y)) 1 (omega arith)))
                (in_any (λ f. not (about f)) m (ap not (off (about f)
                (λ k. let q = yes f m k in untouched D i y f fits low ok high few q.0 q.1)))))

    answers_tried : answer ≡ true → tries D i x ≡ true
    unfolding tries breaks
    answers_tried a = go (or_cases _ _ (and_r (leb (before D i y (held D i y)) 1 && can) _ a))
      where
        go : (leb 2 (after D i y (held D i y)) ≡ true)
            ⊎ (eqb (before D i y (held D i y)) 0 && eqb (after D i y (held D i y)) 1 && any (λ f. not (about f)) further ≡ true)
            → any (breaks D (plain_objects D i) (plain_event D i) y) (sets D i y) ≡ true
        go (inl u) =
            in_any (breaks D (plain_objects D i) (plain_event D i) y) (conditions_set D wf i idx y)
            (and_i {a = leb (before D i y (held D i y)) 1 && can} (and_l _ _ a) u)
        go (inr u) =
            let r = any_in (λ f. not (about f)) further
            (and_r (eqb (before D i y (held D i y)) 0 && eqb (after D i y (held D i y)) 1) _ u) in
            of_further r.0 r.1 (λ c k. clash (back r.0 r.1 c k) (not_true _ r.2))
          where
            none : before D i y (held D i y) ≡ 0
            none = eqb-true _ 0 (and_l _ _ (and_l _ _ u))

            one : 1 ≤ after D i y (held D i y)
            one = let e = eqb-true (after D i y (held D i y)) 1 (and_r (eqb (before D i y (held D i y)) 0) _ (and_l _ _ u)) in omega arith

            ok : can ≡ true
            ok = and_r (leb (before D i y (held D i y)) 1) _ (and_l _ _ a)

            of_further : (f : Fact) → In f further → ((c : Usage) → In f (facts_in D i c) → ⊥)
                → any (breaks D (plain_objects D i) (plain_event D i) y) (sets D i y) ≡ true
            of_further f m free =
                let fits = further_matches f m in
                in_any (breaks D (plain_objects D i) (plain_event D i) y) (further_set D wf i idx y f m)
                (and_i (and_i (le-leb _ 1 (more_low D i y f fits ok none one free)) (more_can D i y f fits ok none one free))
                (le-leb 2 _ (more_high D i y f fits ok none one free)))

    pub tries_by_lem : tries D i x ≡ answer
    tries_by_lem = both_ways (tries D i x) answer tried_answers answers_tried
