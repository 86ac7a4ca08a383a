-- A run with one step more, and start facts with one more. Assumes nothing.
use mathlib.Core.Path.{◌≡◌, refl, ap}
use mathlib.Core.Bool.{Bool, true, false, cond}
use mathlib.Core.List.{List, [], ◌∷◌, ◌++◌, map}
use Prim.Native.Nat.{ℕ, suc, max}
use native.Mathlib.Omega.{arith}
use lib.ListN.{length, length-append}
use Rattle.records.proofs.Lists.{dedup_snoc}
use Rattle.literals.specs.declared.Object.{Object}
use Rattle.literals.specs.Domain.{Fact, same_fact, Domain}
use Rattle.verdict.specs.Machine.{Event, State, allowed, next, start_state, run, last_state, largest, top_weight}
use Rattle.verdict.proofs.Equality.{fact_eq, fact_self}
use Rattle.run_semantics.specs.Play.{joined}

-- ---- the states of a run

-- the last state of a run
abbrev pub final : Domain → List Object → State → List (List Event) → State
final D objs s ess = last_state s (run D objs s ess)

-- all of its steps are taken
abbrev pub Taken : Domain → List Object → State → List (List Event) → Type 0
Taken D objs s ess = length (run D objs s ess) ≡ suc (length ess)

-- the highest weight in its states
abbrev pub peak : Domain → List Object → State → List (List Event) → ℕ
peak D objs s ess = largest (map (λ (t : State). top_weight D t.facts) (run D objs s ess))

last_snoc : (s : State) (l : List State) (t : State) → last_state s (l ++ (t ∷ [])) ≡ t
last_snoc s [] t = refl
last_snoc s (x ∷ xs) t = last_snoc x xs t

largest_snoc : (f : State → ℕ) (l : List State) (t : State) → largest (map f (l ++ (t ∷ []))) ≡ max (largest (map f l)) (f t)
largest_snoc f [] t = omega arith
largest_snoc f (x ∷ xs) t = let ih = largest_snoc f xs t in omega arith

-- a run reaches a state, so the state before it does not matter
final_any : (D : Domain) (objs : List Object) (s t : State) (ess : List (List Event)) → last_state s (run D objs t ess) ≡ final D objs t ess
unfolding run
final_any D objs s t [] = refl
final_any D objs s t (es ∷ rest) = refl

pub no_steps : (D : Domain) (objs : List Object) (s : State) → run D objs s [] ≡ s ∷ []
unfolding run
no_steps D objs s = refl

-- before any step the objects do not matter
module _ (D : Domain) (objs : List Object) (s : State) {ess : List (List Event)} (e : ess ≡ []) where
  pub taken_none : Taken D objs s ess
  taken_none = rw (e, no_steps)

  pub final_none : final D objs s ess ≡ s
  final_none = rw (e, no_steps)

  pub peak_none : peak D objs s ess ≡ max (top_weight D s.facts) 0
  peak_none = rw (e, no_steps)

-- ---- one step more

pub run_snoc : (D : Domain) (objs : List Object) (s : State) (ess : List (List Event)) (es : List Event) → Taken D objs s ess
    → allowed D objs (final D objs s ess) es ≡ true
    → run D objs s (ess ++ (es ∷ [])) ≡ run D objs s ess ++ (next D objs (final D objs s ess) es ∷ [])
unfolding run
run_snoc D objs s [] es h a = rw a
run_snoc D objs s (x ∷ xs) es h a = go (allowed D objs s x) h a (λ k b. run_snoc D objs (next D objs s x) xs es k b)
  where
    after : State
    after = next D objs s x

    go : (b : Bool) → suc (length (cond b (run D objs after xs) [])) ≡ suc (suc (length xs))
        → allowed D objs (last_state s (cond b (run D objs after xs) [])) es ≡ true
        → (Taken D objs after xs → allowed D objs (final D objs after xs) es ≡ true
        → run D objs after (xs ++ (es ∷ [])) ≡ run D objs after xs ++ (next D objs (final D objs after xs) es ∷ []))
        → s ∷ cond b (run D objs after (xs ++ (es ∷ []))) []
        ≡ s ∷ (cond b (run D objs after xs) [] ++ (next D objs (last_state s (cond b (run D objs after xs) [])) es ∷ []))
    go true h a ih = rw final_any (ap {B = List State} (λ l. s ∷ l) (ih (omega arith) (rw final_any at a)))
    go false h a ih = absurd (omega arith)

module _ (D : Domain) (objs : List Object) (s : State) (ess : List (List Event)) (es : List Event) (h : Taken D objs s ess)
    (a : allowed D objs (final D objs s ess) es ≡ true) where
  pub taken_snoc : Taken D objs s (ess ++ (es ∷ []))
  taken_snoc = rw run_snoc (simp length-append (omega arith))

  pub final_snoc : final D objs s (ess ++ (es ∷ [])) ≡ next D objs (final D objs s ess) es
  final_snoc = rw run_snoc (last_snoc s (run D objs s ess) (next D objs (final D objs s ess) es))

  pub peak_snoc : peak D objs s (ess ++ (es ∷ [])) ≡ max (peak D objs s ess) (top_weight D (next D objs (final D objs s ess) es).facts)
  peak_snoc = rw run_snoc (largest_snoc (λ (t : State). top_weight D t.facts) (run D objs s ess) (next D objs (final D objs s ess) es))

-- ---- one start fact more

pub start_snoc : (fs : List Fact) (f : Fact) → (start_state (fs ++ (f ∷ []))).facts ≡ joined f (start_state fs).facts
start_snoc fs f = dedup_snoc same_fact fact_eq fact_self fs f
