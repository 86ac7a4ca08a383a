-- Where no action lasts: a template is refused exactly where one event can do harm, and the witness shows it. Assumes nothing.
use mathlib.Core.Path.{◌≡◌, refl, sym, ap, ap₂, ◌∙◌}
use mathlib.Core.Bool.{Bool, true, false, not, cond, false≢true}
use mathlib.Core.Logic.{◌⊎◌, inl, inr}
use mathlib.Core.Option.{Option, none, some}
use mathlib.Core.List.Memᴰ
use mathlib.Core.List.{List}
use Prim.Native.Nat.{ℕ, ◌≤◌, ◌<◌}
use native.Mathlib.Omega.{arith}
use lib.Dec.{leb}
use lib.ListN.{length}
use borrow.Author.Tests.{ne_eqb, eqb-false, leb-true, le-leb}
use Rattle.records.specs.Lists.{In, any}
use Rattle.records.proofs.Lists.{and_l, and_i, not_true, clash, any_in, all_in}
use Rattle.literals.specs.Domain.{Action, Domain, action}
use Rattle.literals.specs.declared.Moment.{Moment}
use Rattle.literals.specs.declared.Moment.TheVariants.{Start}
use Rattle.classes.specs.declared.Name.{Name}
use Rattle.classes.specs.declared.Name.TheVariants.{Unreachable, Irrelevant, Heavy, Balanced, Unbalanced, Bounded, Unbounded}
use Rattle.literals.specs.Matching.{moment_number}
use Rattle.classes.specs.Classes.{moments_of, name_of}
use Rattle.verdict.specs.Decision.{Row, journey_end_at, rows, is_unbounded, fault_by, fault_of, is_faulty, is_bounded_outside, first_row, Decision, accept, refuse_row, decide_bounded, decide_by, decide_rows, decision, class_at, witness_at, witness_of, witness, shown_at, shown_of, is_shown, worst_row}
use Rattle.verdict.specs.Judged.{answer_row, decided}
use Rattle.verdict.specs.Claims.{well_formed, none_lasts, refused_for_class, Harmful, FaultyClass, ClassAtOnce, Exactness, Shown, WitnessShows, plain_objects, plain_instance, plain_event}
use Rattle.verdict.proofs.WellFormed.{action_in}
use Rattle.verdict.proofs.Rows.{row_of_lem, stands, worst_first, worst_none, fine_rows}
use Rattle.verdict.proofs.Harm.{harm_listed, class_listed, class_exactness, harm_of_faulty_class}

-- ---- the numbers of faults

fault_range : (n : Name) → (fault_by n false ≡ 0 → ⊥) → (40 ≤ fault_by n false) × (fault_by n false ≤ 42)
fault_range Unreachable ne = absurd (ne refl)
fault_range Irrelevant ne = absurd (ne refl)
fault_range Heavy ne = (omega arith, omega arith)
fault_range Balanced ne = absurd (ne refl)
fault_range Unbalanced ne = (omega arith, omega arith)
fault_range Bounded ne = absurd (ne refl)
fault_range Unbounded ne = (omega arith, omega arith)

unbounded_fault : (n : Name) → is_unbounded n ≡ true → fault_by n false ≡ 0 → ⊥
unbounded_fault Unreachable h z = false≢true h
unbounded_fault Irrelevant h z = false≢true h
unbounded_fault Heavy h z = false≢true h
unbounded_fault Balanced h z = false≢true h
unbounded_fault Unbalanced h z = false≢true h
unbounded_fault Bounded h z = false≢true h
unbounded_fault Unbounded h z = omega arith

-- ---- where no row is a journey's end, a faulty row decides

abbrev Outcome : List Row → Decision → Type 0
Outcome rs d = (d ≡ accept 0) ⊎ ((r : Row) × In r rs × (is_faulty r ≡ true) × (d ≡ refuse_row (fault_of r) r))

outcome : (rs : List Row) → ((r : Row) → In r rs → r.journey_end ≡ false) → Outcome rs (decide_rows rs)
unfolding decide_rows
outcome rs h = go (worst_row rs) refl
  where
    fault_free : worst_row rs ≡ none → (b : Bool) → any (λ (r : Row). is_unbounded r.name) rs ≡ b
        → Outcome rs (cond b (decide_bounded (first_row is_bounded_outside rs)) (accept 0))
    fault_free e false t = inl refl
    fault_free e true t =
        let u = any_in (λ (r : Row). is_unbounded r.name) rs t in
        absurd (clash (ap not (ne_eqb (fault_of u.0) 0 (λ z. unbounded_fault u.0.name u.2 (sym (ap (fault_by u.0.name) (h u.0 u.1)) ∙ z))))
        (worst_none rs e u.0 u.1))

    go : (o : Option Row) → worst_row rs ≡ o → Outcome rs (decide_by o rs)
    go (some q) e = let r = worst_first rs q e in inr (q, r.0, r.1, refl)
    go none e = fault_free e _ refl

module _ (D : Domain) (nl : none_lasts D ≡ true) where
  at_once_lem : (i : ℕ) → i < length D.actions → (action D i).lasting ≡ false
  unfolding none_lasts
  at_once_lem i l = not_true _ (all_in (λ (a : Action). not a.lasting) D.actions nl (action_in D i l))

  only_start : (a : Action) (m : Moment) → a.lasting ≡ false → In m (moments_of a) → m ≡ Start
  only_start a m l h = Memᴰ.eq_of_singleton (rw l at h)

  starts : (r : Row) → In r (rows D) → r.moment ≡ Start
  starts r m = let s = stands D r m in only_start (action D r.action) r.moment (at_once_lem r.action s.action_listed) s.moment_listed

  no_end : (r : Row) → In r (rows D) → r.journey_end ≡ false
  no_end r m = ap (λ (q : Row). q.journey_end) (stands D r m).is ∙ ap (journey_end_at D (action D r.action) (class_at D r.action r.class)) (starts r m)

  fault_of_lem : (r : Row) → In r (rows D) → fault_of r ≡ fault_by (name_of D (action D r.action) (class_at D r.action r.class) Start) false
  fault_of_lem r m =
      ap₂ fault_by (ap (λ (q : Row). q.name) (stands D r m).is ∙ ap (name_of D (action D r.action) (class_at D r.action r.class)) (starts r m)) (no_end r m)

  faulty_class : (r : Row) → In r (rows D) → is_faulty r ≡ true → FaultyClass D r.action r.class
  faulty_class r m t z = eqb-false (fault_of r) 0 (not_true _ t) (fault_of_lem r m ∙ z)

  class_of : (r : Row) → In r (rows D) → ClassAtOnce D r.action r.class
  class_of r m = let s = stands D r m in record { listed = s.action_listed; at_once_lem = at_once_lem r.action s.action_listed; numbered = s.class_listed }

  -- ---- the witness is written

  pub always_shown : is_shown D ≡ true
  unfolding is_shown decision
  always_shown = go (outcome (rows D) no_end)
    where
      go : Outcome (rows D) (decision D) → shown_of D (decision D).place ≡ true
      go (inl e) = ap (λ (d : Decision). shown_of D d.place) e
      go (inr (r, m, f, e)) = ap (λ (d : Decision). shown_of D d.place) e ∙ ap (shown_at D (action D r.action) (class_at D r.action r.class)) (starts r m)

  -- ---- the answer, by the outcome

  module _ (wf : well_formed D ≡ true) where
    outcome_of : Outcome (rows D) (decision D)
    unfolding decision
    outcome_of = outcome (rows D) no_end

    shown : (r : Row) → In r (rows D) → is_faulty r ≡ true → decision D ≡ refuse_row (fault_of r) r → Shown D (decided D)
    unfolding decided witness
    shown r m t de =
        let e : decided D ≡ answer_row (fault_of r) (some r) = ap (λ (d : Decision). answer_row d.number d.place) de in
        let w : witness D ≡ witness_at D (action D r.action) (class_at D r.action r.class) Start
        = ap (λ (d : Decision). witness_of D d.place) de ∙ ap (witness_at D (action D r.action) (class_at D r.action r.class)) (starts r m) in
        let range = fault_range (name_of D (action D r.action) (class_at D r.action r.class) Start) (faulty_class r m t) in
        let harm = (class_exactness D wf r.action r.class (class_of r m)).0 (faulty_class r m t) in
        rw e (record {
          numbered = rw (fault_of_lem r m) range;
          action_listed = (class_of r m).listed;
          class_listed = (class_of r m).numbered;
          at_start_lem = ap moment_number (starts r m);
          harm = rw w harm;
        })

    -- an answer that is no refusal for a class is 0
    accepted : decision D ≡ accept 0 → (decided D).number ≡ 0
    unfolding decided
    accepted e = ap (λ (d : Decision). (answer_row d.number d.place).number) e

    shows : refused_for_class (decided D) ≡ true → Shown D (decided D)
    shows t = go outcome_of
      where
        go : Outcome (rows D) (decision D) → Shown D (decided D)
        go (inl e) = let z = leb-true 40 (decided D).number (and_l (leb 40 (decided D).number) (leb (decided D).number 43) t) in let y = accepted e in absurd (omega arith)
        go (inr (r, m, f, e)) = shown r m f e

    -- harm is of a faulty class, and that class's row is no row of an accepted template
    harm_refused : Harmful D → refused_for_class (decided D) ≡ true
    harm_refused (objs, fs, y, e, h) = go outcome_of
      where
        refused : Shown D (decided D) → refused_for_class (decided D) ≡ true
        refused s = and_i (le-leb 40 (decided D).number s.numbered.0) (le-leb (decided D).number 43 (let z = s.numbered.1 in omega arith))

        listed : e.act.action < length D.actions
        listed = harm_listed D wf objs fs y e h

        go : Outcome (rows D) (decision D) → refused_for_class (decided D) ≡ true
        go (inl de) =
            let k = harm_of_faulty_class D wf objs fs y e h (at_once_lem e.act.action listed) in
            let c = k.1 in
            let r = row_of_lem D e.act.action (class_at D e.act.action k.0) Start c.listed refl (class_listed D e.act.action k.0 c.numbered) in
            absurd (k.3 (fine_rows D true (ap (λ (d : Decision). d.number) de) _ r.2).sound)
        go (inr (r, m, f, de)) = refused (shown r m f de)

pub witness_shows : WitnessShows
witness_shows D wf nl t = shows D nl wf t

pub exactness : Exactness
exactness D wf nl = (
  λ t. let s = witness_shows D wf nl t in (
    plain_objects D (decided D).first,
    witness D,
    plain_instance D (decided D).first (decided D).second,
    plain_event D (decided D).first,
    s.harm,
  ),
  harm_refused D nl wf,
)
