-- Conditions: what ground literals ask of the rows of facts is what the machine asks of the facts. Assumes nothing.
use mathlib.Core.Path.{◌≡◌, refl, sym, ap, ap₂, ◌∙◌, subst}
use mathlib.Core.Bool.{Bool, true, false, ◌&&◌, ◌||◌, not, cond}
use mathlib.Core.List.Memᴰ
use mathlib.Core.List.{List, [], ◌∷◌, ◌++◌, map, flat_map}
use Prim.Native.Nat.{ℕ, ◌*◌, ◌≤◌, ◌<◌}
use native.Mathlib.Omega.{arith}
use lib.Dec.{eqb}
use lib.ListN.{length, get_or, take, drop}
use borrow.Author.Tests.{eqb-true, eq-eqb, ne_eqb}
use Rattle.records.specs.Lists.{In, keep_if, filter_by, count_by, all, any, elem}
use Rattle.records.proofs.Lists.{all_map, get_d_in}
use Rattle.literals.specs.declared.Object.{Object}
use Rattle.literals.specs.declared.Argument.{Argument}
use Rattle.literals.specs.declared.Time.{Time}
use Rattle.literals.specs.declared.Time.TheVariants.{AtStart, OverAll, AtEnd}
use Rattle.literals.specs.declared.Usage.{Usage}
use Rattle.literals.specs.declared.Usage.TheVariants.{Positive, Negative}
use Rattle.literals.specs.declared.Role.{Role}
use Rattle.literals.specs.Domain.{is_every, Atom, Fact, same_fact, role_number, Literal, Domain, action}
use Rattle.literals.specs.Held.{rows_in, HeadOf, Held, usage_for}
use Rattle.literals.specs.declared.Moment.{Moment}
use Rattle.literals.specs.declared.Moment.TheVariants.{Start, End}
use Rattle.literals.specs.Matching.{with_role, literals_at, over_all}
use Rattle.literals.proofs.Indices.{all_filter}
use Rattle.verdict.specs.Binding.{Binding, facts_of, bind}
use Rattle.verdict.specs.Machine.{GroundAction, Event, event_facts, over_all_facts, own_hold, over_all_hold}
use Rattle.verdict.specs.Held.{pattern_row, patterns_meet, fact_row}
use Rattle.verdict.proofs.Facts.{plain_facts}
use Rattle.verdict.proofs.Patterns.{plain_row, all_flat, literal_bound, literal_plain, none_about}
use Rattle.store.specs.Held.{has_row, Indexed}
use Rattle.events.specs.Held.{ground_row, Open, open_of, GroundFits, GroundsFit, OverObjects, time_of, GroundLiteral, ground_literals}
use Rattle.events.specs.Held.{event_literals, ground_in, Grounded}
use Rattle.applicability.specs.Held.{condition_met}
use Rattle.events.proofs.FactRows.{has_fact, counts_for, usage_counts, counts_plain, all_literals_lem, listed_in, head_kept, no_ground, open_count}
use Rattle.events.proofs.Listed.{entry_fits, entry_row}

-- ---- tests of the literals of a usage

with_role_lem : (p : Role → Bool) (ls : List Literal) → with_role p ls ≡ map (λ (l : Literal). l.atom) (filter_by (λ (l : Literal). p l.role) ls)
with_role_lem p [] = refl
with_role_lem p (l ∷ ls) = go (p l.role) (with_role_lem p ls)
  where
    go : (b : Bool) → with_role p ls ≡ map (λ (l : Literal). l.atom) (filter_by (λ (l : Literal). p l.role) ls)
        → keep_if b l.atom (with_role p ls) ≡ map (λ (l : Literal). l.atom) (keep_if b l (filter_by (λ (l : Literal). p l.role) ls))
    go true h = ap (λ (x : List (Atom Argument)). l.atom ∷ x) h
    go false h = h

module _ (p : Role → Bool) (q : Atom Argument → Bool) (ls : List Literal) where
  pub all_role : all q (with_role p ls) ≡ all (λ (l : Literal). not (p l.role) || q l.atom) ls
  all_role =
      ap (all q) (with_role_lem p ls)
      ∙ all_map (λ (l : Literal). l.atom) q (filter_by (λ (l : Literal). p l.role) ls)
      ∙ all_filter (λ (l : Literal). p l.role) (λ (l : Literal). q l.atom) ls

-- the facts of an event, as tests of its action's literals
pub all_event : (D : Domain) (objs : List Object) (e : Event) (c : Usage) (q : Fact → Bool)
    → all q (event_facts D objs e c)
    ≡ all (λ (l : Literal). not (counts_for (time_of e.moment) c l.role) || all q (facts_of objs e.act.binding l.atom))
    (action D e.act.action).lits
unfolding event_facts
all_event D objs e c q =
    all_flat (facts_of objs e.act.binding) q (literals_at (action D e.act.action) e.moment c)
    ∙ all_literals_lem (action D e.act.action) e.moment c (λ p. all q (facts_of objs e.act.binding p))
    ∙ all_role (counts_for (time_of e.moment) c) (λ p. all q (facts_of objs e.act.binding p)) (action D e.act.action).lits

-- ---- two tests at once, and tests that agree

module _ {A : Type 0} (p q : A → Bool) where
  all_and : (l : List A) → all p l && all q l ≡ all (λ a. p a && q a) l
  all_and [] = refl
  all_and (x ∷ xs) = go (p x) (q x) (all p xs) (all q xs) ∙ ap (λ (t : Bool). (p x && q x) && t) (all_and xs)
    where
      go : (a b c d : Bool) → (a && c) && (b && d) ≡ (a && b) && (c && d)
      go false b c d = refl
      go true true true d = refl
      go true true false d = refl
      go true false true d = refl
      go true false false d = refl

  pub all_agree : (l : List A) → ((a : A) → In a l → p a ≡ q a) → all p l ≡ all q l
  all_agree [] h = refl
  all_agree (x ∷ xs) h = ap₂ ◌&&◌ (h x (Memᴰ.head refl)) (all_agree xs (λ a m. h a (Memᴰ.tail m)))

-- ---- what a literal asks

abbrev asks : List Object → Time → GroundAction → List Fact → Literal → Bool
asks objs t g fs l =
    (not (counts_for t Positive l.role) || all (λ f. elem same_fact f fs) (facts_of objs g.binding l.atom))
    && (not (counts_for t Negative l.role) || all (λ f. not (elem same_fact f fs)) (facts_of objs g.binding l.atom))

and_all : (b : Bool) → b && true ≡ b
and_all true = refl
and_all false = refl

-- no usage is both 1 and 2
by_usage : (usage : ℕ) (a b d : Bool) → (usage ≡ 1 → a ≡ b)
    → cond (eqb usage 1) a (cond (eqb usage 2) d true) ≡ (not (eqb usage 1) || b) && (not (eqb usage 2) || d)
by_usage usage a b d s = go (eqb usage 1) refl (eqb usage 2) refl
  where
    go : (x : Bool) → eqb usage 1 ≡ x → (y : Bool) → eqb usage 2 ≡ y → cond x a (cond y d true) ≡ (not x || b) && (not y || d)
    go true e true f = let p = eqb-true usage 1 e in let q = eqb-true usage 2 f in absurd (omega arith)
    go true e false f = s (eqb-true usage 1 e) ∙ sym (and_all b)
    go false e true f = refl
    go false e false f = refl

-- a usage of 0 asks for nothing
none_asked : (usage : ℕ) (a d : Bool)
    → not (not (eqb usage 0)) || cond (eqb usage 1) a (cond (eqb usage 2) d true) ≡ cond (eqb usage 1) a (cond (eqb usage 2) d true)
none_asked usage a d = go (eqb usage 0) refl
  where
    go : (t : Bool) → eqb usage 0 ≡ t
        → not (not t) || cond (eqb usage 1) a (cond (eqb usage 2) d true) ≡ cond (eqb usage 1) a (cond (eqb usage 2) d true)
    go true e =
        let z = eqb-true usage 0 e in
        sym (rw (ne_eqb usage 1 (λ x. omega arith), ne_eqb usage 2 (λ x. omega arith)))
    go false e = refl

abbrev ground_of : Time → GroundAction → Literal → GroundLiteral
ground_of t g l = record { usage = usage_for t (role_number l.role); row = pattern_row g.binding l.atom }

-- a literal without FF asks for its one fact
one_asked : (objs : List Object) (b : Binding) (p : Atom Argument) → count_by is_every p.args ≡ 0 → (fs : List Fact)
    → has_row (pattern_row b p) (map fact_row fs) ≡ all (λ f. elem same_fact f fs) (facts_of objs b p)
one_asked objs b p k fs =
    ap (λ (row : List ℕ). has_row row (map fact_row fs)) (plain_row b p k)
    ∙ has_fact (bind b p) fs
    ∙ sym (ap (all (λ f. elem same_fact f fs)) (plain_facts objs b p k) ∙ and_all (elem same_fact (bind b p) fs))

module _ {D : Domain} {head : List ℕ} (H : HeadOf D head) {objs : List Object} {fs : List Fact} {gs : List GroundAction}
    (C : OverObjects D objs fs gs) (g : GroundAction) (F : GroundFits D g) (i : In g gs) where
  literal_asks : (t : Time) (l : Literal) → In l (action D g.action).lits
      → not (not (eqb (usage_for t (role_number l.role)) 0)) || condition_met (map fact_row fs) (ground_of t g l) ≡ asks objs t g fs l
  unfolding condition_met
  literal_asks t l m =
      let a = listed_in D g.action F.listed in
      let k = head_kept H g.action F.listed l m in
      let usage : ℕ = usage_for t (role_number l.role) in
      let row : List ℕ = pattern_row g.binding l.atom in
      let held : Bool = has_row row (map fact_row fs) in
      let met : Bool = any (patterns_meet row) (map fact_row fs) in
      let some : Bool = all (λ f. elem same_fact f fs) (facts_of objs g.binding l.atom) in
      none_asked usage held (not met)
      ∙ by_usage usage held some (not met)
      (λ e. one_asked objs g.binding l.atom
      (literal_plain H.bounded a l m
      (counts_plain t Positive l.role (sym (usage_counts t Positive l k) ∙ eq-eqb usage 1 e) refl)) fs)
      ∙ ap₂ (λ (x y : Bool). (not x || some) && (not y || not met)) (usage_counts t Positive l k) (usage_counts t Negative l k)
      ∙ ap (λ (z : Bool). (not (counts_for t Positive l.role) || some) && (not (counts_for t Negative l.role) || z))
      (sym (none_about D objs C.low g.binding (C.bindings g i) l.atom fs (literal_bound H.bounded a g.binding F.bound l m)
      C.facts))

-- ---- what an action asks

-- what an action asks of the facts at the start, over all, or at the end, each its own
unfoldable pub asked : Domain → List Object → Time → GroundAction → List Fact → Bool
unfolding own_hold over_all_hold
asked D objs AtStart g fs = own_hold D objs fs (record { moment = Start; act = g })
asked D objs OverAll g fs = over_all_hold D objs fs g
asked D objs AtEnd g fs = own_hold D objs fs (record { moment = End; act = g })

module _ (D : Domain) (objs : List Object) (g : GroundAction) (fs : List Fact) where
  -- of the facts of a literal, those of true conditions are there, and those of false ones are not
  abbrev there : Literal → Bool
  there l = all (λ f. elem same_fact f fs) (facts_of objs g.binding l.atom)

  abbrev absent : Literal → Bool
  absent l = all (λ f. not (elem same_fact f fs)) (facts_of objs g.binding l.atom)

  event_asks : (m : Moment)
      → own_hold D objs fs (record { moment = m; act = g }) ≡ all (asks objs (time_of m) g fs) (action D g.action).lits
  unfolding own_hold
  event_asks m =
      let e : Event = record { moment = m; act = g } in
      ap₂ ◌&&◌ (all_event D objs e Positive (λ f. elem same_fact f fs)) (all_event D objs e Negative (λ f. not (elem same_fact f fs)))
      ∙ all_and (λ (l : Literal). not (counts_for (time_of m) Positive l.role) || there l)
      (λ (l : Literal). not (counts_for (time_of m) Negative l.role) || absent l) (action D g.action).lits

  over_all_asks : over_all_hold D objs fs g ≡ all (asks objs OverAll g fs) (action D g.action).lits
  unfolding over_all_hold over_all_facts
  over_all_asks =
      let ls = (action D g.action).lits in
      ap₂ ◌&&◌
      (all_flat (facts_of objs g.binding) (λ f. elem same_fact f fs) (with_role (over_all Positive) ls)
      ∙ all_role (over_all Positive) (λ p. all (λ f. elem same_fact f fs) (facts_of objs g.binding p)) ls)
      (all_flat (facts_of objs g.binding) (λ f. not (elem same_fact f fs)) (with_role (over_all Negative) ls)
      ∙ all_role (over_all Negative) (λ p. all (λ f. not (elem same_fact f fs)) (facts_of objs g.binding p)) ls)
      ∙ all_and (λ (l : Literal). not (over_all Positive l.role) || there l)
      (λ (l : Literal). not (over_all Negative l.role) || absent l) ls

  asked_all : (t : Time) → asked D objs t g fs ≡ all (asks objs t g fs) (action D g.action).lits
  unfolding asked
  asked_all AtStart = event_asks Start
  asked_all OverAll = over_all_asks
  asked_all AtEnd = event_asks End

-- an event's conditions are what its action asks at its time
pub asked_event : (D : Domain) (objs : List Object) (e : Event) (fs : List Fact)
    → asked D objs (time_of e.moment) e.act fs ≡ own_hold D objs fs e
unfolding asked
asked_event D objs e fs = go e.moment
  where
    go : (m : Moment) → asked D objs (time_of m) e.act fs ≡ own_hold D objs fs (record { moment = m; act = e.act })
    go Start = refl
    go End = refl

-- ---- by ground literals

module _ {D : Domain} {head : List ℕ} (H : HeadOf D head) {objs : List Object} {fs : List Fact} {gs : List GroundAction}
    (C : OverObjects D objs fs gs) where
  pub ground_asks : (g : GroundAction) → GroundFits D g → In g gs → (t : Time)
      → all (condition_met (map fact_row fs)) (ground_literals D t g) ≡ asked D objs t g fs
  unfolding ground_literals
  ground_asks g F i t =
      let ls = (action D g.action).lits in
      let counted : Literal → Bool = λ l. not (eqb (usage_for t (role_number l.role)) 0) in
      all_map (ground_of t g) (condition_met (map fact_row fs)) (filter_by counted ls)
      ∙ all_filter counted (λ (l : Literal). condition_met (map fact_row fs) (ground_of t g l)) ls
      ∙ all_agree (λ (l : Literal). not (counted l) || condition_met (map fact_row fs) (ground_of t g l)) (asks objs t g fs) ls
      (literal_asks H C g F i t)
      ∙ sym (asked_all D objs g fs t)

  -- of an open entry, over all
  pub entry_asks : (g : GroundAction) → GroundFits D g → In g gs
      → all (condition_met (map fact_row fs)) (ground_literals D OverAll g) ≡ over_all_hold D objs fs g
  unfolding asked
  entry_asks g F i = ground_asks g F i OverAll

-- of every event of a step
all_parts : {A : Type 0} (q : A → Bool) (parts : List (List A)) → all q (flat_map (λ (part : List A). part) parts) ≡ all (all q) parts
unfolding flat_map
all_parts q [] = refl
all_parts {A} q (part ∷ parts) = joined part ∙ ap (λ (b : Bool). all q part && b) (all_parts q parts)
  where
    joined : (l : List A) → all q (l ++ flat_map (λ (part : List A). part) parts) ≡ all q l && all q (flat_map (λ
        (part : List A). part) parts)
    joined [] = refl
    joined (x ∷ xs) = ap (λ (b : Bool). q x && b) (joined xs) ∙ both (q x) (all q xs)
      where
        both : (a b : Bool) → a && (b && all q (flat_map (λ (part : List A). part) parts)) ≡ (a && b) && all q (flat_map (λ
            (part : List A). part) parts)
        both true b = refl
        both false b = refl

pub step_asks : {D : Domain} {head : List ℕ} {es : List Event} {memory : List ℕ} {total : ℕ} → Grounded D head es memory total
    → {objs : List Object} {fs : List Fact} → OverObjects D objs fs (map (λ (e : Event). e.act) es)
    → (facts : List (List ℕ)) → facts ≡ map fact_row fs
    → all (condition_met facts) (ground_in total memory) ≡ all (own_hold D objs fs) es
step_asks {D} {head} {es} G {objs} {fs} C facts f =
    ap₂ (λ (x : List (List ℕ)) (l : List GroundLiteral). all (condition_met x) l) f G.laid.filled
    ∙ all_parts (condition_met (map fact_row fs)) (map (event_literals D) es)
    ∙ all_map (event_literals D) (all (condition_met (map fact_row fs))) es
    ∙ all_agree (λ (e : Event). all (condition_met (map fact_row fs)) (event_literals D e)) (own_hold D objs fs) es
    (λ e m. ground_asks G.says C e.act (G.fit e m) (Memᴰ.map (λ (e : Event). e.act) m) (time_of e.moment)
    ∙ asked_event D objs e fs)

-- ---- the open entries, one after the other

-- one of them
pub chosen_entry : {D : Domain} {objs : List Object} {fs : List Fact} {gs : List GroundAction} → OverObjects D objs fs gs
    → (g : GroundAction) → In g gs → OverObjects D objs fs (g ∷ [])
chosen_entry {gs = gs} C g i =
    record {
      low = C.low;
      facts = C.facts;
      bindings = λ h m. C.bindings h (subst (λ (x : GroundAction). In x gs) (sym (Memᴰ.eq_of_singleton m)) i);
    }

-- where the loop over them stands
pub record InEntries (head table : List ℕ) (o : Open) (memory₀ memory index work : List ℕ) (n i : ℕ) : Type 0 where
  pub reach : i ≤ o.count
  pub sized : length memory ≡ length memory₀
  pub rest : (D : Domain) (gs : List GroundAction) (fs : List Fact) → Held D head table → o ≡ open_of gs → GroundsFit D gs
      → rows_in n work ≡ map fact_row fs → Indexed head index (map fact_row fs) → (objs : List Object) → OverObjects D objs fs gs
      → all (over_all_hold D objs fs) (drop i gs) ≡ all (over_all_hold D objs fs) gs

-- the entry of a turn
pub entry_turn : {head table index : List ℕ} (o : Open) (work : List ℕ) (n i : ℕ) {r : Bool}
    → ((D : Domain) (g : GroundAction) (fs : List Fact) → Held D head table → GroundFits D g
    → take 17 (drop (17 * i) o.rows) ≡ ground_row g
    → rows_in n work ≡ map fact_row fs → Indexed head index (map fact_row fs) → (objs : List Object) → OverObjects D objs fs (g ∷ [])
    → r ≡ over_all_hold D objs fs g)
    → i < o.count → (D : Domain) (gs : List GroundAction) (fs : List Fact) → Held D head table → o ≡ open_of gs → GroundsFit D gs
    → rows_in n work ≡ map fact_row fs → Indexed head index (map fact_row fs) → (objs : List Object) → OverObjects D objs fs gs
    → (i < length gs) × (r ≡ over_all_hold D objs fs (get_or gs i no_ground))
entry_turn o work n i met h D gs fs L e F f I objs C =
    let k = open_count gs o e in
    let b : i < length gs = omega arith in (
      b,
      met D (get_or gs i no_ground) fs L (entry_fits L.says i gs F b) (entry_row L.says i gs F b o e) f I objs
          (chosen_entry C (get_or gs i no_ground) (get_d_in gs i no_ground b)),
    )
