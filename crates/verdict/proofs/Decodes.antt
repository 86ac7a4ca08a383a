-- The domain that a file says is well-formed: each record read keeps it so. Assumes nothing.
use mathlib.Core.Path.{◌≡◌, refl, ap, ap₂, ◌∙◌}
use mathlib.Core.Bool.{Bool, true, false, not, ◌&&◌, cond, false≢true}
use mathlib.Core.List.{List, [], ◌∷◌, ◌++◌, map}
use Prim.Native.Nat.{ℕ, ◌+◌, ◌-◌, ◌<◌}
use native.Mathlib.Omega.{arith}
use lib.Dec.{eqb, ltb}
use lib.ListN.{length, drop, length-append, length-drop, length-map, get_or-append}
use borrow.Author.Tests.{ltb-true, lt-ltb, eq-eqb}
use Rattle.records.specs.Lists.{In, all, any, empty, distinct}
use Rattle.records.proofs.Lists.{and_l, and_r, and_i, or_out, not_false, all_in, all_of, any_out, eqb_comm, all_snoc, pairwise_snoc}
use Rattle.records.proofs.Lists.{all_weaken, any_none, all_map}
use Rattle.literals.specs.declared.Time.{Time}
use Rattle.literals.specs.declared.Time.TheVariants.{AtStart}
use Rattle.literals.specs.declared.Usage.{Usage}
use Rattle.literals.specs.declared.Usage.TheVariants.{Positive, Negative, Add, Delete}
use Rattle.literals.specs.Domain.{variable_below, usage_number, first_role, same_time, Literal, clears_once, Action, Component, keeps_keys}
use Rattle.literals.specs.Domain.{Template, keys_of, labels_fit, Domain, arity}
use Rattle.literals.specs.Decode.{RecordKind, relation_record, action_record, literal_record, component_record, closing_record, unknown_record}
use Rattle.literals.specs.Decode.{latest, byte, argument_of, literal_of, no_variable, repeats, contrary, together, contradicts, label_of}
use Rattle.literals.specs.Decode.{component_of, literal_stop, component_stop, field_stop, stop_of, with_literal, action_of, extend, no_domain}
use Rattle.literals.proofs.Stops.{passes, literal_passes, ComponentPasses, component_passes}
use Rattle.literals.proofs.Equality.{literal_comm}
use Rattle.literals.proofs.Arguments.{meets_comm}
use Rattle.literals.proofs.Loop.{decoded_by}
use Rattle.verdict.specs.Claims.{has_arity, literal_fits, well_formed_action, well_formed_template, well_formed, DecodedIsWellFormed}

-- ---- the tests of a literal and of a component

-- the earlier literal first
abbrev agree : Literal → Literal → Bool
agree l m = not (repeats l m) && not (contradicts l m)

-- a component of a template with n keys
abbrev component_fits : Domain → ℕ → Component → Bool
component_fits D n c = has_arity D c.rel c.labels && labels_fit n c.labels

abbrev same_relation : Component → Component → Bool
same_relation c d = eqb c.rel d.rel

literal_parts : (D : Domain) (n : ℕ) (l : Literal) → literal_fits D n l ≡ true
    → (has_arity D l.atom.rel l.atom.args ≡ true) × (all (variable_below n) l.atom.args ≡ true) × (clears_once l ≡ true)
    × (all (λ c. keeps_keys c l.atom) D.template ≡ true)
literal_parts D n l h = (
  and_l _ _ (and_l _ _ (and_l _ _ h)),
  and_r (has_arity D l.atom.rel l.atom.args) _ (and_l _ _ (and_l _ _ h)),
  and_r (has_arity D l.atom.rel l.atom.args && all (variable_below n) l.atom.args) _ (and_l _ _ h),
  and_r (has_arity D l.atom.rel l.atom.args && all (variable_below n) l.atom.args && clears_once l) _ h,
)

-- ---- the tests of two literals do not mind which comes first

repeats_comm : (l m : Literal) → repeats l m ≡ repeats m l
repeats_comm l m =
    ap₂ ◌&&◌ (ap₂ ◌&&◌ (eqb_comm (first_role l.role.time) (first_role m.role.time)) (eqb_comm (usage_number l.role.usage) (usage_number m.role.usage)))
    (literal_comm l.atom m.atom)

contrary_comm : (c d : Usage) → contrary c d ≡ contrary d c
contrary_comm Positive Positive = refl
contrary_comm Positive Negative = refl
contrary_comm Positive Add = refl
contrary_comm Positive Delete = refl
contrary_comm Negative Positive = refl
contrary_comm Negative Negative = refl
contrary_comm Negative Add = refl
contrary_comm Negative Delete = refl
contrary_comm Add Positive = refl
contrary_comm Add Negative = refl
contrary_comm Add Add = refl
contrary_comm Add Delete = refl
contrary_comm Delete Positive = refl
contrary_comm Delete Negative = refl
contrary_comm Delete Add = refl
contrary_comm Delete Delete = refl

together_comm : (t u : Time) → together t u ≡ together u t
together_comm t u = go (same_time t AtStart) (same_time u AtStart)
  where
    go : (a b : Bool) → cond a b (not b) ≡ cond b a (not a)
    go true true = refl
    go true false = refl
    go false true = refl
    go false false = refl

contradicts_comm : (l m : Literal) → contradicts l m ≡ contradicts m l
contradicts_comm l m =
    ap₂ ◌&&◌ (ap₂ ◌&&◌ (contrary_comm l.role.usage m.role.usage) (together_comm l.role.time m.role.time))
    (meets_comm l.atom m.atom)

-- ---- a relation with its arity

-- of a record with n bytes, k of them before the arguments
has_arity_lem : {A : Type 0} (D : Domain) (r n k : ℕ) (vs : List A) → r < length D.arities → n ≡ k + arity D r → length vs ≡ n - k → has_arity D r vs ≡ true
has_arity_lem D r n k vs h w q = and_i (lt-ltb r (length D.arities) h) (eq-eqb (length vs) (arity D r) (omega arith))

-- one relation more leaves the arities of those before it
arity_more : {A : Type 0} (D : Domain) (p : List ℕ) (r : ℕ) (vs : List A) → has_arity D r vs ≡ true → has_arity (extend D relation_record p) r vs ≡ true
unfolding extend
arity_more D p r vs t =
    let h = ltb-true r (length D.arities) (and_l _ _ t) in
    let q = length-append D.arities (byte p 0 ∷ []) in
    and_i (lt-ltb r (length (D.arities ++ (byte p 0 ∷ []))) (omega arith)) (rw (get_or-append D.arities (byte p 0 ∷ []) 0 r h) (and_r (ltb r (length D.arities)) _ t))

-- ---- kind 1: one relation more

module _ (D : Domain) (p : List ℕ) where
  relation_action : (a : Action) → well_formed_action D a ≡ true → well_formed_action (extend D relation_record p) a ≡ true
  unfolding well_formed_action extend
  relation_action a t =
      and_i (all_weaken (literal_fits D a.vars) (literal_fits (extend D relation_record p) a.vars) a.lits fits (and_l _ _ t)) (and_r (all (literal_fits D a.vars) a.lits) _ t)
    where
      fits : (l : Literal) → literal_fits D a.vars l ≡ true → literal_fits (extend D relation_record p) a.vars l ≡ true
      fits l h =
          let g = literal_parts D a.vars l h in
          and_i {b = all (λ c. keeps_keys c l.atom) D.template}
          (and_i (and_i (arity_more D p l.atom.rel l.atom.args g.0) g.1) g.2) g.3

  relation_template : well_formed_template D ≡ true → well_formed_template (extend D relation_record p) ≡ true
  unfolding well_formed_template extend
  relation_template t =
      and_i {a = distinct same_relation D.template} (and_l _ _ t)
      (all_weaken (component_fits D n) (component_fits (extend D relation_record p) n) D.template fits (and_r (distinct same_relation D.template) _ t))
    where
      n : ℕ
      n = keys_of D.template

      fits : (c : Component) → component_fits D n c ≡ true → component_fits (extend D relation_record p) n c ≡ true
      fits c h = and_i (arity_more D p c.rel c.labels (and_l _ _ h)) (and_r (has_arity D c.rel c.labels) _ h)

  relation_keeps : well_formed D ≡ true → well_formed (extend D relation_record p) ≡ true
  unfolding well_formed extend
  relation_keeps h =
      and_i (all_weaken (well_formed_action D) (well_formed_action (extend D relation_record p)) D.actions relation_action (and_l _ _ h))
      (relation_template (and_r (all (well_formed_action D) D.actions) _ h))

-- ---- kind 2: one action more, as yet without literals

action_keeps : (D : Domain) (p : List ℕ) → well_formed D ≡ true → well_formed (extend D action_record p) ≡ true
unfolding well_formed well_formed_action well_formed_template extend
action_keeps D p h = and_i (all_snoc (well_formed_action D) D.actions (action_of p) (and_l _ _ h) refl) (and_r (all (well_formed_action D) D.actions) _ h)

-- ---- kind 3: one literal more

abbrev one_more : Literal → Action → Action
one_more l a = record { vars = a.vars; lasting = a.lasting; lits = a.lits ++ (l ∷ []) }

all_with_literal : (t : Action → Bool) (l : Literal) (xs : List Action) → (t (latest xs) ≡ true → t (one_more l (latest xs)) ≡ true) → all t xs ≡ true → all t (with_literal l xs) ≡ true
all_with_literal t l [] k h = refl
all_with_literal t l (a ∷ []) k h = and_i (k (and_l _ _ h)) refl
all_with_literal t l (a ∷ b ∷ bs) k h = and_i {a = t a} (and_l _ (all t (b ∷ bs)) h) (all_with_literal t l (b ∷ bs) k (and_r (t a) _ h))

literal_agrees : (l : Literal) (ms : List Literal) → any (repeats l) ms ≡ false → any (contradicts l) ms ≡ false → all (λ m. agree m l) ms ≡ true
literal_agrees l ms f g =
    all_of (λ m. agree m l) ms
    (λ m i. and_i (ap not (repeats_comm m l ∙ any_out (repeats l) f i)) (ap not (contradicts_comm m l ∙ any_out (contradicts l) g i)))

-- no component is read yet
all_empty : (t : Component → Bool) (cs : List Component) → empty cs ≡ true → all t cs ≡ true
all_empty t [] e = refl
all_empty t (c ∷ cs) e = absurd (false≢true e)

literal_keeps : (D : Domain) (p : List ℕ) → well_formed D ≡ true → empty D.template ≡ true → literal_stop D p ≡ 0
    → well_formed (extend D literal_record p) ≡ true
unfolding well_formed well_formed_action well_formed_template extend
literal_keeps D p h none e =
    and_i (all_with_literal (well_formed_action D) (literal_of p) D.actions keeps (and_l _ _ h))
    (and_r (all (well_formed_action D) D.actions) _ h)
  where
    a : Action
    a = latest D.actions

    keeps : well_formed_action D a ≡ true → well_formed_action D (one_more (literal_of p) a) ≡ true
    keeps t =
        let q = literal_passes D p e in
        let new =
        and_i (and_i (and_i (has_arity_lem D (byte p 1) (length p) 2 (map argument_of (drop 2 p)) q.relation q.arguments
        (length-map (drop 2 p) argument_of ∙ length-drop 2 p))
        (all_map argument_of (variable_below a.vars) (drop 2 p)
        ∙ any_none (no_variable a.vars) (λ n. variable_below a.vars (argument_of n)) (drop 2 p) (λ n k. not_false _ k) q.variables))
        q.clears) (all_empty (λ c. keeps_keys c (literal_of p).atom) D.template none) in
        and_i (all_snoc (literal_fits D a.vars) a.lits (literal_of p) (and_l _ _ t) new)
        (pairwise_snoc agree a.lits (literal_of p) (and_r (all (literal_fits D a.vars) a.lits) _ t) (literal_agrees (literal_of p) a.lits q.once q.agrees))

-- ---- kind 4: one component more

-- the first component alone says how many keys there are
keys_kept : (D : Domain) (cs : Template) (c : Component) → all (component_fits D (keys_of cs)) cs ≡ true → all (component_fits D (keys_of (cs ++ (c ∷ [])))) cs ≡ true
keys_kept D [] c h = refl
keys_kept D (d ∷ ds) c h = h

component_keeps : (D : Domain) (p : List ℕ) → well_formed D ≡ true → component_stop D p ≡ 0 → well_formed (extend D component_record p) ≡ true
unfolding well_formed well_formed_action well_formed_template extend
component_keeps D p h e =
    and_i (all_of (well_formed_action (extend D component_record p)) D.actions actions)
    (and_i (pairwise_snoc (λ d x. not (same_relation d x)) D.template c (and_l _ _ t) other)
    (all_snoc (component_fits D n) D.template c (keys_kept D D.template c (and_r (distinct same_relation D.template) _ t)) new))
  where
    c : Component
    c = component_of p

    n : ℕ
    n = keys_of (D.template ++ (c ∷ []))

    t : well_formed_template D ≡ true
    t = and_r (all (well_formed_action D) D.actions) _ h

    q : ComponentPasses D p
    q = component_passes D p e

    keys : (a : Action) → In a D.actions → (l : Literal) → In l a.lits → keeps_keys c l.atom ≡ true
    keys a m l i =
        not_false _ (any_out (λ (l : Literal). not (keeps_keys c l.atom))
        (any_out (λ (a : Action). any (λ (l : Literal). not (keeps_keys c l.atom)) a.lits) q.keys m) i)

    actions : (a : Action) → In a D.actions → well_formed_action (extend D component_record p) a ≡ true
    actions a m =
        let ok = all_in (well_formed_action D) D.actions (and_l _ _ h) m in
        and_i (all_of (literal_fits (extend D component_record p) a.vars) a.lits
        (λ l i. fits l i (literal_parts D a.vars l (all_in (literal_fits D a.vars) a.lits (and_l _ _ ok) i))))
        (and_r (all (literal_fits D a.vars) a.lits) _ ok)
      where
        fits : (l : Literal) → In l a.lits
            → (has_arity D l.atom.rel l.atom.args ≡ true) × (all (variable_below a.vars) l.atom.args ≡ true)
            × (clears_once l ≡ true) × (all (λ c. keeps_keys c l.atom) D.template ≡ true)
            → literal_fits (extend D component_record p) a.vars l ≡ true
        fits l i g =
            and_i (and_i (and_i g.0 g.1) g.2) (all_snoc (λ c. keeps_keys c l.atom) D.template c g.3 (keys a m l i))

    other : all (λ d. not (same_relation d c)) D.template ≡ true
    other = any_none (same_relation c) (λ d. not (same_relation d c)) D.template (λ d k. ap not (eqb_comm d.rel c.rel ∙ k)) q.once

    new : component_fits D n c ≡ true
    new = and_i (has_arity_lem D (byte p 0) (length p) 1 c.labels q.relation q.arguments (length-map (drop 1 p) label_of ∙ length-drop 1 p)) q.labels

-- ---- the file

record_keeps : (D : Domain) (k : RecordKind) (p : List ℕ) → well_formed D ≡ true → stop_of D k p ≡ 0 → well_formed (extend D k p) ≡ true
unfolding field_stop extend
record_keeps D relation_record p h e = relation_keeps D p h
record_keeps D action_record p h e = action_keeps D p h
record_keeps D literal_record p h e =
    literal_keeps D p h (not_false _ (or_out (empty D.actions) _ (passes D literal_record p e).order).1)
    (passes D literal_record p e).fields
record_keeps D component_record p h e = component_keeps D p h (passes D component_record p e).fields
record_keeps D closing_record p h e = h
record_keeps D unknown_record p h e = h

no_domain_fits : well_formed no_domain ≡ true
unfolding well_formed well_formed_template
no_domain_fits = refl

pub decoded_well_formed : DecodedIsWellFormed
decoded_well_formed = decoded_by (λ D. well_formed D ≡ true) record_keeps no_domain_fits
