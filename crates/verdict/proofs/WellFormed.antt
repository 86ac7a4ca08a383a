-- What a well-formed domain gives the proofs, as facts. Assumes nothing.
use mathlib.Core.Path.{◌≡◌, sym, ap, ◌∙◌}
use mathlib.Core.Bool.{true, not, ◌&&◌}
use mathlib.Core.List.Memᴰ
use mathlib.Core.List.{List, [], ◌∷◌}
use Prim.Native.Nat.{ℕ, ◌<◌}
use lib.Dec.{eqb}
use lib.ListN.{length}
use borrow.Author.Tests.{ltb-true, eq-eqb}
use Rattle.records.specs.Lists.{In, all, pairwise, distinct}
use Rattle.records.proofs.Lists.{and_l, and_r, all_in, get_d_in, not_true, clash}
use Rattle.literals.specs.Domain.{variables_of, variable_below, Literal, clears_once, Action, Component, keeps_keys, keys_of, labels_fit, Domain}
use Rattle.literals.specs.Domain.{no_action, action}
use Rattle.literals.specs.Decode.{repeats, contradicts}
use Rattle.literals.proofs.Bounds.{variables_in_lem}
use Rattle.verdict.specs.Claims.{has_arity, literal_fits, well_formed_action, well_formed_template, well_formed}
use Rattle.verdict.proofs.Tuples.{Below}

-- ---- actions

module _ (D : Domain) (a : Action) (ok : well_formed_action D a ≡ true) where
  module _ (l : Literal) (m : In l a.lits) where
    fits_literal : literal_fits D a.vars l ≡ true
    unfolding well_formed_action
    fits_literal = all_in (literal_fits D a.vars) a.lits (and_l _ _ ok) m

    pub literal_arity_lem : has_arity D l.atom.rel l.atom.args ≡ true
    literal_arity_lem = and_l _ _ (and_l _ _ (and_l _ _ fits_literal))

    pub literal_below : Below a.vars (variables_of l.atom.args)
    literal_below v k =
        ltb-true v.0 a.vars
        (all_in (variable_below a.vars) l.atom.args
        (and_r (has_arity D l.atom.rel l.atom.args) _ (and_l _ _ (and_l _ _ fits_literal))) (variables_in_lem l.atom.args k))

    -- at most one FF, and only in a false condition or a delete
    pub literal_clears : clears_once l ≡ true
    literal_clears =
        and_r (has_arity D l.atom.rel l.atom.args && all (variable_below a.vars) l.atom.args) _ (and_l _ _ fits_literal)

    -- no component has a key where the literal has FF
    pub literal_keys : all (λ c. keeps_keys c l.atom) D.template ≡ true
    literal_keys =
        and_r (has_arity D l.atom.rel l.atom.args && all (variable_below a.vars) l.atom.args && clears_once l) _ fits_literal

  pub literals_apart : pairwise (λ l m. not (repeats l m) && not (contradicts l m)) a.lits ≡ true
  unfolding well_formed_action
  literals_apart = and_r (all (literal_fits D a.vars) a.lits) _ ok

-- the action of a number in the file
pub action_in : (D : Domain) (i : ℕ) → i < length D.actions → In (action D i) D.actions
unfolding action
action_in D i h = get_d_in D.actions i no_action h

pub action_well_formed : (D : Domain) → well_formed D ≡ true → (i : ℕ) → i < length D.actions → well_formed_action D (action D i) ≡ true
unfolding well_formed
action_well_formed D wf i h = all_in (well_formed_action D) D.actions (and_l _ _ wf) (action_in D i h)

-- ---- the template

pub template_well_formed : (D : Domain) → well_formed D ≡ true → well_formed_template D ≡ true
unfolding well_formed
template_well_formed D wf = and_r (all (well_formed_action D) D.actions) _ wf

module _ (D : Domain) (ok : well_formed_template D ≡ true) where
  once_each : distinct (λ (c d : Component). eqb c.rel d.rel) D.template ≡ true
  unfolding well_formed_template
  once_each = and_l _ _ ok

  -- one component a relation
  pub one_component : (c d : Component) → In c D.template → In d D.template → c.rel ≡ d.rel → c ≡ d
  one_component = go D.template once_each
    where
      differ : (c d : Component) (cs : List Component) → all (λ (e : Component). not (eqb c.rel e.rel)) cs ≡ true → In d cs → c.rel ≡ d.rel → ⊥
      differ c d cs o m e = clash (eq-eqb c.rel d.rel e) (not_true _ (all_in (λ (e : Component). not (eqb c.rel e.rel)) cs o m))

      go : (cs : List Component) → distinct (λ (c d : Component). eqb c.rel d.rel) cs ≡ true → (c d : Component) → In c cs → In d cs → c.rel ≡ d.rel → c ≡ d
      go [] o c d m n e = absurd (Memᴰ.not-nil m)
      go (x ∷ xs) o c d (Memᴰ.head p) (Memᴰ.head q) e = p ∙ sym q
      go (x ∷ xs) o c d (Memᴰ.head p) (Memᴰ.tail n) e = absurd (differ x d xs (and_l _ _ o) n (sym (ap (λ (z : Component). z.rel) p) ∙ e))
      go (x ∷ xs) o c d (Memᴰ.tail m) (Memᴰ.head q) e = absurd (differ x c xs (and_l _ _ o) m (sym (ap (λ (z : Component). z.rel) q) ∙ sym e))
      go (x ∷ xs) o c d (Memᴰ.tail m) (Memᴰ.tail n) e = go xs (and_r (all (λ (z : Component). not (eqb x.rel z.rel)) xs) _ o) c d m n e

  module _ (c : Component) (m : In c D.template) where
    fits : has_arity D c.rel c.labels && labels_fit (keys_of D.template) c.labels ≡ true
    unfolding well_formed_template
    fits =
        all_in (λ (c : Component). has_arity D c.rel c.labels && labels_fit (keys_of D.template) c.labels) D.template
        (and_r (distinct (λ (c d : Component). eqb c.rel d.rel) D.template) _ ok) m

    pub component_arity_lem : has_arity D c.rel c.labels ≡ true
    component_arity_lem = and_l _ _ fits

    pub labels_fit_lem : labels_fit (keys_of D.template) c.labels ≡ true
    labels_fit_lem = and_r (has_arity D c.rel c.labels) _ fits
