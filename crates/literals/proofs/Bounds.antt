-- Every record that is read keeps the domain within the bounds of head and table, with the arities of its relations and the keys of its template. Assumes nothing.
use mathlib.Core.Path.{◌≡◌, refl, sym, ap, ◌∙◌}
use mathlib.Core.Bool.{Bool, true, false, not}
use mathlib.Core.Logic.{◌⊎◌, inl, inr}
use mathlib.Core.List.Memᴰ
use mathlib.Core.List.{List, [], ◌∷◌, ◌++◌, map}
use Prim.Native.Nat.{ℕ, suc, ◌≤◌, ◌<◌}
use native.Mathlib.Omega.{arith}
use lib.Dec.{eqb, leb}
use lib.ListN.{length, drop, length-append, length-drop, length-map, get_or-eq_default}
use borrow.Author.Tests.{leb-true, leb-false, ltb-true, eqb-true}
use Rattle.records.specs.Lists.{In, any, empty, distinct}
use Rattle.records.proofs.Lists.{any_out, any_none, get_d_in, in_snoc, below_in, and_l, and_r, or_out, not_false, clash, eqb_comm}
use Rattle.records.proofs.Lists.{pairwise_snoc}
use Rattle.literals.specs.declared.Variable.{Variable}
use Rattle.literals.specs.declared.Argument.{Argument}
use Rattle.literals.specs.declared.Argument.TheVariants.{Variable as bound, Every}
use Rattle.literals.specs.Domain.{variables_of, variable_below, role_of, role_number, Literal, clears_once, Action, Component, keeps_keys}
use Rattle.literals.specs.Domain.{Template, keys_of, labels_fit, Domain, arity}
use Rattle.literals.specs.Decode.{max_relations, max_arguments, max_actions, max_variables, max_literals, max_components, RecordKind}
use Rattle.literals.specs.Decode.{relation_record, action_record, literal_record, component_record, closing_record, unknown_record, latest}
use Rattle.literals.specs.Decode.{byte, argument_of, literal_of, no_variable, label_of, component_of, action_of, with_literal, field_stop}
use Rattle.literals.specs.Decode.{stop_of, extend, no_domain, domain, decode}
use Rattle.literals.specs.Held.{Bounded}
use Rattle.literals.proofs.Loop.{decoded_by}
use Rattle.literals.proofs.Stops.{Passes, passes, relation_passes, action_passes, LiteralPasses, literal_passes, role_nine, ComponentPasses, component_passes}

-- ---- the role bytes up to 9

-- a role byte up to 9 is the number of its role
pub role_number_lem : (r : ℕ) → r ≤ 9 → role_number (role_of r) ≡ r
unfolding role_of
role_number_lem r h = eqb-true _ r (below_in 10 (λ n. eqb (role_number (role_of n)) n) refl r (omega arith))

-- ---- arities

empty_none : {A : Type 0} (l : List A) {a : A} → empty l ≡ true → In a l → ⊥
empty_none [] e m = Memᴰ.not-nil m
empty_none (x ∷ xs) e m = clash e refl

-- the arity of a relation of the domain is one of its arities, or 0
pub arity_six : (D : Domain) → ((n : ℕ) → In n D.arities → n ≤ max_arguments) → (r : ℕ) → arity D r ≤ max_arguments
arity_six D h r = go (leb (length D.arities) r) refl
  where
    go : (b : Bool) → leb (length D.arities) r ≡ b → arity D r ≤ max_arguments
    go true q = let z = get_or-eq_default D.arities 0 (leb-true (length D.arities) r q) in omega arith
    go false q = h (arity D r) (get_d_in D.arities r 0 (leb-false (length D.arities) r q))

-- ---- one literal more

-- what an action adds
pub record Fits (D : Domain) (a : Action) : Type 0 where
  pub counts : a.vars ≤ max_variables
  pub sizes : length a.lits ≤ max_literals
  pub arguments : (l : Literal) → In l a.lits → length l.atom.args ≤ max_arguments
  pub variables : (l : Literal) → In l a.lits → (v : Variable) → In v (variables_of l.atom.args) → v.0 < 255
  pub below : (l : Literal) → In l a.lits → (v : Variable) → In v (variables_of l.atom.args) → v.0 < a.vars
  pub roles : (l : Literal) → In l a.lits → (role_number l.role ≤ 9) × (role_of (role_number l.role) ≡ l.role)
  pub literal_arity : (l : Literal) → In l a.lits → length l.atom.args ≡ arity D l.atom.rel
  pub clears : (l : Literal) → In l a.lits → clears_once l ≡ true
  pub keys_kept : (l : Literal) → In l a.lits → (c : Component) → In c D.template → keeps_keys c l.atom ≡ true

pub fits_of : (D : Domain) → Bounded D → (a : Action) → In a D.actions → Fits D a
fits_of D h a m =
    record {
      counts = h.counts a m;
      sizes = h.sizes a m;
      arguments = h.arguments a m;
      variables = h.variables a m;
      below = h.below a m;
      roles = h.roles a m;
      literal_arity = h.literal_arity a m;
      clears = h.clears a m;
      keys_kept = h.keys_kept a m;
    }

pub bounded_actions : (D : Domain) (as' : List Action) → Bounded D → length as' ≤ max_actions → ((a : Action) → In a as' → Fits D a)
    → Bounded (record { arities = D.arities; actions = as'; template = D.template })
bounded_actions D as' h n f =
    record {
      relations = h.relations;
      arities = h.arities;
      actions = n;
      counts = λ a m. (f a m).counts;
      sizes = λ a m. (f a m).sizes;
      arguments = λ a m. (f a m).arguments;
      variables = λ a m. (f a m).variables;
      below = λ a m. (f a m).below;
      roles = λ a m. (f a m).roles;
      components = h.components;
      labels = h.labels;
      literal_arity = λ a m. (f a m).literal_arity;
      clears = λ a m. (f a m).clears;
      keys_kept = λ a m. (f a m).keys_kept;
      component_arity = h.component_arity;
      keys_fit = h.keys_fit;
      components_once = h.components_once;
    }

-- the actions with a literal more: those before, and the latest with it
in_with_literal : (l : Literal) (as' : List Action) (a : Action) → In a (with_literal l as')
    → In a as' ⊎ (In (latest as') as' × (a ≡ record { vars = (latest as').vars; lasting = (latest as').lasting; lits = (latest as').lits ++ (l ∷ []) }))
in_with_literal l [] a m = absurd (Memᴰ.not-nil m)
in_with_literal l (b ∷ []) a m = inr (Memᴰ.head refl, Memᴰ.eq_of_singleton m)
in_with_literal l (b ∷ c ∷ cs) a (Memᴰ.head e) = inl (Memᴰ.head e)
in_with_literal l (b ∷ c ∷ cs) a (Memᴰ.tail m) = go (in_with_literal l (c ∷ cs) a m)
  where
    ext : Action → Action
    ext x = record { vars = x.vars; lasting = x.lasting; lits = x.lits ++ (l ∷ []) }

    go : In a (c ∷ cs) ⊎ (In (latest (c ∷ cs)) (c ∷ cs) × (a ≡ ext (latest (c ∷ cs)))) → In a (b ∷ c ∷ cs) ⊎ (In (latest (c ∷ cs)) (b ∷ c ∷ cs) × (a ≡ ext (latest (c ∷ cs))))
    go (inl n) = inl (Memᴰ.tail n)
    go (inr n) = inr (Memᴰ.tail n.0, n.1)

pub length_with_literal : (l : Literal) (as' : List Action) → length (with_literal l as') ≡ length as'
length_with_literal l [] = refl
length_with_literal l (a ∷ []) = refl
length_with_literal l (a ∷ b ∷ bs) = ap suc (length_with_literal l (b ∷ bs))

-- a variable among some arguments is one of them
pub variables_in_lem : (as' : List Argument) {v : Variable} → In v (variables_of as') → In (bound v) as'
variables_in_lem [] m = absurd (Memᴰ.not-nil m)
variables_in_lem (bound w ∷ as') (Memᴰ.head e) = Memᴰ.head (ap bound e)
variables_in_lem (bound w ∷ as') (Memᴰ.tail m) = Memᴰ.tail (variables_in_lem as' m)
variables_in_lem (Every ∷ as') m = Memᴰ.tail (variables_in_lem as' m)

-- of bytes that are FF or variables below n, the variables are below n
pub variables_below : (n : ℕ) (bs : List ℕ) → any (no_variable n) bs ≡ false → (v : Variable) → In v (variables_of (map argument_of bs))
    → v.0 < n
variables_below n bs h v m =
    let o = Memᴰ.of_map argument_of bs (variables_in_lem (map argument_of bs) m) in
    let g : variable_below n (argument_of o.0) ≡ true = not_false _ (any_out (no_variable n) h o.1) in
    ltb-true v.0 n (sym (ap (variable_below n) o.2) ∙ g)

literal_fits_lem : (D : Domain) (p : List ℕ) → Bounded D → stop_of D literal_record p ≡ 0 → Fits D (latest D.actions)
    → Fits D (record { vars = (latest D.actions).vars; lasting = (latest D.actions).lasting; lits = (latest D.actions).lits ++ (literal_of p ∷ []) })
unfolding field_stop
literal_fits_lem D p h e f =
    record {
      counts = f.counts;
      sizes = let n = length-append last.lits (literal_of p ∷ []) in let r = leb-false max_literals (length last.lits) ok.room in omega arith;
      arguments = in_snoc {P = λ l. length l.atom.args ≤ max_arguments} last.lits (literal_of p) f.arguments six;
      variables = in_snoc {P = λ l. (v : Variable) → In v (variables_of l.atom.args) → v.0 < 255} last.lits (literal_of p)
          f.variables low;
      below = in_snoc {P = λ l. (v : Variable) → In v (variables_of l.atom.args) → v.0 < last.vars} last.lits (literal_of p)
          f.below lower;
      roles = in_snoc {P = λ l. (role_number l.role ≤ 9) × (role_of (role_number l.role) ≡ l.role)} last.lits (literal_of p) f.roles ranged;
      literal_arity = in_snoc {P = λ l. length l.atom.args ≡ arity D l.atom.rel} last.lits (literal_of p) f.literal_arity same;
      clears = in_snoc {P = λ l. clears_once l ≡ true} last.lits (literal_of p) f.clears q.clears;
      keys_kept = in_snoc {P = λ l. (c : Component) → In c D.template → keeps_keys c l.atom ≡ true} last.lits (literal_of p)
          f.keys_kept
          (λ c m. absurd (empty_none D.template (not_false _ (or_out (empty D.actions) _ ok.order).1) m));
    }
  where
    last : Action
    last = latest D.actions

    ok : Passes D literal_record p
    ok = passes D literal_record p e

    q : LiteralPasses D p
    q = literal_passes D p ok.fields

    six : length (map argument_of (drop 2 p)) ≤ max_arguments
    six =
        let a = arity_six D h.arities (byte p 1) in
        let n = length-map (drop 2 p) argument_of in
        let d = length-drop 2 p in
        let g = q.arguments in
        omega arith

    same : length (map argument_of (drop 2 p)) ≡ arity D (byte p 1)
    same = let n = length-map (drop 2 p) argument_of in let d = length-drop 2 p in let g = q.arguments in omega arith

    lower : (v : Variable) → In v (variables_of (map argument_of (drop 2 p))) → v.0 < last.vars
    lower = variables_below last.vars (drop 2 p) q.variables

    low : (v : Variable) → In v (variables_of (map argument_of (drop 2 p))) → v.0 < 255
    low v m = let g = lower v m in let c = f.counts in omega arith

    ranged : (role_number (role_of (byte p 0)) ≤ 9) × (role_of (role_number (role_of (byte p 0))) ≡ role_of (byte p 0))
    ranged =
        let n = role_nine last (byte p 0) q.role in
        let r = role_number_lem (byte p 0) n in
        (omega arith, ap role_of r)

-- ---- one component more

-- it is the template's first, or the keys are those before it
keys_snoc : (cs : Template) (c : Component) → (cs ≡ []) ⊎ (keys_of (cs ++ (c ∷ [])) ≡ keys_of cs)
keys_snoc [] c = inl refl
keys_snoc (d ∷ ds) c = inr refl

fit_snoc : (cs : Template) (c : Component) → ((d : Component) → In d cs → labels_fit (keys_of cs) d.labels ≡ true) → labels_fit (keys_of (cs ++ (c ∷ []))) c.labels ≡ true
    → (d : Component) → In d (cs ++ (c ∷ [])) → labels_fit (keys_of (cs ++ (c ∷ []))) d.labels ≡ true
fit_snoc cs c h g = in_snoc {P = λ d. labels_fit (keys_of (cs ++ (c ∷ []))) d.labels ≡ true} cs c (λ d m. go d m (keys_snoc cs c)) g
  where
    go : (d : Component) → In d cs → (cs ≡ []) ⊎ (keys_of (cs ++ (c ∷ [])) ≡ keys_of cs) → labels_fit (keys_of (cs ++ (c ∷ []))) d.labels ≡ true
    go d m (inl e) = absurd (Memᴰ.not-nil (rw e at m))
    go d m (inr e) = rw e (h d m)

-- no component before it has its relation
once_snoc : (cs : Template) (c : Component) → distinct (λ (x y : Component). eqb x.rel y.rel) cs ≡ true → any (λ (d : Component). eqb c.rel d.rel) cs ≡ false
    → distinct (λ (x y : Component). eqb x.rel y.rel) (cs ++ (c ∷ [])) ≡ true
once_snoc cs c h e =
    pairwise_snoc (λ (x y : Component). not (eqb x.rel y.rel)) cs c h
    (any_none (λ (d : Component). eqb c.rel d.rel) (λ (d : Component). not (eqb d.rel c.rel)) cs (λ d f. ap not (eqb_comm d.rel c.rel ∙ f)) e)

-- ---- every kind of record

pub bounded_extend : (D : Domain) (k : RecordKind) (p : List ℕ) → Bounded D → stop_of D k p ≡ 0 → Bounded (extend D k p)
unfolding extend field_stop
bounded_extend D relation_record p h e =
    let ok = passes D relation_record p e in
    let n = length-append D.arities (byte p 0 ∷ []) in
    let r = leb-false max_relations (length D.arities) ok.room in
    let first = not_false _ ok.order in
    record {
      relations = omega arith;
      arities = in_snoc {P = λ n. n ≤ max_arguments} D.arities (byte p 0) h.arities (relation_passes p ok.fields).1;
      actions = h.actions;
      counts = h.counts;
      sizes = h.sizes;
      arguments = h.arguments;
      variables = h.variables;
      below = h.below;
      roles = h.roles;
      components = h.components;
      labels = h.labels;
      literal_arity = λ a m. absurd (empty_none D.actions (and_l _ _ first) m);
      clears = h.clears;
      keys_kept = h.keys_kept;
      component_arity = λ c m. absurd (empty_none D.template (and_r (empty D.actions) _ first) m);
      keys_fit = h.keys_fit;
      components_once = h.components_once;
    }
bounded_extend D action_record p h e =
    let ok = passes D action_record p e in
    let n = length-append D.actions (action_of p ∷ []) in
    let r = leb-false max_actions (length D.actions) ok.room in
    bounded_actions D (D.actions ++ (action_of p ∷ [])) h (omega arith)
    (in_snoc {P = Fits D} D.actions (action_of p) (fits_of D h)
    (record {
      counts = (action_passes p ok.fields).1;
      sizes = omega arith;
      arguments = λ l m. absurd (Memᴰ.not-nil m);
      variables = λ l m. absurd (Memᴰ.not-nil m);
      below = λ l m. absurd (Memᴰ.not-nil m);
      roles = λ l m. absurd (Memᴰ.not-nil m);
      literal_arity = λ l m. absurd (Memᴰ.not-nil m);
      clears = λ l m. absurd (Memᴰ.not-nil m);
      keys_kept = λ l m. absurd (Memᴰ.not-nil m);
    }))
bounded_extend D literal_record p h e =
    let n = length_with_literal (literal_of p) D.actions in
    let a = h.actions in
    bounded_actions D (with_literal (literal_of p) D.actions) h (omega arith) (λ a m. go a (in_with_literal (literal_of p) D.actions a m))
  where
    go : (a : Action) → In a D.actions ⊎ (In (latest D.actions) D.actions × (a ≡ record { vars = (latest D.actions).vars; lasting = (latest D.actions).lasting; lits = (latest D.actions).lits ++ (literal_of p ∷ []) })) → Fits D a
    go a (inl m) = fits_of D h a m
    go a (inr m) = rw m.1 (literal_fits_lem D p h e (fits_of D h (latest D.actions) m.0))
bounded_extend D component_record p h e =
    let ok = passes D component_record p e in
    let n = length-append D.template (component_of p ∷ []) in
    let r = leb-false max_components (length D.template) ok.room in
    record {
      relations = h.relations;
      arities = h.arities;
      actions = h.actions;
      counts = h.counts;
      sizes = h.sizes;
      arguments = h.arguments;
      variables = h.variables;
      below = h.below;
      roles = h.roles;
      components = omega arith;
      labels = in_snoc {P = λ c. length c.labels ≤ max_arguments} D.template (component_of p) h.labels (six (component_passes D p ok.fields));
      literal_arity = h.literal_arity;
      clears = h.clears;
      keys_kept = λ a m l i. in_snoc {P = λ c. keeps_keys c l.atom ≡ true} D.template (component_of p) (h.keys_kept a m l i)
          (new (component_passes D p ok.fields) a m l i);
      component_arity = in_snoc {P = λ c. length c.labels ≡ arity D c.rel} D.template (component_of p) h.component_arity (same (component_passes D p ok.fields));
      keys_fit = fit_snoc D.template (component_of p) h.keys_fit (component_passes D p ok.fields).labels;
      components_once = once_snoc D.template (component_of p) h.components_once (component_passes D p ok.fields).once;
    }
  where
    new : ComponentPasses D p → (a : Action) → In a D.actions → (l : Literal) → In l a.lits
        → keeps_keys (component_of p) l.atom ≡ true
    new q a m l i =
        not_false _ (any_out (λ (l : Literal). not (keeps_keys (component_of p) l.atom))
        (any_out (λ (a : Action). any (λ (l : Literal). not (keeps_keys (component_of p) l.atom)) a.lits) q.keys m) i)

    same : ComponentPasses D p → length (map label_of (drop 1 p)) ≡ arity D (byte p 0)
    same q = let n = length-map (drop 1 p) label_of in let d = length-drop 1 p in let g = q.arguments in omega arith

    six : ComponentPasses D p → length (map label_of (drop 1 p)) ≤ max_arguments
    six q = let a = arity_six D h.arities (byte p 0) in let n = length-map (drop 1 p) label_of in let d = length-drop 1 p in let g = q.arguments in omega arith
bounded_extend D closing_record p h e = h
bounded_extend D unknown_record p h e = h

pub bounded_none : Bounded no_domain
bounded_none =
    record {
      relations = omega arith;
      arities = λ n m. absurd (Memᴰ.not-nil m);
      actions = omega arith;
      counts = λ a m. absurd (Memᴰ.not-nil m);
      sizes = λ a m. absurd (Memᴰ.not-nil m);
      arguments = λ a m. absurd (Memᴰ.not-nil m);
      variables = λ a m. absurd (Memᴰ.not-nil m);
      below = λ a m. absurd (Memᴰ.not-nil m);
      roles = λ a m. absurd (Memᴰ.not-nil m);
      components = omega arith;
      labels = λ c m. absurd (Memᴰ.not-nil m);
      literal_arity = λ a m. absurd (Memᴰ.not-nil m);
      clears = λ a m. absurd (Memᴰ.not-nil m);
      keys_kept = λ a m. absurd (Memᴰ.not-nil m);
      component_arity = λ c m. absurd (Memᴰ.not-nil m);
      keys_fit = λ c m. absurd (Memᴰ.not-nil m);
      components_once = refl;
    }

-- the domain of a file is within the bounds
pub decoded_bounded : (f : List ℕ) (D : Domain) → decode f ≡ domain D → Bounded D
decoded_bounded = decoded_by Bounded (λ D k p h e. bounded_extend D k p h e) bounded_none
