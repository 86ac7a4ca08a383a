-- The head with one record more holds the domain with it. Assumes nothing.
use mathlib.Core.Path.{◌≡◌, refl, sym, ap, ap₂, subst, ◌∙◌}
use mathlib.Core.Bool.{Bool, true, false, ◌||◌, not, cond}
use mathlib.Core.Logic.{◌⊎◌, inl, inr}
use mathlib.Core.List.Memᴰ
use mathlib.Core.List.{List, [], ◌∷◌, ◌++◌, map, map-append, flat_map, append-nil, append_assoc}
use Prim.Native.Nat.{ℕ, zero, suc, ◌+◌, ◌-◌, ◌*◌, ◌/◌, ◌%◌, ◌≤◌, ◌<◌}
use native.Mathlib.Numerals.{add-one}
use native.Mathlib.Omega.{arith}
use lib.Dec.{eqb, ltb}
use lib.ListN.{length, take, drop, get_or, set, replicate, length-append, length-replicate, length-map, length-drop, length-set, get_or-append}
use lib.Seq.{paste, set-get_or, get_or-set_same, get_or-set_other, get_or_at, get_or-take, get_or-drop, get_or-append-add, length-take-le, length-paste, length_paste_head, take_all, take_at, take-append-le}
use borrow.Author.Tests.{ltb-true, ltb-false, lt-ltb, leb-false, eqb-true, eqb-false}
use Rattle.records.specs.Lists.{any, count_by}
use Rattle.records.proofs.Lists.{bool_cases, count_le, map_back, any_append}
use Rattle.records.proofs.Memory.{get_d_fill}
use Rattle.literals.specs.declared.Label.TheVariants.{Key as keyed, Counted}
use Rattle.literals.specs.Decode.{relation_record, action_record, literal_record, component_record, byte, label_of, component_of, literal_of}
use Rattle.literals.specs.Decode.{action_of, with_literal, latest, field_stop, stop_of, extend, no_domain, max_relations, max_arguments}
use Rattle.literals.specs.Decode.{max_actions, max_variables, max_literals, max_components}
use Rattle.literals.specs.Domain.{key, Literal, Action, is_counted, keys_of, Domain, no_action, action, bare, label_number}
use Rattle.literals.specs.Held.{row_of, component_row, all_literals, has_every, some_every, Bounded, within, relations_in, actions_in}
use Rattle.literals.specs.Held.{components_in, keys_in, arity_in, bytes_from, component_row_in, component_rows_from, component_rows_in}
use Rattle.literals.specs.Held.{variables_in, lasting_in, size_in, first_in, at_arities, at_components, at_variables, at_sorts, at_sizes}
use Rattle.literals.specs.Held.{at_lows, at_highs, at_clears, clears_in, head_bytes, HeadOf, Filled}
use Rattle.literals.proofs.Rows.{length_row}
use Rattle.literals.proofs.Stops.{passes, relation_passes, action_passes, component_passes}
use Rattle.literals.proofs.Bounds.{arity_six, bounded_extend, bounded_none, length_with_literal}
use Rattle.literals.proofs.Arguments.{or_false, or_true}
use Rattle.literals.proofs.Held.{rows_few, keys_few, literals_snoc, literals_more}
use Rattle.literals.proofs.Heads.{within_is, literals_after}

-- ---- bytes that are written, the last one first, and the others

abbrev put : List (ℕ × ℕ) → List ℕ → List ℕ
put [] t = t
put (w ∷ ws) t = set (put ws t) w.0 w.1

abbrev Apart : ℕ → List (ℕ × ℕ) → Type 0
Apart j [] = Unit {0}
Apart j (w ∷ ws) = (j ≡ w.0 → ⊥) × Apart j ws

abbrev Written : ℕ → ℕ → List (ℕ × ℕ) → Type 0
Written j v [] = ⊥
Written j v (w ∷ ws) = ((j ≡ w.0) × (w.1 ≡ v)) ⊎ ((j ≡ w.0 → ⊥) × Written j v ws)

whole : (ws : List (ℕ × ℕ)) (t : List ℕ) → length t ≡ head_bytes → length (put ws t) ≡ head_bytes
whole [] t r = r
whole (w ∷ ws) t r = length-set (put ws t) w.0 w.1 ∙ whole ws t r

other : (ws : List (ℕ × ℕ)) (t : List ℕ) (j : ℕ) → Apart j ws → get_or (put ws t) j 0 ≡ get_or t j 0
other [] t j a = refl
other (w ∷ ws) t j a = get_or-set_other (put ws t) w.0 j w.1 0 a.0 ∙ other ws t j a.1

hit : (ws : List (ℕ × ℕ)) (t : List ℕ) → length t ≡ head_bytes → (j v : ℕ) → j < head_bytes → Written j v ws → get_or (put ws t) j 0 ≡ v
hit [] t r j v h a = absurd a
hit (w ∷ ws) t r j v h (inl a) =
    let l = whole ws t r in
    ap (λ (k : ℕ). get_or (put (w ∷ ws) t) k 0) a.0 ∙ get_or-set_same (put ws t) w.0 w.1 0 (let q = a.0 in omega arith) ∙ a.1
hit (w ∷ ws) t r j v h (inr a) = get_or-set_other (put ws t) w.0 j w.1 0 a.0 ∙ hit ws t r j v h a.1

-- ---- what is said by bytes that are kept

bytes_here : (pre l rest : List ℕ) (k : ℕ) → length pre ≡ k → bytes_from (pre ++ (l ++ rest)) k (length l) ≡ l
bytes_here pre [] rest k e = refl
bytes_here pre (x ∷ l) rest k e =
    let n = length-append pre (x ∷ []) in
    ap₂ ◌∷◌ (get_or_at pre x (l ++ rest) 0 k e)
    (ap (λ (t : List ℕ). bytes_from t (suc k) (length l)) (sym (append_assoc pre (x ∷ []) (l ++ rest))) ∙ bytes_here (pre ++ (x ∷ [])) l rest (suc k) (omega arith))

bytes_kept : (t u : List ℕ) (k n : ℕ) → ((j : ℕ) → k ≤ j → j < k + n → get_or u j 0 ≡ get_or t j 0) → bytes_from u k n ≡ bytes_from t k n
bytes_kept t u k zero h = refl
bytes_kept t u k (suc n) h = ap₂ ◌∷◌ (h k (omega arith) (omega arith)) (bytes_kept t u (suc k) n (λ j a b. h j (omega arith) (omega arith)))

parts_kept : (t u : List ℕ) (m c n : ℕ) → c + n ≤ m → ((j : ℕ) → at_components ≤ j → j < at_components + 8 * m → get_or u j 0 ≡ get_or t j 0) → component_rows_from u c n ≡ component_rows_from t c n
unfolding component_row_in
parts_kept t u m c zero l h = refl
parts_kept t u m c (suc n) l h =
    ap₂ ◌∷◌ (bytes_kept t u (at_components + 8 * c) 8 (λ j a b. h j (omega arith) (omega arith))) (parts_kept t u m (suc c) n (omega arith) h)

arity_kept : (t u : List ℕ) (r : ℕ) → (r < max_relations → get_or u (at_arities + r) 0 ≡ get_or t (at_arities + r) 0) → arity_in u r ≡ arity_in t r
unfolding arity_in
arity_kept t u r h = go (bool_cases (ltb r max_relations))
  where
    go : (ltb r max_relations ≡ true) ⊎ (ltb r max_relations ≡ false)
        → cond (ltb r max_relations) (within max_arguments (get_or u (at_arities + r) 0)) 0 ≡ cond (ltb r max_relations) (within max_arguments (get_or t (at_arities + r) 0)) 0
    go (inl b) = ap (λ (k : ℕ). cond (ltb r max_relations) (within max_arguments k) 0) (h (ltb-true r max_relations b))
    go (inr b) = rw b

-- the rows of all components
parts_say : {D : Domain} {t : List ℕ} → HeadOf D t → (u : List ℕ) → components_in u ≡ length D.template
    → ((j : ℕ) → at_components ≤ j → j < at_variables → get_or u j 0 ≡ get_or t j 0) → component_rows_in u ≡ map component_row D.template
unfolding component_rows_in
parts_say {D} {t} H u e h =
    let m = H.bounded.components in
    ap (component_rows_from u 0) e
    ∙ parts_kept t u max_components 0 (length D.template) (omega arith) h
    ∙ ap (component_rows_from t 0) (sym H.components) ∙ H.component_rows

-- ---- a list with one element more

snoc_other : (l : List ℕ) (x i : ℕ) → (i ≡ length l → ⊥) → get_or (l ++ (x ∷ [])) i 0 ≡ get_or l i 0
snoc_other [] x zero h = absurd (h refl)
snoc_other [] x (suc i) h = refl
snoc_other (y ∷ l) x zero h = refl
snoc_other (y ∷ l) x (suc i) h = snoc_other l x i (λ e. h (ap suc e))

-- ---- a relation

module _ {D : Domain} {head : List ℕ} (F : Filled D head) (p : List ℕ) (n : ℕ) (c : n ≡ relations_in head) (e : stop_of D relation_record p ≡ 0) where
  abbrev relation_bytes : List (ℕ × ℕ)
  relation_bytes = (0, n + 1) ∷ (at_arities + n, byte p 0) ∷ []

  abbrev with_relation : List ℕ
  with_relation = put relation_bytes head

  relation_few : (n ≡ length D.arities) × (n < max_relations)
  relation_few =
      let m = c ∙ F.says.relations in
      let q = leb-false max_relations (length D.arities) (passes D relation_record p e).room in
      (m, omega arith)

  relation_six : byte p 0 ≤ max_arguments
  unfolding field_stop
  relation_six = (relation_passes p (passes D relation_record p e).fields).1

  relation_other : (j : ℕ) → (j ≡ 0 → ⊥) → (j ≡ at_arities + n → ⊥) → get_or with_relation j 0 ≡ get_or head j 0
  relation_other j a b = other relation_bytes head j (a, (b, tt))

  relation_arity : (r : ℕ) → arity_in with_relation r ≡ get_or (D.arities ++ (byte p 0 ∷ [])) r 0
  unfolding arity_in
  relation_arity r = go (bool_cases (eqb r n))
    where
      go : (eqb r n ≡ true) ⊎ (eqb r n ≡ false) → arity_in with_relation r ≡ get_or (D.arities ++ (byte p 0 ∷ [])) r 0
      go (inl t) =
          let q = eqb-true r n t in
          let f = relation_few.1 in
          let m = relation_few.0 in
          let b : get_or with_relation (at_arities + r) 0 ≡ byte p 0 = ap (λ (k : ℕ). get_or with_relation (at_arities + k) 0) q ∙ hit relation_bytes head F.room (at_arities + n) (byte p 0) (omega arith) (inr (λ z. omega arith, inl (refl, refl))) in
          rw (lt-ltb r max_relations (omega arith)) (ap (within max_arguments) b ∙ within_is max_arguments (byte p 0) relation_six)
          ∙ sym (get_or_at D.arities (byte p 0) [] 0 r (omega arith))
      go (inr t) =
          let q = eqb-false r n t in
          let m = relation_few.0 in
          arity_kept head with_relation r (λ h. relation_other (at_arities + r) (λ z. omega arith) (λ z. q (omega arith)))
          ∙ F.says.arities r
          ∙ sym (snoc_other D.arities (byte p 0) r (λ z. q (omega arith)))

  pub fills_relation : Filled (extend D relation_record p) with_relation
  unfolding extend clears_in relations_in actions_in components_in keys_in variables_in lasting_in size_in first_in action
  fills_relation =
      let H = F.says in
      let f = relation_few.1 in
      let m = relation_few.0 in
      let l = length-append D.arities (byte p 0 ∷ []) in
      let components = ap (within max_components) (relation_other 2 (λ z. omega arith) (λ z. omega arith)) ∙ H.components in
      let at : (j : ℕ) → at_components ≤ j → get_or with_relation j 0 ≡ get_or head j 0 = λ j h. relation_other j (λ z. omega arith) (λ z. omega arith) in
      record {
        says =
            record {
              bounded = bounded_extend D relation_record p H.bounded e;
              relations = ap (within max_relations) (hit relation_bytes head F.room 0 (n + 1) (omega arith) (inl (refl, refl))) ∙ within_is max_relations (n + 1) (omega arith) ∙ omega arith;
              actions = ap (within max_actions) (relation_other 1 (λ z. omega arith) (λ z. omega arith)) ∙ H.actions;
              keys = ap (within max_arguments) (relation_other 3 (λ z. omega arith) (λ z. omega arith)) ∙ H.keys;
              arities = relation_arity;
              components = components;
              component_rows = parts_say H with_relation components (λ j a b. at j a);
              variables = λ i h. ap (within max_variables) (at (at_variables + i) (omega arith)) ∙ H.variables i h;
              lasting = λ i h. ap (λ (b : ℕ). eqb b 1) (at (at_sorts + i) (omega arith)) ∙ H.lasting i h;
              sizes = λ i h. ap (within max_literals) (at (at_sizes + i) (omega arith)) ∙ H.sizes i h;
              firsts = λ i h. ap₂ (λ (l u : ℕ). l + 256 * u) (at (at_lows + i) (omega arith)) (at (at_highs + i) (omega arith)) ∙ H.firsts i h;
              clears = ap (λ (b : ℕ). eqb b 1) (at at_clears (omega arith)) ∙ H.clears;
            };
        room = whole relation_bytes head F.room;
      }

-- ---- an action

-- what holds of each action and of one more
each_action : (D : Domain) (a : Action) {A : Type 0} (g : ℕ → A) (f : Action → A) (n : ℕ) → n ≡ length D.actions
    → ((i : ℕ) → i < length D.actions → g i ≡ f (action D i)) → g n ≡ f a
    → (i : ℕ) → i < length (D.actions ++ (a ∷ [])) → g i ≡ f (get_or (D.actions ++ (a ∷ [])) i no_action)
unfolding action
each_action D a g f n m old new i h = go (bool_cases (ltb i (length D.actions)))
  where
    go : (ltb i (length D.actions) ≡ true) ⊎ (ltb i (length D.actions) ≡ false) → g i ≡ f (get_or (D.actions ++ (a ∷ [])) i no_action)
    go (inl t) = let l = ltb-true i (length D.actions) t in old i l ∙ ap f (sym (get_or-append D.actions (a ∷ []) no_action i l))
    go (inr t) =
        let l = ltb-false i (length D.actions) t in
        let k = length-append D.actions (a ∷ []) in
        let q : i ≡ length D.actions = omega arith in
        ap g (q ∙ sym m) ∙ new ∙ ap f (sym (get_or_at D.actions a [] no_action i (sym q)))

module _ {D : Domain} {head : List ℕ} (F : Filled D head) (p : List ℕ) (n first : ℕ) (c : n ≡ actions_in head)
    (f : first ≡ length (all_literals D.actions)) (e : stop_of D action_record p ≡ 0) where
  abbrev action_bytes : List (ℕ × ℕ)
  action_bytes =
      (1, n + 1) ∷ (at_highs + n, first / 256) ∷ (at_lows + n, first % 256) ∷ (at_sizes + n, 0) ∷ (at_sorts + n, byte p 1) ∷ (at_variables + n, byte p 0) ∷ []

  abbrev with_action : List ℕ
  with_action = put action_bytes head

  action_few : (n ≡ length D.actions) × (n < max_actions)
  action_few =
      let m = c ∙ F.says.actions in
      let q = leb-false max_actions (length D.actions) (passes D action_record p e).room in
      (m, omega arith)

  -- no byte but that of the number, and of the action in each column
  action_other : (j : ℕ) → (j ≡ 1 → ⊥) → ((k : ℕ) → j ≡ at_variables + max_actions * k + n → ⊥) → get_or with_action j 0 ≡ get_or head j 0
  action_other j a b =
      other action_bytes head j (a, (λ z. b 4 (omega arith), (λ z. b 3 (omega arith), (λ z. b 2 (omega arith), (λ z. b 1 (omega arith), (λ z. b 0 (omega arith), tt))))))

  -- so those of an action before it are kept
  action_kept : (k i : ℕ) → i < length D.actions → get_or with_action (at_variables + max_actions * k + i) 0 ≡ get_or head (at_variables + max_actions * k + i) 0
  action_kept k i h =
      let m = action_few.0 in
      let l = action_few.1 in
      action_other (at_variables + max_actions * k + i) (λ z. omega arith) (λ j z. omega arith)

  -- its own
  action_variables : get_or with_action (at_variables + n) 0 ≡ byte p 0
  action_variables =
      let l = action_few.1 in
      hit action_bytes head F.room (at_variables + n) (byte p 0) (omega arith)
      (inr (λ z. omega arith, inr (λ z. omega arith, inr (λ z. omega arith, inr (λ z. omega arith, inr (λ z. omega arith, inl (refl, refl)))))))

  action_sort : get_or with_action (at_sorts + n) 0 ≡ byte p 1
  action_sort =
      let l = action_few.1 in
      hit action_bytes head F.room (at_sorts + n) (byte p 1) (omega arith)
      (inr (λ z. omega arith, inr (λ z. omega arith, inr (λ z. omega arith, inr (λ z. omega arith, inl (refl, refl))))))

  action_size : get_or with_action (at_sizes + n) 0 ≡ 0
  action_size =
      let l = action_few.1 in
      hit action_bytes head F.room (at_sizes + n) 0 (omega arith) (inr (λ z. omega arith, inr (λ z. omega arith, inr (λ z. omega arith, inl (refl, refl)))))

  action_low : get_or with_action (at_lows + n) 0 ≡ first % 256
  action_low =
      let l = action_few.1 in
      hit action_bytes head F.room (at_lows + n) (first % 256) (omega arith) (inr (λ z. omega arith, inr (λ z. omega arith, inl (refl, refl))))

  action_high : get_or with_action (at_highs + n) 0 ≡ first / 256
  action_high =
      let l = action_few.1 in
      hit action_bytes head F.room (at_highs + n) (first / 256) (omega arith) (inr (λ z. omega arith, inl (refl, refl)))

  action_firsts : (i : ℕ) → i < length (D.actions ++ (action_of p ∷ [])) → first_in with_action i ≡ length (all_literals (take i (D.actions ++ (action_of p ∷ []))))
  unfolding first_in
  action_firsts i h = go (bool_cases (ltb i n))
    where
      go : (ltb i n ≡ true) ⊎ (ltb i n ≡ false) → first_in with_action i ≡ length (all_literals (take i (D.actions ++ (action_of p ∷ []))))
      go (inl t) =
          let l = ltb-true i n t in
          let m = action_few.0 in
          ap₂ (λ (a b : ℕ). a + 256 * b) (action_kept 3 i (omega arith)) (action_kept 4 i (omega arith))
          ∙ F.says.firsts i (omega arith)
          ∙ ap (λ (as' : List Action). length (all_literals as')) (sym (take-append-le i D.actions (action_of p ∷ []) (omega arith)))
      go (inr t) =
          let l = ltb-false i n t in
          let m = action_few.0 in
          let b = action_few.1 in
          let k = length-append D.actions (action_of p ∷ []) in
          let q : i ≡ n = omega arith in
          let z : first % 256 + 256 * (first / 256) ≡ first = omega arith in
          ap (first_in with_action) q ∙ ap₂ (λ (a b : ℕ). a + 256 * b) action_low action_high
          ∙ z ∙ f
          ∙ ap (λ (as' : List Action). length (all_literals as')) (sym (take_at D.actions (action_of p ∷ []) i (omega arith)))

  pub fills_action : Filled (extend D action_record p) with_action
  unfolding extend field_stop clears_in some_every relations_in actions_in components_in keys_in variables_in lasting_in size_in action
  fills_action =
      let H = F.says in
      let b = action_few.1 in
      let m = action_few.0 in
      let a = action_of p in
      let l = length-append D.actions (a ∷ []) in
      let q = action_passes p (passes D action_record p e).fields in
      let low : (j : ℕ) → (j ≡ 1 → ⊥) → j < at_variables → get_or with_action j 0 ≡ get_or head j 0 = λ j a h. action_other j a (λ k z. omega arith) in
      let components = ap (within max_components) (low 2 (λ z. omega arith) (omega arith)) ∙ H.components in
      record {
        says =
            record {
              bounded = bounded_extend D action_record p H.bounded e;
              relations = ap (within max_relations) (low 0 (λ z. omega arith) (omega arith)) ∙ H.relations;
              actions = ap (within max_actions) (hit action_bytes head F.room 1 (n + 1) (omega arith) (inl (refl, refl))) ∙ within_is max_actions (n + 1) (omega arith) ∙ omega arith;
              keys = ap (within max_arguments) (low 3 (λ z. omega arith) (omega arith)) ∙ H.keys;
              arities = λ r. arity_kept head with_action r (λ h. low (at_arities + r) (λ z. omega arith) (omega arith)) ∙ H.arities r;
              components = components;
              component_rows = parts_say H with_action components (λ j a b. low j (λ z. omega arith) (omega arith));
              variables =
                  each_action D a (λ i. within max_variables (get_or with_action (at_variables + i) 0)) (λ (x : Action). x.vars) n m
                  (λ i h. ap (within max_variables) (action_kept 0 i h) ∙ H.variables i h) (ap (within max_variables) action_variables ∙ within_is max_variables (byte p 0) q.1);
              lasting =
                  each_action D a (λ i. eqb (get_or with_action (at_sorts + i) 0) 1) (λ (x : Action). x.lasting) n m
                  (λ i h. ap (λ (b : ℕ). eqb b 1) (action_kept 1 i h) ∙ H.lasting i h) (ap (λ (b : ℕ). eqb b 1) action_sort);
              sizes =
                  each_action D a (λ i. within max_literals (get_or with_action (at_sizes + i) 0)) (λ (x : Action). length x.lits) n m
                  (λ i h. ap (within max_literals) (action_kept 2 i h) ∙ H.sizes i h) (ap (within max_literals) action_size);
              firsts = action_firsts;
              clears =
                  ap (λ (b : ℕ). eqb b 1)
                  (other action_bytes head at_clears (λ z. omega arith, (λ z. omega arith, (λ z. omega arith, (λ z. omega arith, (λ z. omega arith, (λ z. omega arith, tt)))))))
                  ∙ H.clears
                  ∙ ap (any has_every) (sym (literals_snoc D.actions a ∙ append-nil (all_literals D.actions)));
            };
        room = whole action_bytes head F.room;
      }

-- ---- a literal

-- the latest action by its number
pub latest_at : (as' : List Action) (i : ℕ) → suc i ≡ length as' → get_or as' i no_action ≡ latest as'
latest_at [] i h = absurd (omega arith)
latest_at (a ∷ []) zero h = refl
latest_at (a ∷ []) (suc i) h = absurd (omega arith)
latest_at (a ∷ b ∷ bs) zero h = absurd (omega arith)
latest_at (a ∷ b ∷ bs) (suc i) h = latest_at (b ∷ bs) i (omega arith)

-- only the latest action has it
with_vars : (l : Literal) (as' : List Action) (i : ℕ) → (get_or (with_literal l as') i no_action).vars ≡ (get_or as' i no_action).vars
with_vars l [] i = refl
with_vars l (a ∷ []) zero = refl
with_vars l (a ∷ []) (suc i) = refl
with_vars l (a ∷ b ∷ bs) zero = refl
with_vars l (a ∷ b ∷ bs) (suc i) = with_vars l (b ∷ bs) i

with_lasting : (l : Literal) (as' : List Action) (i : ℕ) → (get_or (with_literal l as') i no_action).lasting ≡ (get_or as' i no_action).lasting
with_lasting l [] i = refl
with_lasting l (a ∷ []) zero = refl
with_lasting l (a ∷ []) (suc i) = refl
with_lasting l (a ∷ b ∷ bs) zero = refl
with_lasting l (a ∷ b ∷ bs) (suc i) = with_lasting l (b ∷ bs) i

with_earlier : (l : Literal) (as' : List Action) (i : ℕ) → suc i < length as' → get_or (with_literal l as') i no_action ≡ get_or as' i no_action
with_earlier l [] i h = refl
with_earlier l (a ∷ []) i h = absurd (omega arith)
with_earlier l (a ∷ b ∷ bs) zero h = refl
with_earlier l (a ∷ b ∷ bs) (suc i) h = with_earlier l (b ∷ bs) i (omega arith)

with_latest : (l : Literal) (as' : List Action) (i : ℕ) → suc i ≡ length as' → length (get_or (with_literal l as') i no_action).lits ≡ length (get_or as' i no_action).lits + 1
with_latest l [] i h = absurd (omega arith)
with_latest l (a ∷ []) zero h = length-append a.lits (l ∷ [])
with_latest l (a ∷ []) (suc i) h = absurd (omega arith)
with_latest l (a ∷ b ∷ bs) zero h = absurd (omega arith)
with_latest l (a ∷ b ∷ bs) (suc i) h = with_latest l (b ∷ bs) i (omega arith)

with_before : (l : Literal) (as' : List Action) (i : ℕ) → i < length as' → take i (with_literal l as') ≡ take i as'
with_before l [] i h = refl
with_before l (a ∷ []) zero h = refl
with_before l (a ∷ []) (suc i) h = absurd (omega arith)
with_before l (a ∷ b ∷ bs) zero h = refl
with_before l (a ∷ b ∷ bs) (suc i) h = ap {B = List Action} (λ r. a ∷ r) (with_before l (b ∷ bs) i (omega arith))

below : (i n : ℕ) → (i ≡ n → ⊥) → i ≤ n → i < n
below i n h l = go (bool_cases (ltb i n))
  where
    go : (ltb i n ≡ true) ⊎ (ltb i n ≡ false) → i < n
    go (inl t) = ltb-true i n t
    go (inr t) = let g = ltb-false i n t in absurd (h (omega arith))

module _ {D : Domain} {head : List ℕ} (F : Filled D head) (p : List ℕ) (last size : ℕ) (c : last + 1 ≡ actions_in head) (s : size ≡ size_in head last)
    {clears : Bool} (every : clears ≡ has_every (literal_of p)) (flag : ℕ) (g : flag ≡ cond clears 1 (get_or head at_clears 0))
    (e : stop_of D literal_record p ≡ 0) where
  abbrev literal_bytes : List (ℕ × ℕ)
  literal_bytes = (at_clears, flag) ∷ (at_sizes + last, size + 1) ∷ []

  abbrev with_literal_lem : List ℕ
  with_literal_lem = put literal_bytes head

  literal_few : (last + 1 ≡ length D.actions) × (last < max_actions)
  literal_few = let m = c ∙ F.says.actions in let b = F.says.bounded.actions in (m, omega arith)

  literal_other : (j : ℕ) → j < at_clears → (j ≡ at_sizes + last → ⊥) → get_or with_literal_lem j 0 ≡ get_or head j 0
  literal_other j h a = other literal_bytes head j (λ z. omega arith, (a, tt))

  -- the latest action is not full
  literal_size : (size_in head last ≡ length (action D last).lits) × (size_in head last < max_literals)
  unfolding action
  literal_size =
      let m = literal_few.0 in
      let z = F.says.sizes last (omega arith) in
      let q = leb-false max_literals (length (latest D.actions).lits) (passes D literal_record p e).room in
      let l = ap (λ (a : Action). length a.lits) (latest_at D.actions last (omega arith)) in
      (z, omega arith)

  literal_sizes : (i : ℕ) → i < length D.actions → size_in with_literal_lem i ≡ length (get_or (with_literal (literal_of p) D.actions) i no_action).lits
  unfolding size_in action
  literal_sizes i h = go (bool_cases (eqb i last))
    where
      go : (eqb i last ≡ true) ⊎ (eqb i last ≡ false) → size_in with_literal_lem i ≡ length (get_or (with_literal (literal_of p) D.actions) i no_action).lits
      go (inl t) =
          let q = eqb-true i last t in
          let m = literal_few.0 in
          let z = literal_size.0 in
          let y = literal_size.1 in
          let b : get_or with_literal_lem (at_sizes + i) 0 ≡ size + 1 = ap (λ (k : ℕ). get_or with_literal_lem (at_sizes + k) 0) q ∙ hit literal_bytes head F.room (at_sizes + last) (size + 1) (let l = literal_few.1 in omega arith) (inr (let l = literal_few.1 in λ z. omega arith, inl (refl, refl))) in
          ap (within max_literals) b
          ∙ within_is max_literals (size + 1) (omega arith)
          ∙ ap (λ (k : ℕ). k + 1) (s ∙ z ∙ ap (λ (k : ℕ). length (action D k).lits) (sym q))
          ∙ sym (with_latest (literal_of p) D.actions i (omega arith))
      go (inr t) =
          let q = eqb-false i last t in
          let m = literal_few.0 in
          ap (within max_literals) (literal_other (at_sizes + i) (let l = literal_few.1 in omega arith) (λ z. q (omega arith)))
          ∙ F.says.sizes i h
          ∙ ap (λ (a : Action). length a.lits) (sym (with_earlier (literal_of p) D.actions i (let l = below i last q (omega arith) in omega arith)))

  literal_clears : clears_in with_literal_lem ≡ some_every (with_literal (literal_of p) D.actions)
  unfolding clears_in some_every
  literal_clears =
      ap (λ (b : ℕ). eqb b 1) (hit literal_bytes head F.room at_clears flag (omega arith) (inl (refl, refl)) ∙ g)
      ∙ told clears
      ∙ ap₂ ◌||◌ F.says.clears (every ∙ sym (or_false (has_every (literal_of p))))
      ∙ sym (ap (any has_every) (literals_more (literal_of p) D.actions (let m = literal_few.0 in omega arith))
      ∙ any_append has_every (all_literals D.actions) (literal_of p ∷ []))
    where
      told : (b : Bool) → eqb (cond b 1 (get_or head at_clears 0)) 1 ≡ eqb (get_or head at_clears 0) 1 || b
      told true = sym (or_true (eqb (get_or head at_clears 0) 1))
      told false = sym (or_false (eqb (get_or head at_clears 0) 1))

  pub fills_literal : Filled (extend D literal_record p) with_literal_lem
  unfolding extend relations_in actions_in components_in keys_in variables_in lasting_in first_in action
  fills_literal =
      let H = F.says in
      let b = literal_few.1 in
      let l = literal_of p in
      let n = length_with_literal l D.actions in
      let w = H.bounded.actions in
      let components = ap (within max_components) (literal_other 2 (omega arith) (λ z. omega arith)) ∙ H.components in
      record {
        says =
            record {
              bounded = bounded_extend D literal_record p H.bounded e;
              relations = ap (within max_relations) (literal_other 0 (omega arith) (λ z. omega arith)) ∙ H.relations;
              actions = ap (within max_actions) (literal_other 1 (omega arith) (λ z. omega arith)) ∙ H.actions ∙ sym n;
              keys = ap (within max_arguments) (literal_other 3 (omega arith) (λ z. omega arith)) ∙ H.keys;
              arities = λ r. arity_kept head with_literal_lem r (λ h. literal_other (at_arities + r) (omega arith) (λ z. omega arith)) ∙ H.arities r;
              components = components;
              component_rows = parts_say H with_literal_lem components (λ j a b. literal_other j (omega arith) (λ z. omega arith));
              variables = λ i h. ap (within max_variables) (literal_other (at_variables + i) (omega arith) (λ z. omega arith)) ∙ H.variables i (omega arith) ∙ sym (with_vars l D.actions i);
              lasting = λ i h. ap (λ (b : ℕ). eqb b 1) (literal_other (at_sorts + i) (omega arith) (λ z. omega arith)) ∙ H.lasting i (omega arith) ∙ sym (with_lasting l D.actions i);
              sizes = λ i h. literal_sizes i (omega arith);
              firsts =
                  λ i h.
                  ap₂ (λ (a b : ℕ). a + 256 * b) (literal_other (at_lows + i) (omega arith) (λ z. omega arith)) (literal_other (at_highs + i) (omega arith) (λ z. omega arith))
                  ∙ H.firsts i (omega arith) ∙ ap (λ (as' : List Action). length (all_literals as')) (sym (with_before l D.actions i (omega arith)));
              clears = literal_clears;
            };
        room = whole literal_bytes head F.room;
      }

-- a literal without FF leaves the byte that tells of FF as it was
pub fills_plain : {D : Domain} {head : List ℕ} (F : Filled D head) (p : List ℕ) (last size : ℕ) → last + 1 ≡ actions_in head → size ≡ size_in head last
    → last < max_actions → false ≡ has_every (literal_of p) → stop_of D literal_record p ≡ 0 → Filled (extend D literal_record p) (set head (at_sizes + last) (size + 1))
fills_plain {D} {head} F p last size c s l every e =
    subst (λ (h : List ℕ). Filled (extend D literal_record p) h)
    (ap (set (set head (at_sizes + last) (size + 1)) at_clears) (sym (get_or-set_other head (at_sizes + last) at_clears (size + 1) 0 (λ z. omega arith)))
    ∙ set-get_or (set head (at_sizes + last) (size + 1)) at_clears 0)
    (fills_literal F p last size c s every (get_or head at_clears 0) refl e)

-- ---- a component

-- a component's payload is its row
component_row_lem : (p : List ℕ) → 1 ≤ length p → row_of p ≡ component_row (component_of p)
component_row_lem [] h = absurd (omega arith)
component_row_lem (r ∷ ls) h = ap (λ k. row_of (r ∷ k)) (sym (map_back label_number label_of number ls))
  where
    number : (b : ℕ) → label_number (label_of b) ≡ b
    number b = go (eqb b 255) refl
      where
        go : (t : Bool) → eqb b 255 ≡ t → label_number (cond t Counted (keyed (key b))) ≡ b
        go true q = sym (eqb-true b 255 q)
        go false q = refl

parts_snoc : (t : List ℕ) (c n : ℕ) → component_rows_from t c (suc n) ≡ component_rows_from t c n ++ (component_row_in t (c + n) ∷ [])
parts_snoc t c zero = let e : c ≡ c + 0 = omega arith in ap (λ (k : ℕ). component_row_in t k ∷ []) e
parts_snoc t c (suc n) =
    let e : suc c + n ≡ c + suc n = omega arith in
    ap {B = List (List ℕ)} (λ r. component_row_in t c ∷ r) (parts_snoc t (suc c) n ∙ ap (λ (k : ℕ). component_rows_from t (suc c) n ++ (component_row_in t k ∷ [])) e)

-- a row that is pasted, and the bytes beside it
module _ (t row : List ℕ) (at n : ℕ) (l : length row ≡ n) (h : at + n ≤ length t) where
  paste_before : (j : ℕ) → j < at → get_or (paste t at row n) j 0 ≡ get_or t j 0
  paste_before j g =
      let a = length-take-le at t (omega arith) in
      let b = length_paste_head t at row n (omega arith) (omega arith) in
      get_or-append (take at t ++ take n row) (drop (at + n) t) 0 j (omega arith)
      ∙ get_or-append (take at t) (take n row) 0 j (omega arith)
      ∙ get_or-take at t j 0 g

  paste_behind : (j : ℕ) → at + n ≤ j → get_or (paste t at row n) j 0 ≡ get_or t j 0
  paste_behind j g =
      let b = length_paste_head t at row n (omega arith) (omega arith) in
      let e : j ≡ length (take at t ++ take n row) + (j - (at + n)) = omega arith in
      let d : at + n + (j - (at + n)) ≡ j = omega arith in
      ap (λ (k : ℕ). get_or (paste t at row n) k 0) e
      ∙ get_or-append-add (take at t ++ take n row) (drop (at + n) t) (j - (at + n)) 0
      ∙ get_or-drop (at + n) t (j - (at + n)) 0
      ∙ ap (λ (k : ℕ). get_or t k 0) d

  paste_here : bytes_from (paste t at row n) at n ≡ row
  paste_here =
      let a = length-take-le at t (omega arith) in
      ap₂ (λ (r : List ℕ) (k : ℕ). bytes_from ((take at t ++ r) ++ drop (at + n) t) at k) (take_all n row (omega arith)) (sym l)
      ∙ ap (λ (u : List ℕ). bytes_from u at (length row)) (append_assoc (take at t) row (drop (at + n) t))
      ∙ bytes_here (take at t) row (drop (at + n) t) at a

module _ {D : Domain} {head : List ℕ} (F : Filled D head) (p : List ℕ) (n keys : ℕ) (c : n ≡ components_in head)
    (k : keys ≡ keys_of (D.template ++ (component_of p ∷ []))) (e : stop_of D component_record p ≡ 0) where
  abbrev with_row : List ℕ
  with_row = paste head (at_components + 8 * n) (row_of p) 8

  abbrev component_bytes : List (ℕ × ℕ)
  component_bytes = (3, keys) ∷ (2, n + 1) ∷ []

  abbrev with_component : List ℕ
  with_component = put component_bytes with_row

  component_few : (n ≡ length D.template) × (n < max_components)
  component_few =
      let m = c ∙ F.says.components in
      let q = leb-false max_components (length D.template) (passes D component_record p e).room in
      (m, omega arith)

  -- its payload has a relation, and at most as many labels as a relation has places
  component_sized : (1 ≤ length p) × (length p ≤ 1 + max_arguments)
  unfolding field_stop
  component_sized =
      let q = component_passes D p (passes D component_record p e).fields in
      let s = arity_six D F.says.bounded.arities (byte p 0) in
      let a = q.arguments in
      (q.long, omega arith)

  row_length : length (row_of p) ≡ 8
  row_length = let s = component_sized.1 in length_row p (omega arith)

  row_fits : at_components + 8 * n + 8 ≤ length head
  row_fits = let b = component_few.1 in let r = F.room in omega arith

  row_room : length with_row ≡ head_bytes
  row_room = let l = row_length in length-paste head (at_components + 8 * n) (row_of p) 8 row_fits (omega arith) ∙ F.room

  component_other : (j : ℕ) → (j ≡ 2 → ⊥) → (j ≡ 3 → ⊥) → (j < at_components + 8 * n) ⊎ (at_components + 8 * n + 8 ≤ j) → get_or with_component j 0 ≡ get_or head j 0
  component_other j a b (inl h) = other component_bytes with_row j (b, (a, tt)) ∙ paste_before head (row_of p) (at_components + 8 * n) 8 row_length row_fits j h
  component_other j a b (inr h) = other component_bytes with_row j (b, (a, tt)) ∙ paste_behind head (row_of p) (at_components + 8 * n) 8 row_length row_fits j h

  component_parts : component_rows_from with_component 0 (suc n) ≡ map component_row (D.template ++ (component_of p ∷ []))
  unfolding component_row_in component_rows_in
  component_parts =
      let m = component_few.0 in
      let z : 0 + n ≡ n = omega arith in
      parts_snoc with_component 0 n
      ∙ ap₂ (λ (ps : List (List ℕ)) (r : List ℕ). ps ++ (r ∷ []))
      (parts_kept head with_component n 0 n (omega arith) (λ j a b. component_other j (λ z. omega arith) (λ z. omega arith) (inl b)) ∙ ap (component_rows_from head 0) c ∙ F.says.component_rows)
      (ap (component_row_in with_component) z
      ∙ bytes_kept with_row with_component (at_components + 8 * n) 8 (λ j a b. other component_bytes with_row j (λ z. omega arith, (λ z. omega arith, tt)))
      ∙ paste_here head (row_of p) (at_components + 8 * n) 8 row_length row_fits ∙ component_row_lem p component_sized.0)
      ∙ sym (map-append component_row D.template (component_of p ∷ []))

  filled_component : Filled (extend D component_record p) with_component
  unfolding extend clears_in relations_in actions_in components_in keys_in component_rows_in variables_in lasting_in size_in first_in action
  filled_component =
      let H = F.says in
      let b = component_few.1 in
      let m = component_few.0 in
      let l = length-append D.template (component_of p ∷ []) in
      let B = bounded_extend D component_record p H.bounded e in
      let w = keys_few (D.template ++ (component_of p ∷ [])) B.labels in
      let number = ap (within max_components) (hit component_bytes with_row row_room 2 (n + 1) (omega arith) (inr (λ z. omega arith, inl (refl, refl)))) ∙ within_is max_components (n + 1) (omega arith) in
      let low : (j : ℕ) → (j ≡ 2 → ⊥) → (j ≡ 3 → ⊥) → j < at_components → get_or with_component j 0 ≡ get_or head j 0 = λ j a b h. component_other j a b (inl (omega arith)) in
      let high : (j : ℕ) → at_variables ≤ j → get_or with_component j 0 ≡ get_or head j 0 = λ j h. component_other j (λ z. omega arith) (λ z. omega arith) (inr (omega arith)) in
      record {
        says =
            record {
              bounded = B;
              relations = ap (within max_relations) (low 0 (λ z. omega arith) (λ z. omega arith) (omega arith)) ∙ H.relations;
              actions = ap (within max_actions) (low 1 (λ z. omega arith) (λ z. omega arith) (omega arith)) ∙ H.actions;
              keys = ap (within max_arguments) (hit component_bytes with_row row_room 3 keys (omega arith) (inl (refl, refl))) ∙ within_is max_arguments keys (omega arith) ∙ k;
              arities = λ r. arity_kept head with_component r (λ h. low (at_arities + r) (λ z. omega arith) (λ z. omega arith) (omega arith)) ∙ H.arities r;
              components = number ∙ omega arith;
              component_rows = ap (component_rows_from with_component 0) (number ∙ add-one n) ∙ component_parts;
              variables = λ i h. ap (within max_variables) (high (at_variables + i) (omega arith)) ∙ H.variables i h;
              lasting = λ i h. ap (λ (b : ℕ). eqb b 1) (high (at_sorts + i) (omega arith)) ∙ H.lasting i h;
              sizes = λ i h. ap (within max_literals) (high (at_sizes + i) (omega arith)) ∙ H.sizes i h;
              firsts = λ i h. ap₂ (λ (l u : ℕ). l + 256 * u) (high (at_lows + i) (omega arith)) (high (at_highs + i) (omega arith)) ∙ H.firsts i h;
              clears = ap (λ (b : ℕ). eqb b 1) (high at_clears (omega arith)) ∙ H.clears;
            };
        room = whole component_bytes with_row row_room;
      }

  pub fills_component : {t : List ℕ} → t ≡ with_row → Filled (extend D component_record p) (put component_bytes t)
  fills_component g = subst (λ (t : List ℕ). Filled (extend D component_record p) (put component_bytes t)) (sym g) filled_component

-- ---- no component

bounded_bare : {D : Domain} → Bounded D → Bounded (bare D)
bounded_bare B =
    record {
      relations = B.relations;
      arities = B.arities;
      actions = B.actions;
      counts = B.counts;
      sizes = B.sizes;
      arguments = B.arguments;
      variables = B.variables;
      below = B.below;
      roles = B.roles;
      clears = B.clears;
      keys_kept = λ a i l k c m. absurd (Memᴰ.not-nil m);
      components = omega arith;
      labels = λ c m. absurd (Memᴰ.not-nil m);
      literal_arity = B.literal_arity;
      component_arity = λ c m. absurd (Memᴰ.not-nil m);
      keys_fit = λ c m. absurd (Memᴰ.not-nil m);
      components_once = refl;
    }

module _ {D : Domain} {head : List ℕ} (F : Filled D head) where
  abbrev bare_bytes : List (ℕ × ℕ)
  bare_bytes = (3, 0) ∷ (2, 0) ∷ []

  abbrev without_template : List ℕ
  without_template = put bare_bytes head

  pub fills_bare : Filled (bare D) without_template
  unfolding clears_in relations_in actions_in components_in keys_in component_rows_in variables_in lasting_in size_in first_in action
  fills_bare =
      let H = F.says in
      let kept : (j : ℕ) → (j ≡ 2 → ⊥) → (j ≡ 3 → ⊥) → get_or without_template j 0 ≡ get_or head j 0 = λ j a b. other bare_bytes head j (b, (a, tt)) in
      let high : (j : ℕ) → at_arities ≤ j → get_or without_template j 0 ≡ get_or head j 0 = λ j h. kept j (λ z. omega arith) (λ z. omega arith) in
      let none : get_or without_template 2 0 ≡ 0 = hit bare_bytes head F.room 2 0 (omega arith) (inr (λ z. omega arith, inl (refl, refl))) in
      record {
        says =
            record {
              bounded = bounded_bare H.bounded;
              relations = ap (within max_relations) (kept 0 (λ z. omega arith) (λ z. omega arith)) ∙ H.relations;
              actions = ap (within max_actions) (kept 1 (λ z. omega arith) (λ z. omega arith)) ∙ H.actions;
              keys = ap (within max_arguments) (hit bare_bytes head F.room 3 0 (omega arith) (inl (refl, refl)));
              arities = λ r. arity_kept head without_template r (λ h. high (at_arities + r) (omega arith)) ∙ H.arities r;
              components = ap (within max_components) none;
              component_rows = ap (λ (k : ℕ). component_rows_from without_template 0 (within max_components k)) none;
              variables = λ i h. ap (within max_variables) (high (at_variables + i) (omega arith)) ∙ H.variables i h;
              lasting = λ i h. ap (λ (b : ℕ). eqb b 1) (high (at_sorts + i) (omega arith)) ∙ H.lasting i h;
              sizes = λ i h. ap (within max_literals) (high (at_sizes + i) (omega arith)) ∙ H.sizes i h;
              firsts = λ i h. ap₂ (λ (l u : ℕ). l + 256 * u) (high (at_lows + i) (omega arith)) (high (at_highs + i) (omega arith)) ∙ H.firsts i h;
              clears = ap (λ (b : ℕ). eqb b 1) (high at_clears (omega arith)) ∙ H.clears;
            };
        room = whole bare_bytes head F.room;
      }

-- ---- no record at all

pub filled_none : (head : List ℕ) → head ≡ replicate head_bytes 0 → Filled no_domain head
unfolding clears_in some_every all_literals flat_map relations_in actions_in components_in keys_in arity_in component_rows_in
filled_none head e =
    record {
      says =
          record {
            bounded = bounded_none;
            relations = ap (within max_relations) (none 0);
            actions = ap (within max_actions) (none 1);
            keys = ap (within max_arguments) (none 3);
            arities = λ r. ap (λ (k : ℕ). cond (ltb r max_relations) (within max_arguments k) 0) (none (at_arities + r)) ∙ zeros (ltb r max_relations);
            components = ap (within max_components) (none 2);
            component_rows = ap (λ (k : ℕ). component_rows_from head 0 (within max_components k)) (none 2);
            variables = λ i h. absurd (omega arith);
            lasting = λ i h. absurd (omega arith);
            sizes = λ i h. absurd (omega arith);
            firsts = λ i h. absurd (omega arith);
            clears = ap (λ (b : ℕ). eqb b 1) (none at_clears);
          };
      room = ap length e ∙ length-replicate {A = ℕ} head_bytes 0;
    }
  where
    none : (i : ℕ) → get_or head i 0 ≡ 0
    none i = ap (λ (t : List ℕ). get_or t i 0) e ∙ get_d_fill [] head_bytes i 0

    zeros : (b : Bool) → ◌≡◌ {A = ℕ} (cond b 0 0) 0
    zeros true = refl
    zeros false = refl

-- ---- the number of literals, and that of keys

pub literals_are : {D : Domain} {head : List ℕ} → HeadOf D head → (last : ℕ) → last + 1 ≡ actions_in head → first_in head last + size_in head last ≡ length (all_literals D.actions)
literals_are {D} H last c =
    let m = c ∙ H.actions in
    ap₂ ◌+◌ (H.firsts last (omega arith)) (H.sizes last (omega arith))
    ∙ sym (literals_after D last (omega arith))
    ∙ ap (λ (as' : List Action). length (all_literals as')) (take_all (suc last) D.actions (omega arith))

pub literals_most : {D : Domain} {head : List ℕ} → HeadOf D head → length (all_literals D.actions) ≤ max_literals * max_actions
literals_most {D} H = let a = rows_few D.actions H.bounded.sizes in let b = H.bounded.actions in omega arith

pub literals_none : {D : Domain} {head : List ℕ} → HeadOf D head → actions_in head ≡ 0 → 0 ≡ length (all_literals D.actions)
literals_none {D} H z = let a = rows_few D.actions H.bounded.sizes in let b = H.actions in omega arith

pub keys_short : (p : List ℕ) → length p ≤ 1 + max_arguments → count_by (λ l. not (is_counted l)) (map label_of (drop 1 p)) ≤ max_arguments
keys_short p g =
    let c = count_le (λ l. not (is_counted l)) (map label_of (drop 1 p)) in
    let m = length-map (drop 1 p) label_of in
    let d = length-drop 1 p in
    omega arith
