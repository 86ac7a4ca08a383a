-- A literal's row, so bound, meets the rows of exactly the facts that the literal stands for, of facts and bindings over the chosen
-- objects; and two literals' rows meet exactly where there is a fact that both stand for. Assumes nothing.
use mathlib.Core.Path.{◌≡◌, refl, sym, ap, ap₂, ◌∙◌}
use mathlib.Core.Bool.{Bool, true, false, not, ◌&&◌, ◌||◌}
use mathlib.Core.Logic.{◌⊎◌, inl, inr}
use mathlib.Core.List.Memᴰ
use mathlib.Core.List.{List, [], ◌∷◌, ◌++◌, map, flat_map}
use Prim.Native.Nat.{ℕ, suc, ◌-◌, ◌<◌}
use native.Mathlib.Omega.{arith}
use lib.Dec.{eqb}
use lib.ListN.{length, replicate}
use borrow.Author.Tests.{eqb-true, eq-eqb, ne_eqb}
use Rattle.records.specs.Lists.{In, all, any, count_by, same_list, elem}
use Rattle.records.proofs.Lists.{and_l, and_r, and_i, or_l, or_r, or_cases, clash, off, in_any, any_in, all_in, all_of, any_map}
use Rattle.records.proofs.Lists.{not_true, any_append, same_list_self, get_d_in, flat_map_in, in_flat_map}
use Rattle.literals.specs.declared.Variable.{Variable}
use Rattle.literals.specs.declared.Object.{Object}
use Rattle.literals.specs.declared.Usage.{Usage}
use Rattle.literals.specs.declared.Argument.{Argument}
use Rattle.literals.specs.declared.Argument.TheVariants.{Variable as bound, Every}
use Rattle.literals.specs.Domain.{object, is_every, variables_of, Atom, Fact, same_fact, Literal, may_clear, Action, Domain, arity, action}
use Rattle.literals.specs.Held.{meet_byte, Bounded}
use Rattle.literals.specs.Matching.{literals_at}
use Rattle.verdict.specs.Binding.{Binding, value_of, bind_tuple, facts_of, bind}
use Rattle.verdict.specs.Machine.{Event, event_facts, meet}
use Rattle.verdict.specs.Claims.{well_formed_action}
use Rattle.verdict.specs.Held.{fact_row, argument_byte, pattern_row, patterns_meet, FactOver}
use Rattle.verdict.proofs.Tuples.{Below}
use Rattle.verdict.proofs.Events.{elem_fact, fact_elem}
use Rattle.verdict.proofs.Asking.{both_ways}
use Rattle.verdict.proofs.Facts.{Stands, facts_in_lem, in_facts, stand_length, plain_flat}
use Rattle.verdict.proofs.Acts.{plain_of, literals_plain}

-- ---- literals without FF

-- the row of such a literal is that of its fact
pub plain_row : (b : Binding) (p : Atom Argument) → count_by is_every p.args ≡ 0 → pattern_row b p ≡ fact_row (bind b p)
unfolding pattern_row
plain_row b p h =
    ap {B = List ℕ} (λ l. p.rel ∷ l)
    (ap₂ (λ (n : ℕ) (bs : List ℕ). n ∷ (bs ++ replicate (6 - n) 255)) (sized p.args h) (bytes p.args h))
  where
    sized : (vs : List Argument) → count_by is_every vs ≡ 0 → length vs ≡ length (bind_tuple b (variables_of vs))
    sized [] h = refl
    sized (bound v ∷ vs) h = ap suc (sized vs h)
    sized (Every ∷ vs) h = absurd (omega arith)

    bytes : (vs : List Argument) → count_by is_every vs ≡ 0
        → map (argument_byte b) vs ≡ map (λ (o : Object). o.0) (bind_tuple b (variables_of vs))
    bytes [] h = refl
    bytes (bound v ∷ vs) h = ap {B = List ℕ} (λ l. (value_of b v).0 ∷ l) (bytes vs h)
    bytes (Every ∷ vs) h = absurd (omega arith)

-- an event's true conditions and adds stand for one fact each, in file order
pub plain_event_lem : (D : Domain) (objs : List Object) (e : Event) → well_formed_action D (action D e.act.action) ≡ true
    → (c : Usage) → may_clear c ≡ false
    → event_facts D objs e c ≡ map (bind e.act.binding) (literals_at (action D e.act.action) e.moment c)
unfolding event_facts
plain_event_lem D objs e ok c k =
    plain_flat objs e.act.binding (literals_at (action D e.act.action) e.moment c)
    (λ p m. literals_plain D (action D e.act.action) ok e.moment c p m k)

-- ---- bytes that meet

same_meet : {a b : ℕ} → a ≡ b → meet_byte a b ≡ true
same_meet {a} {b} e = or_l (eqb a 255 || eqb b 255) (eq-eqb a b e)

first_meet : (b : ℕ) → meet_byte 255 b ≡ true
first_meet b = or_r (eqb 255 b) refl

second_meet : (a : ℕ) → meet_byte a 255 ≡ true
second_meet a = or_r (eqb a 255) (or_r (eqb a 255) refl)

-- below FF, equal ones alone
low_meet : (a b : ℕ) → a < 255 → b < 255 → meet_byte a b ≡ true → a ≡ b
low_meet a b h k t = go (or_cases (eqb a b) (eqb a 255 || eqb b 255) t)
  where
    other : (eqb a 255 ≡ true) ⊎ (eqb b 255 ≡ true) → ⊥
    other (inl e) = clash e (ne_eqb a 255 (λ z. omega arith))
    other (inr e) = clash e (ne_eqb b 255 (λ z. omega arith))

    go : (eqb a b ≡ true) ⊎ (eqb a 255 || eqb b 255 ≡ true) → a ≡ b
    go (inl e) = eqb-true a b e
    go (inr e) = absurd (other (or_cases (eqb a 255) (eqb b 255) e))

filled : (m : ℕ) → same_list meet_byte (replicate m 255) (replicate m 255) ≡ true
filled m = same_list_self meet_byte (λ a. same_meet {a = a} {b = a} refl) (replicate m 255)

-- the bytes of some arguments, with m to fill
abbrev bytes_of : Binding → List Argument → ℕ → List ℕ
bytes_of b vs m = map (argument_byte b) vs ++ replicate m 255

abbrev numbers_of : List Object → ℕ → List ℕ
numbers_of os m = map (λ (o : Object). o.0) os ++ replicate m 255

-- ---- tests of the facts of several literals

module _ {A B : Type 0} (f : A → List B) (p : B → Bool) where
  pub all_flat : (l : List A) → all p (flat_map f l) ≡ all (λ a. all p (f a)) l
  unfolding flat_map
  all_flat [] = refl
  all_flat (x ∷ xs) = both (f x) (flat_map f xs) ∙ ap (λ (t : Bool). all p (f x) && t) (all_flat xs)
    where
      both : (us vs : List B) → all p (us ++ vs) ≡ all p us && all p vs
      both [] vs = refl
      both (u ∷ us) vs = go (p u) (both us vs)
        where
          go : (t : Bool) → all p (us ++ vs) ≡ all p us && all p vs → t && all p (us ++ vs) ≡ t && all p us && all p vs
          go true h = h
          go false h = refl

  pub any_flat : (l : List A) → any p (flat_map f l) ≡ any (λ a. any p (f a)) l
  unfolding flat_map
  any_flat [] = refl
  any_flat (x ∷ xs) = any_append p (f x) (flat_map f xs) ∙ ap (λ (t : Bool). any p (f x) || t) (any_flat xs)

-- ---- what is asked of literals

-- a literal with the arity of its relation, and a binding that has an object for each of its variables
pub record LiteralBound (D : Domain) (b : Binding) (p : Atom Argument) : Type 0 where
  pub sized : length p.args ≡ arity D p.rel
  pub below : Below (length b) (variables_of p.args)

abbrev pub LiteralsBound : Domain → Binding → List (Atom Argument) → Type 0
LiteralsBound D b ps = (p : Atom Argument) → In p ps → LiteralBound D b p

-- the literals of a domain that was read are such
pub literal_bound : {D : Domain} → Bounded D → {a : Action} → In a D.actions → (b : Binding) → length b ≡ a.vars
    → (l : Literal) → In l a.lits → LiteralBound D b l.atom
literal_bound B {a} i b e l m =
    record { sized = B.literal_arity a i l m; below = λ v k. let h = B.below a i l m v k in omega arith }

-- and its true conditions and adds have no FF
pub literal_plain : {D : Domain} → Bounded D → {a : Action} → In a D.actions → (l : Literal) → In l a.lits
    → may_clear l.role.usage ≡ false → count_by is_every l.atom.args ≡ 0
literal_plain B {a} i l m k = plain_of l (B.clears a i l m) k

-- no chosen object is FF, which says every object
module _ (D : Domain) (objs : List Object) (low : (o : Object) → In o objs → o.0 < 255) where
  -- ---- a literal and facts

  module _ (b : Binding) (hb : (o : Object) → In o b → In o objs) where
    value_in : (v : Variable) → v.0 < length b → In (value_of b v) objs
    value_in v h = hb (value_of b v) (get_d_in b v.0 (object 0) h)

    value_low : (v : Variable) → v.0 < length b → (value_of b v).0 < 255
    value_low v h = low (value_of b v) (value_in v h)

    stand_bytes : (vs : List Argument) (os : List Object) → Stands objs b vs os → (m : ℕ)
        → same_list meet_byte (bytes_of b vs m) (numbers_of os m) ≡ true
    stand_bytes [] [] s m = filled m
    stand_bytes [] (o ∷ os) s m = absurd s
    stand_bytes (v ∷ vs) [] s m = absurd s
    stand_bytes (bound v ∷ vs) (o ∷ os) s m =
        and_i {a = meet_byte (value_of b v).0 o.0} (same_meet (ap (λ (q : Object). q.0) (sym (Memᴰ.eq_of_singleton s.0))))
        (stand_bytes vs os s.1 m)
    stand_bytes (Every ∷ vs) (o ∷ os) s m = and_i {a = meet_byte 255 o.0} (first_meet o.0) (stand_bytes vs os s.1 m)

    bytes_stand : (vs : List Argument) (os : List Object) → length vs ≡ length os → Below (length b) (variables_of vs)
        → ((o : Object) → In o os → In o objs) → (m : ℕ) → same_list meet_byte (bytes_of b vs m) (numbers_of os m) ≡ true → Stands objs b vs os
    bytes_stand [] [] e k over m t = tt
    bytes_stand [] (o ∷ os) e k over m t = absurd (omega arith)
    bytes_stand (v ∷ vs) [] e k over m t = absurd (omega arith)
    bytes_stand (bound v ∷ vs) (o ∷ os) e k over m t = (
      Memᴰ.head
          (ap object (sym (low_meet (value_of b v).0 o.0 (value_low v (k v (Memᴰ.head refl))) (low o (over o (Memᴰ.head refl)))
          (and_l _ _ t)))),
      bytes_stand vs os (omega arith) (λ u i. k u (Memᴰ.tail i)) (λ q i. over q (Memᴰ.tail i)) m
          (and_r (meet_byte (value_of b v).0 o.0) _ t),
    )
    bytes_stand (Every ∷ vs) (o ∷ os) e k over m t = (
      over o (Memᴰ.head refl),
      bytes_stand vs os (omega arith) k (λ q i. over q (Memᴰ.tail i)) m
          (and_r (meet_byte 255 o.0) _ t),
    )

    -- a literal stands for a fact exactly where their rows meet
    pub about_row : (p : Atom Argument) (f : Fact) → LiteralBound D b p → FactOver D objs f
        → elem same_fact f (facts_of objs b p) ≡ patterns_meet (pattern_row b p) (fact_row f)
    unfolding pattern_row
    about_row p f hp hf =
        both_ways (elem same_fact f (facts_of objs b p)) (eqb p.rel f.rel && meeting (length f.args))
        (λ t.
        let r = facts_in_lem objs b p f (elem_fact f (facts_of objs b p) t) in
        and_i (eq-eqb p.rel f.rel (sym r.0))
        (ap meeting (stand_length objs b p.args f.args r.1) ∙ stand_bytes p.args f.args r.1 (6 - length p.args)))
        (λ t.
        let e = eqb-true p.rel f.rel (and_l _ _ t) in
        let l : length p.args ≡ length f.args = hp.sized ∙ ap (arity D) e ∙ sym hf.sized in
        fact_elem (in_facts objs b p f (sym e)
        (bytes_stand p.args f.args l hp.below hf.over (6 - length p.args)
        (ap meeting l ∙ and_r (eqb p.rel f.rel) _ t))))
      where
        meeting : ℕ → Bool
        meeting n = same_list meet_byte (bytes_of b p.args (6 - length p.args)) (numbers_of f.args (6 - n))

    -- of a false condition: none of its facts is among some exactly where its row meets none of theirs
    pub none_about : (p : Atom Argument) (s : List Fact) → LiteralBound D b p → ((f : Fact) → In f s → FactOver D objs f)
        → all (λ f. not (elem same_fact f s)) (facts_of objs b p) ≡ not (any (patterns_meet (pattern_row b p)) (map fact_row s))
    none_about p s hp hs =
        both_ways (all (λ f. not (elem same_fact f s)) (facts_of objs b p)) (not (any (patterns_meet (pattern_row b p)) (map fact_row s)))
        (λ t. ap not (off (any (patterns_meet (pattern_row b p)) (map fact_row s)) (λ k.
        let r = any_in met s (sym rows ∙ k) in
        clash (fact_elem r.1)
        (not_true _ (all_in (λ f. not (elem same_fact f s)) (facts_of objs b p) t
        (elem_fact r.0 (facts_of objs b p) (about_row p r.0 hp (hs r.0 r.1) ∙ r.2)))))))
        (λ t. all_of (λ f. not (elem same_fact f s)) (facts_of objs b p) (λ f m.
        ap not (off (elem same_fact f s) (λ k.
        let n = elem_fact f s k in
        clash (rows ∙ in_any met n (sym (about_row p f hp (hs f n)) ∙ fact_elem m)) (not_true _ t)))))
      where
        met : Fact → Bool
        met f = patterns_meet (pattern_row b p) (fact_row f)

        rows : any (patterns_meet (pattern_row b p)) (map fact_row s) ≡ any met s
        rows = any_map fact_row (patterns_meet (pattern_row b p)) s

    -- of deletes: a fact is one of theirs exactly where one of their rows meets its row
    pub struck_row : (ps : List (Atom Argument)) (f : Fact) → LiteralsBound D b ps → FactOver D objs f
        → elem same_fact f (flat_map (facts_of objs b) ps) ≡ any (λ row. patterns_meet row (fact_row f)) (map (pattern_row b) ps)
    struck_row ps f hp hf =
        both_ways (elem same_fact f (flat_map (facts_of objs b) ps)) (any (λ row. patterns_meet row (fact_row f)) (map (pattern_row b) ps))
        (λ t.
        let r = flat_map_in (facts_of objs b) ps (elem_fact f (flat_map (facts_of objs b) ps) t) in
        rows ∙ in_any met r.1 (sym (about_row r.0 f (hp r.0 r.1) hf) ∙ fact_elem r.2))
        (λ t.
        let r = any_in met ps (sym rows ∙ t) in
        fact_elem (in_flat_map (facts_of objs b) r.1
        (elem_fact f (facts_of objs b r.0) (about_row r.0 f (hp r.0 r.1) hf ∙ r.2))))
      where
        met : Atom Argument → Bool
        met p = patterns_meet (pattern_row b p) (fact_row f)

        rows : any (λ row. patterns_meet row (fact_row f)) (map (pattern_row b) ps) ≡ any met ps
        rows = any_map (pattern_row b) (λ row. patterns_meet row (fact_row f)) ps

  -- ---- two literals, each with its binding, over objects of which there is one

  module _ (z : Object) (mz : In z objs) (b c : Binding) (hb : (o : Object) → In o b → In o objs)
      (hc : (o : Object) → In o c → In o objs) where
    common_bytes : (vs ws : List Argument) (os : List Object) → Stands objs b vs os → Stands objs c ws os → (m : ℕ)
        → same_list meet_byte (bytes_of b vs m) (bytes_of c ws m) ≡ true
    common_bytes [] [] os s t m = filled m
    common_bytes [] (w ∷ ws) [] s t m = absurd t
    common_bytes [] (w ∷ ws) (o ∷ os) s t m = absurd s
    common_bytes (v ∷ vs) ws [] s t m = absurd s
    common_bytes (v ∷ vs) [] (o ∷ os) s t m = absurd t
    common_bytes (bound v ∷ vs) (bound w ∷ ws) (o ∷ os) s t m =
        and_i {a = meet_byte (value_of b v).0 (value_of c w).0}
        (same_meet (ap (λ (q : Object). q.0) (sym (Memᴰ.eq_of_singleton s.0) ∙ Memᴰ.eq_of_singleton t.0)))
        (common_bytes vs ws os s.1 t.1 m)
    common_bytes (bound v ∷ vs) (Every ∷ ws) (o ∷ os) s t m =
        and_i {a = meet_byte (value_of b v).0 255} (second_meet (value_of b v).0) (common_bytes vs ws os s.1 t.1 m)
    common_bytes (Every ∷ vs) (w ∷ ws) (o ∷ os) s t m =
        and_i {a = meet_byte 255 (argument_byte c w)} (first_meet (argument_byte c w)) (common_bytes vs ws os s.1 t.1 m)

    bytes_common : (vs ws : List Argument) → length vs ≡ length ws → Below (length b) (variables_of vs) → Below (length c) (variables_of ws)
        → (m : ℕ)
        → same_list meet_byte (bytes_of b vs m) (bytes_of c ws m) ≡ true → (os : List Object) × Stands objs b vs os × Stands objs c ws os
    bytes_common [] [] e kb kc m t = ([], tt, tt)
    bytes_common [] (w ∷ ws) e kb kc m t = absurd (omega arith)
    bytes_common (v ∷ vs) [] e kb kc m t = absurd (omega arith)
    bytes_common (bound v ∷ vs) (bound w ∷ ws) e kb kc m t =
        let r =
        bytes_common vs ws (omega arith) (λ u i. kb u (Memᴰ.tail i)) (λ u i. kc u (Memᴰ.tail i)) m
        (and_r (meet_byte (value_of b v).0 (value_of c w).0) _ t) in
        let same =
        low_meet (value_of b v).0 (value_of c w).0 (value_low b hb v (kb v (Memᴰ.head refl)))
        (value_low c hc w (kc w (Memᴰ.head refl)))
        (and_l _ _ t) in
        (value_of b v ∷ r.0, (Memᴰ.head refl, r.1), (Memᴰ.head (ap object same), r.2))
    bytes_common (bound v ∷ vs) (Every ∷ ws) e kb kc m t =
        let r = bytes_common vs ws (omega arith) (λ u i. kb u (Memᴰ.tail i)) kc m (and_r (meet_byte (value_of b v).0 255) _ t) in
        (value_of b v ∷ r.0, (Memᴰ.head refl, r.1), (value_in b hb v (kb v (Memᴰ.head refl)), r.2))
    bytes_common (Every ∷ vs) (bound w ∷ ws) e kb kc m t =
        let r = bytes_common vs ws (omega arith) kb (λ u i. kc u (Memᴰ.tail i)) m (and_r (meet_byte 255 (value_of c w).0) _ t) in
        (value_of c w ∷ r.0, (value_in c hc w (kc w (Memᴰ.head refl)), r.1), (Memᴰ.head refl, r.2))
    bytes_common (Every ∷ vs) (Every ∷ ws) e kb kc m t =
        let r = bytes_common vs ws (omega arith) kb kc m (and_r (meet_byte 255 255) _ t) in (z ∷ r.0, (mz, r.1), (mz, r.2))

    -- they have a fact in common exactly where their rows meet
    pub common_row : (p q : Atom Argument) → LiteralBound D b p → LiteralBound D c q
        → meet (facts_of objs b p) (facts_of objs c q) ≡ patterns_meet (pattern_row b p) (pattern_row c q)
    unfolding pattern_row
    common_row p q hp hq =
        both_ways (meet (facts_of objs b p) (facts_of objs c q)) (eqb p.rel q.rel && meeting (length q.args))
        (λ t.
        let r = any_in (λ f. elem same_fact f (facts_of objs c q)) (facts_of objs b p) t in
        let f = facts_in_lem objs b p r.0 r.1 in
        let g = facts_in_lem objs c q r.0 (elem_fact r.0 (facts_of objs c q) r.2) in
        and_i (eq-eqb p.rel q.rel (sym f.0 ∙ g.0))
        (ap meeting (sym (stand_length objs c q.args r.0.args g.1) ∙ stand_length objs b p.args r.0.args f.1)
        ∙ common_bytes p.args q.args r.0.args f.1 g.1 (6 - length p.args)))
        (λ t.
        let e = eqb-true p.rel q.rel (and_l _ _ t) in
        let l : length p.args ≡ length q.args = hp.sized ∙ ap (arity D) e ∙ sym hq.sized in
        let r =
        bytes_common p.args q.args l hp.below hq.below (6 - length p.args)
        (ap meeting l ∙ and_r (eqb p.rel q.rel) _ t) in
        let f : Fact = record { rel = p.rel; args = r.0 } in
        in_any (λ f. elem same_fact f (facts_of objs c q)) (in_facts objs b p f refl r.1) (fact_elem (in_facts objs c q f e r.2)))
      where
        meeting : ℕ → Bool
        meeting n = same_list meet_byte (bytes_of b p.args (6 - length p.args)) (bytes_of c q.args (6 - n))

    -- of several: some two of their rows meet
    pub common_rows : (ps qs : List (Atom Argument)) → LiteralsBound D b ps → LiteralsBound D c qs
        → meet (flat_map (facts_of objs b) ps) (flat_map (facts_of objs c) qs)
        ≡ any (λ p. any (λ q. patterns_meet (pattern_row b p) (pattern_row c q)) qs) ps
    common_rows ps qs hp hq =
        both_ways (meet (flat_map (facts_of objs b) ps) (flat_map (facts_of objs c) qs))
        (any (λ p. any (λ q. patterns_meet (pattern_row b p) (pattern_row c q)) qs) ps)
        (λ t.
        let r = any_in (λ f. elem same_fact f (flat_map (facts_of objs c) qs)) (flat_map (facts_of objs b) ps) t in
        let p = flat_map_in (facts_of objs b) ps r.1 in
        let q = flat_map_in (facts_of objs c) qs (elem_fact r.0 (flat_map (facts_of objs c) qs) r.2) in
        in_any (λ p. any (λ q. patterns_meet (pattern_row b p) (pattern_row c q)) qs) p.1
        (in_any (λ q. patterns_meet (pattern_row b p.0) (pattern_row c q)) q.1
        (sym (common_row p.0 q.0 (hp p.0 p.1) (hq q.0 q.1))
        ∙ in_any (λ f. elem same_fact f (facts_of objs c q.0)) p.2 (fact_elem q.2))))
        (λ t.
        let p = any_in (λ p. any (λ q. patterns_meet (pattern_row b p) (pattern_row c q)) qs) ps t in
        let q = any_in (λ q. patterns_meet (pattern_row b p.0) (pattern_row c q)) qs p.2 in
        let r =
        any_in (λ f. elem same_fact f (facts_of objs c q.0)) (facts_of objs b p.0)
        (common_row p.0 q.0 (hp p.0 p.1) (hq q.0 q.1) ∙ q.2) in
        in_any (λ f. elem same_fact f (flat_map (facts_of objs c) qs)) (in_flat_map (facts_of objs b) p.1 r.1)
        (fact_elem (in_flat_map (facts_of objs c) q.1 (elem_fact r.0 (facts_of objs c q.0) r.2))))
