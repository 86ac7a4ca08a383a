-- Laws of the tables that reading fills: rows of literals and of components, lists in arrays, and what rows say of literals. Assumes nothing.
use mathlib.Core.Path.{◌≡◌, refl, sym, ap, ap₂, ◌∙◌}
use mathlib.Core.Bool.{Bool, true, false, ◌&&◌, ◌||◌, not, cond}
use mathlib.Core.Logic.{◌⊎◌, inl, inr}
use mathlib.Core.List.Memᴰ
use mathlib.Core.List.{List, [], ◌∷◌, ◌++◌, map, flat_map, append_assoc}
use Prim.Native.Nat.{ℕ, zero, suc, ◌+◌, ◌-◌, ◌*◌, ◌≤◌, ◌<◌}
use native.Mathlib.Nat.{add_comm, mul-zero, mul-suc}
use native.Mathlib.Omega.{arith}
use lib.Dec.{eqb}
use lib.ListN.{length, get_or, set, drop, replicate, length-append, length-map, length-drop, length-replicate}
use lib.Seq.{take_at, drop_at, paste}
use borrow.Author.Tests.{eqb-true, ne_eqb}
use Rattle.records.specs.Lists.{In, any, same_list, side_by_side}
use Rattle.records.specs.Memory.{over}
use Rattle.records.proofs.Lists.{or_out, bool_cases, eqb_same, same_list_self, any_map, any_append, map_back, all_below, below_in}
use Rattle.records.proofs.Memory.{over_more, over_paste, drop_replicate, get_d_fill}
use Rattle.literals.specs.declared.Variable.{Variable}
use Rattle.literals.specs.declared.Argument.{Argument}
use Rattle.literals.specs.declared.Argument.TheVariants.{Variable as bound, Every}
use Rattle.literals.specs.declared.Label.{Label}
use Rattle.literals.specs.declared.Role.{Role}
use Rattle.literals.specs.Domain.{is_every, same_argument, meet_argument, same_atom, same_literal, meets, role_of, role_number}
use Rattle.literals.specs.Domain.{same_role, Literal, Action, Component, is_counted, keys_bound, keeps_keys}
use Rattle.literals.specs.Domain.{Domain, arity}
use Rattle.literals.specs.Decode.{max_arguments, byte, argument_of, literal_of, repeats, contrary, together, contradicts, label_of}
use Rattle.literals.specs.Decode.{component_of, keys_cleared}
use Rattle.literals.specs.Held.{key_beside, key_cleared_in, row_of, argument_number, literal_row, component_row, all_literals, has_every}
use Rattle.literals.specs.Held.{some_every, pad, meet_byte, rows_meet, opposed_roles, contradicts_row, rows_stop, rows_by, Bounded}
use Rattle.literals.proofs.Rows.{length_row}
use Rattle.literals.proofs.Bounds.{role_number_lem}
use Rattle.literals.proofs.Arguments.{or_true, counted_label, argument_back, Small, same_arguments, meet_arguments}

-- ---- a row at the seam of a table

pub over_row : (new old p : List ℕ) (at : ℕ) → length new ≡ at → length p ≤ 8 → paste (over new old) at (row_of p) 8 ≡ over (new ++ row_of p) old
over_row new old p at e h = over_paste new old (row_of p) at 8 e (length_row p h)

-- ---- the rows of a table that holds one for each element

module _ {A : Type 0} (f : A → List ℕ) where
  pub length_flat : {w : ℕ} (l : List A) → ((a : A) → In a l → length (f a) ≡ w) → length (flat_map f l) ≡ w * length l
  unfolding flat_map
  length_flat {w} [] h = sym (mul-zero w)
  length_flat {w} (x ∷ xs) h =
      length-append (f x) (flat_map f xs)
      ∙ ap₂ ◌+◌ (h x (Memᴰ.head refl)) (length_flat xs (λ a m. h a (Memᴰ.tail m)))
      ∙ add_comm w (w * length xs)
      ∙ sym (mul-suc w (length xs))

  pub rows_flat : {w : ℕ} (l : List A) (rest : List ℕ) → ((a : A) → In a l → length (f a) ≡ w) → rows_by w (length l) (flat_map f l ++ rest) ≡ map f l
  unfolding flat_map
  rows_flat [] rest h = refl
  rows_flat {w} (x ∷ xs) rest h =
      let e = h x (Memᴰ.head refl) in
      rw (
        append_assoc (f x) (flat_map f xs) rest,
        take_at (f x) (flat_map f xs ++ rest) w e,
        drop_at (f x) (flat_map f xs ++ rest) w e,
        rows_flat xs rest (λ a m. h a (Memᴰ.tail m)),
      )

-- ---- of literals and of components

pub length_literal_row : (l : Literal) → length l.atom.args ≤ max_arguments → length (literal_row l) ≡ 8
length_literal_row l h = length_row (role_number l.role ∷ l.atom.rel ∷ map argument_number l.atom.args) (rw length-map (omega arith))

module _ (ls : List Literal) (h : (l : Literal) → In l ls → length l.atom.args ≤ max_arguments) where
  pub length_literals : length (flat_map literal_row ls) ≡ 8 * length ls
  length_literals = length_flat literal_row ls (λ l m. length_literal_row l (h l m))

pub any_component : (b : ℕ) (cs : List Component) → any (λ row. eqb b (byte row 0)) (map component_row cs) ≡ any (λ (d : Component). eqb b d.rel) cs
any_component b cs = any_map component_row (λ row. eqb b (byte row 0)) cs

-- ---- a list in an array

-- an array of zeros whose first numbers are the list
pad_over : (n : ℕ) (l : List ℕ) → pad n l ≡ over l (replicate n 0)
unfolding over
pad_over n l = rw drop_replicate

pub pad_at : (n : ℕ) (l : List ℕ) (i : ℕ) → get_or (pad n l) i 0 ≡ get_or l i 0
pad_at n l i = get_d_fill l (n - length l) i 0

pub pad_more : (n : ℕ) (l : List ℕ) (v : ℕ) → length l < n → set (pad n l) (length l) v ≡ pad n (l ++ (v ∷ []))
pad_more n l v h =
    ap (λ (a : List ℕ). set a (length l) v) (pad_over n l)
    ∙ over_more l (replicate n 0) (length l) v refl (simp length-replicate h)
    ∙ sym (pad_over n (l ++ (v ∷ [])))

-- k numbers more
pub pad_paste : (n : ℕ) (l p : List ℕ) (at k : ℕ) → length l ≡ at → length p ≡ k → paste (pad n l) at p k ≡ pad n (l ++ p)
pad_paste n l p at k e f = ap (λ (a : List ℕ). paste a at p k) (pad_over n l) ∙ over_paste l (replicate n 0) p at k e f ∙ sym (pad_over n (l ++ p))

-- ---- what the bytes of a literal's row say of the literal

-- what reading has checked of a payload, before it compares it with the rows
pub record Comparable (D : Domain) (p : List ℕ) : Type 0 where
  pub enough : 2 ≤ length p
  pub fits : length p ≤ 8
  pub role : byte p 0 ≤ 9
  pub arguments : length p ≡ 2 + arity D (byte p 1)
  pub variables : Small (literal_of p).atom.args

-- and what it has kept of a literal
pub record Kept (D : Domain) (l : Literal) : Type 0 where
  pub fits : length l.atom.args ≤ max_arguments
  pub arguments : length l.atom.args ≡ arity D l.atom.rel
  pub variables : Small l.atom.args
  pub small : role_number l.role ≤ 9
  pub back : role_of (role_number l.role) ≡ l.role

pub kept : {D : Domain} → Bounded D → {a : Action} → In a D.actions → {l : Literal} → In l a.lits → Kept D l
kept B {a} i {l} j =
    record {
      fits = B.arguments a i l j;
      arguments = B.literal_arity a i l j;
      variables = B.variables a i l j;
      small = (B.roles a i l j).0;
      back = (B.roles a i l j).1;
    }

-- -- the roles: one test of all pairs below 10

abbrev opposed : Role → Role → Bool
opposed r s = contrary r.usage s.usage && together r.time s.time

-- two tests, as one number
abbrev told : Bool → Bool → ℕ
told s o = cond s 2 0 + cond o 1 0

told_same : (a b c d : Bool) → told a b ≡ told c d → (a ≡ c) × (b ≡ d)
told_same true true true true e = (refl, refl)
told_same true true true false e = absurd (omega arith)
told_same true true false true e = absurd (omega arith)
told_same true true false false e = absurd (omega arith)
told_same true false true true e = absurd (omega arith)
told_same true false true false e = (refl, refl)
told_same true false false true e = absurd (omega arith)
told_same true false false false e = absurd (omega arith)
told_same false true true true e = absurd (omega arith)
told_same false true true false e = absurd (omega arith)
told_same false true false true e = (refl, refl)
told_same false true false false e = absurd (omega arith)
told_same false false true true e = absurd (omega arith)
told_same false false true false e = absurd (omega arith)
told_same false false false true e = absurd (omega arith)
told_same false false false false e = (refl, refl)

abbrev agrees : ℕ → ℕ → Bool
agrees a b = eqb (told (eqb a b) (opposed_roles a b)) (told (same_role (role_of a) (role_of b)) (opposed (role_of a) (role_of b)))

all_agree : all_below 10 (λ a. all_below 10 (agrees a)) ≡ true
unfolding role_of
all_agree = refl

roles_told : (a b : ℕ) → a ≤ 9 → b ≤ 9 → (eqb a b ≡ same_role (role_of a) (role_of b)) × (opposed_roles a b ≡ opposed (role_of a) (role_of b))
roles_told a b h g =
    told_same _ _ _ _
    (eqb-true _ _ (below_in 10 (agrees a) (below_in 10 (λ a. all_below 10 (agrees a)) all_agree a (omega arith)) b (omega arith)))

-- -- the atoms: filled lists are the same where the lists are, as no element's number is FF

module _ {A : Type 0} (number : A → ℕ) where
  pub same_filled : (x y : List A) (m n : ℕ) → ((a : A) → In a x → number a < 255) → ((a : A) → In a y → number a < 255) → length x + m ≡ length y + n
      → same_list eqb (map number x ++ replicate m 255) (map number y ++ replicate n 255) ≡ same_list (λ a b. eqb (number a) (number b)) x y
  same_filled [] [] m n h g e = let f : m ≡ n = omega arith in rw f (same_list_self eqb eqb_same (replicate n 255))
  same_filled [] (b ∷ bs) zero n h g e = absurd (omega arith)
  same_filled [] (b ∷ bs) (suc m) n h g e = let f = g b (Memᴰ.head refl) in rw (ne_eqb 255 (number b) (λ z. omega arith))
  same_filled (a ∷ as') [] m zero h g e = absurd (omega arith)
  same_filled (a ∷ as') [] m (suc n) h g e = let f = h a (Memᴰ.head refl) in rw (ne_eqb (number a) 255 (λ z. omega arith))
  same_filled (a ∷ as') (b ∷ bs) m n h g e =
      ap (λ (t : Bool). eqb (number a) (number b) && t) (same_filled as' bs m n (λ c i. h c (Memᴰ.tail i)) (λ c i. g c (Memᴰ.tail i)) (omega arith))

-- a variable's number
abbrev pub value : Variable → ℕ
value v = v.0

-- -- rows of two literals, behind the relation, are the same, or meet, exactly where the atoms do: one relation has one arity, so that FF
-- stands for FF, or fills beside what fills

module _ (D : Domain) (l m : Literal) (el : length l.atom.args ≡ arity D l.atom.rel)
    (em : length m.atom.args ≡ arity D m.atom.rel) where
  abbrev fill : ℕ
  fill = 8 - suc (suc (length (map argument_number l.atom.args)))

  by_arguments : (test : ℕ → ℕ → Bool) (eq : Argument → Argument → Bool)
      → (length l.atom.args ≡ length m.atom.args
      → same_list test (map argument_number l.atom.args ++ replicate fill 255) (map argument_number m.atom.args ++ replicate fill 255)
      ≡ same_list eq l.atom.args m.atom.args)
      → eqb l.atom.rel m.atom.rel && same_list test (drop 2 (literal_row l)) (drop 2 (literal_row m)) ≡ same_atom eq l.atom m.atom
  by_arguments test eq h = by (bool_cases (eqb l.atom.rel m.atom.rel))
    where
      by : (eqb l.atom.rel m.atom.rel ≡ true) ⊎ (eqb l.atom.rel m.atom.rel ≡ false)
          → eqb l.atom.rel m.atom.rel && same_list test (drop 2 (literal_row l)) (drop 2 (literal_row m)) ≡ same_atom eq l.atom
          m.atom
      by (inr f) = rw f
      by (inl t) =
          let e : length l.atom.args ≡ length m.atom.args = el ∙ ap (arity D) (eqb-true l.atom.rel m.atom.rel t) ∙ sym em in
          let u = length-map l.atom.args argument_number in
          let w = length-map m.atom.args argument_number in
          let q : fill ≡ 8 - suc (suc (length (map argument_number m.atom.args))) = omega arith in
          ap (λ (t : Bool). eqb l.atom.rel m.atom.rel && t) (rw (← q) (h e))

  module _ (sl : Small l.atom.args) (sm : Small m.atom.args) where
    pub same_rows : same_list eqb (drop 1 (literal_row l)) (drop 1 (literal_row m)) ≡ same_literal l.atom m.atom
    same_rows = by_arguments eqb same_argument (λ e. same_arguments l.atom.args m.atom.args e sl sm fill)

    pub meet_rows : rows_meet (literal_row l) (literal_row m) ≡ meets l.atom m.atom
    meet_rows = by_arguments meet_byte meet_argument (λ e. meet_arguments l.atom.args m.atom.args e sl sm fill)

-- -- both

-- the row of a payload is that of its literal
pub payload_row : (p : List ℕ) → 2 ≤ length p → byte p 0 ≤ 9 → row_of p ≡ literal_row (literal_of p)
payload_row [] e h = absurd (omega arith)
payload_row (a ∷ []) e h = absurd (omega arith)
payload_row (a ∷ b ∷ q) e h =
    ap₂ (λ (r : ℕ) (x : List ℕ). row_of (r ∷ b ∷ x)) (sym (role_number_lem a h)) (sym (map_back argument_number argument_of argument_back q))

-- of a payload's row and a literal's
module _ {D : Domain} (p : List ℕ) (l : Literal) (h : Comparable D p) (k : Kept D l) where
  abbrev given : Literal
  given = literal_of p

  roles : (eqb (role_number given.role) (role_number l.role) ≡ same_role given.role l.role)
      × (opposed_roles (role_number given.role) (role_number l.role) ≡ opposed given.role l.role)
  roles =
      let e = role_number_lem (byte p 0) h.role in
      let t = roles_told (byte p 0) (role_number l.role) h.role k.small in (
        ap (λ (a : ℕ). eqb a (role_number l.role)) e ∙ t.0 ∙ ap (same_role given.role) k.back,
        ap (λ (a : ℕ). opposed_roles a (role_number l.role)) e ∙ t.1 ∙ ap (opposed given.role) k.back,
      )

  args : length given.atom.args ≡ arity D given.atom.rel
  args = let e = length-map (drop 2 p) argument_of in let d = length-drop 2 p in let z = h.arguments in omega arith

  repeats_row : same_list eqb (row_of p) (literal_row l) ≡ repeats given l
  repeats_row =
      ap (λ (r : List ℕ). same_list eqb r (literal_row l)) (payload_row p h.enough h.role)
      ∙ ap₂ ◌&&◌ roles.0 (same_rows D given l args k.arguments h.variables k.variables)

  contradicts_row_lem : contradicts_row (row_of p) (literal_row l) ≡ contradicts given l
  contradicts_row_lem =
      ap (λ (r : List ℕ). contradicts_row r (literal_row l)) (payload_row p h.enough h.role)
      ∙ ap₂ ◌&&◌ roles.1 (meet_rows D given l args k.arguments h.variables k.variables)

-- of a payload's row and those of literals
pub literals_stop : {D : Domain} (p : List ℕ) (ls : List Literal) → Comparable D p → ((l : Literal) → In l ls → Kept D l)
    → rows_stop (row_of p) (map literal_row ls) ≡ cond (any (repeats (literal_of p)) ls) 19 (cond (any (contradicts (literal_of p)) ls) 20 0)
unfolding rows_stop
literals_stop {D} p ls h k = ap₂ (λ (r c : Bool). cond r 19 (cond c 20 0)) (same ls k) (contrarily ls k)
  where
    same : (ls : List Literal) → ((l : Literal) → In l ls → Kept D l) → any (same_list eqb (row_of p)) (map literal_row ls) ≡ any (repeats (literal_of p)) ls
    same [] k = refl
    same (l ∷ ls) k = ap₂ ◌||◌ (repeats_row p l h (k l (Memᴰ.head refl))) (same ls (λ m i. k m (Memᴰ.tail i)))

    contrarily : (ls : List Literal) → ((l : Literal) → In l ls → Kept D l) → any (contradicts_row (row_of p)) (map literal_row ls) ≡ any (contradicts (literal_of p)) ls
    contrarily [] k = refl
    contrarily (l ∷ ls) k = ap₂ ◌||◌ (contradicts_row_lem p l h (k l (Memᴰ.head refl))) (contrarily ls (λ m i. k m (Memᴰ.tail i)))

-- ---- "27": a component's labels beside the rows of all literals

keys_row : (bs : List ℕ) (vs : List Argument) (m : ℕ) → length bs ≡ length vs → Small vs
    → keys_bound (map label_of bs) vs ≡ side_by_side key_beside bs (map argument_number vs ++ replicate m 255)
keys_row [] vs m e h = refl
keys_row (b ∷ bs) [] m e h = absurd (omega arith)
keys_row (b ∷ bs) (bound v ∷ vs) m e h =
    let k = h v (Memᴰ.head refl) in
    ap₂ ◌&&◌
    (ap (λ (t : Bool). is_counted (label_of b) || not t) (sym (ne_eqb v.0 255 (λ z. omega arith)))
    ∙ ap (λ (t : Bool). t || not (eqb v.0 255)) (counted_label b))
    (keys_row bs vs m (omega arith) (λ w i. h w (Memᴰ.tail i)))
keys_row (b ∷ bs) (Every ∷ vs) m e h = ap₂ ◌&&◌ (ap (λ (t : Bool). t || false) (counted_label b)) (keys_row bs vs m (omega arith) h)

-- none is cleared where no literal has FF
every_keeps : (ls : List Label) (vs : List Argument) → any is_every vs ≡ false → keys_bound ls vs ≡ true
every_keeps [] vs e = refl
every_keeps (l ∷ ls) [] e = refl
every_keeps (l ∷ ls) (v ∷ vs) e =
    let o = or_out (is_every v) _ e in
    rw (o.0, or_true (is_counted l)) (every_keeps ls vs o.1)

pub none_cleared : (as' : List Action) (c : Component) → some_every as' ≡ false → keys_cleared as' c ≡ false
unfolding some_every all_literals flat_map
none_cleared [] c e = refl
none_cleared (a ∷ as') c e =
    let o = or_out (any has_every a.lits) _ (sym (any_append has_every a.lits (flat_map (λ (a : Action). a.lits) as')) ∙ e) in
    ap₂ ◌||◌ (lits a.lits o.0) (none_cleared as' c o.1)
  where
    lits : (ls : List Literal) → any has_every ls ≡ false → any (λ (l : Literal). not (keeps_keys c l.atom)) ls ≡ false
    lits [] e = refl
    lits (l ∷ ls) e =
        let o = or_out (has_every l) _ e in
        ap₂ ◌||◌
        (ap not (ap (λ (b : Bool). not (eqb c.rel l.atom.rel) || b) (every_keeps c.labels l.atom.args o.0) ∙ or_true (not (eqb c.rel l.atom.rel))))
        (lits ls o.1)

pub cleared_rows : (D : Domain) → Bounded D → (p : List ℕ) → length p ≡ 1 + arity D (byte p 0)
    → keys_cleared D.actions (component_of p) ≡ any (key_cleared_in p) (map literal_row (all_literals D.actions))
unfolding all_literals flat_map key_cleared_in
cleared_rows D B p e =
    go D.actions (λ a m l i. row l (B.literal_arity a m l i) (B.variables a m l i))
    ∙ sym (any_map literal_row (key_cleared_in p) (flat_map (λ (a : Action). a.lits) D.actions))
  where
    row : (l : Literal) → length l.atom.args ≡ arity D l.atom.rel → Small l.atom.args
        → not (keeps_keys (component_of p) l.atom) ≡ key_cleared_in p (literal_row l)
    row l el sl = by (bool_cases (eqb (byte p 0) l.atom.rel))
      where
        by : (eqb (byte p 0) l.atom.rel ≡ true) ⊎ (eqb (byte p 0) l.atom.rel ≡ false)
            → not (keeps_keys (component_of p) l.atom) ≡ key_cleared_in p (literal_row l)
        by (inr f) = rw f
        by (inl t) =
            let d = length-drop 1 p in
            let a : arity D (byte p 0) ≡ arity D l.atom.rel = ap (arity D) (eqb-true (byte p 0) l.atom.rel t) in
            let n = 8 - suc (suc (length (map argument_number l.atom.args))) in
            rw t (ap not (keys_row (drop 1 p) l.atom.args n (omega arith) sl))

    lits : (ls : List Literal)
        → ((l : Literal) → In l ls → not (keeps_keys (component_of p) l.atom) ≡ key_cleared_in p (literal_row l))
        → any (λ (l : Literal). not (keeps_keys (component_of p) l.atom)) ls ≡ any (λ (l : Literal). key_cleared_in p (literal_row l)) ls
    lits [] h = refl
    lits (l ∷ ls) h = ap₂ ◌||◌ (h l (Memᴰ.head refl)) (lits ls (λ k m. h k (Memᴰ.tail m)))

    go : (as' : List Action)
        → ((a : Action) → In a as' → (l : Literal) → In l a.lits
        → not (keeps_keys (component_of p) l.atom) ≡ key_cleared_in p (literal_row l))
        → keys_cleared as' (component_of p) ≡ any (λ (l : Literal). key_cleared_in p (literal_row l)) (flat_map (λ (a : Action). a.lits) as')
    go [] h = refl
    go (a ∷ as') h =
        ap₂ ◌||◌ (lits a.lits (h a (Memᴰ.head refl))) (go as' (λ b m. h b (Memᴰ.tail m)))
        ∙ sym (any_append (λ (l : Literal). key_cleared_in p (literal_row l)) a.lits (flat_map (λ (a : Action). a.lits) as'))
