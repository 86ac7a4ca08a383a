-- The usage of each literal at a moment: by the bytes of its row, and as the literals that count there. Assumes nothing.
use mathlib.Core.Path.{◌≡◌, refl, sym, ap, ap₂, ◌∙◌}
use mathlib.Core.Bool.{Bool, true, false, ◌&&◌, ◌||◌, not, cond}
use mathlib.Core.Logic.{◌⊎◌, inl, inr}
use mathlib.Core.List.{List, [], ◌∷◌, ◌++◌, map, flat_map, map-append, append-nil, append_assoc}
use Prim.Native.Nat.{ℕ, zero, suc, ◌+◌, ◌*◌, ◌≤◌, ◌<◌}
use native.Mathlib.Numerals.{add-one}
use native.Mathlib.Omega.{arith}
use lib.Dec.{eqb, eqb-zero-suc, eqb-suc-suc}
use lib.ListN.{length, get_or, set, take, length-map}
use lib.Seq.{take-suc, take-length}
use borrow.Author.Tests.{eq-eqb, ne_eqb, eqb-true, eqb-false}
use Rattle.records.specs.Lists.{In, keep_if, filter_by, any, pairwise, elem, dedup, below}
use Rattle.records.proofs.Lists.{and_l, and_r, and_i, not_true, any_in, in_take, pairwise_before, all_below, below_in, bool_cases, off, clash, eqb_same, eqb_comm, any_map, elem_in, in_elem, in_dedup, dedup_in, dedup_snoc}
use Rattle.literals.specs.declared.Argument.{Argument}
use Rattle.literals.specs.declared.Time.{Time}
use Rattle.literals.specs.declared.Time.TheVariants.{AtStart, OverAll, AtEnd}
use Rattle.literals.specs.declared.Usage.{Usage}
use Rattle.literals.specs.declared.Usage.TheVariants.{Positive, Negative, Add, Delete}
use Rattle.literals.specs.declared.Role.{Role}
use Rattle.literals.specs.Domain.{Atom, same_literal, usage_number, first_role, role_number, role_of, same_time, same_usage, same_role, Literal}
use Rattle.literals.specs.Domain.{Action, Domain}
use Rattle.literals.specs.Decode.{repeats}
use Rattle.literals.specs.Held.{literal_row, pad, Bounded}
use Rattle.literals.proofs.Equality.{literal_eq, literal_self, literal_comm}
use Rattle.literals.proofs.Tables.{Kept, kept, length_literals, pad_more}
use Rattle.literals.specs.declared.Moment.{Moment}
use Rattle.literals.specs.declared.Moment.TheVariants.{Start, End}
use Rattle.literals.specs.Matching.{with_role, literals_at, required}
use Rattle.classes.specs.Held.{counts, usage_at, usage_once, usages_from, usages_by, own_usages, asked_usages, no_repeats, timed, usage_byte}
use Rattle.classes.specs.Held.{may_meet, says_at, usage_in}
use Rattle.literals.proofs.Indices.{at_take, at_all, any_agree, any_below, map_agree, below_snoc, length_from, pick_snoc}
use Rattle.classes.proofs.Rows.{no_literal, literal_at, kept_at, role_at, atoms_at}

-- ---- literals with some roles, each once

pub any_role : (r : Role → Bool) (q : Atom Argument → Bool) (ls : List Literal) → any q (with_role r ls)
    ≡ any (λ (l : Literal). r l.role && q l.atom) ls
any_role r q [] = refl
any_role r q (l ∷ ls) = go (r l.role) (any_role r q ls)
  where
    go : (t : Bool) → any q (with_role r ls) ≡ any (λ (l : Literal). r l.role && q l.atom) ls
        → any q (keep_if t l.atom (with_role r ls)) ≡ (t && q l.atom) || any (λ (l : Literal). r l.role && q l.atom) ls
    go true h = ap (λ (b : Bool). q l.atom || b) h
    go false h = h

with_snoc : (r : Role → Bool) (ls : List Literal) (l : Literal) → with_role r (ls ++ (l ∷ [])) ≡ with_role r ls ++ keep_if (r l.role) l.atom []
with_snoc r [] l = refl
with_snoc r (k ∷ ls) l = go (r k.role) (with_snoc r ls l)
  where
    go : (t : Bool) → with_role r (ls ++ (l ∷ [])) ≡ with_role r ls ++ keep_if (r l.role) l.atom []
        → keep_if t k.atom (with_role r (ls ++ (l ∷ []))) ≡ keep_if t k.atom (with_role r ls) ++ keep_if (r l.role) l.atom []
    go true h = ap {B = List (Atom Argument)} (λ x. k.atom ∷ x) h
    go false h = h

elem_dedup : (x : Atom Argument) (l : List (Atom Argument)) → elem same_literal x (dedup same_literal l) ≡ elem same_literal x l
elem_dedup x l = go (bool_cases (elem same_literal x l))
  where
    go : (elem same_literal x l ≡ true) ⊎ (elem same_literal x l ≡ false) → elem same_literal x (dedup same_literal l) ≡ elem same_literal x l
    go (inl t) = in_elem same_literal literal_self (in_dedup same_literal literal_eq (elem_in same_literal literal_eq x l t)) ∙ sym t
    go (inr f) = off _ (λ t. clash (in_elem same_literal literal_self (dedup_in same_literal l (elem_in same_literal literal_eq x _ t))) f) ∙ sym f

dedup_keep : (t : Bool) (x : Atom Argument) (l : List (Atom Argument))
    → dedup same_literal (l ++ keep_if t x []) ≡ dedup same_literal l ++ keep_if (t && not (elem same_literal x l)) x []
dedup_keep false x l = ap (dedup same_literal) (append-nil l) ∙ sym (append-nil (dedup same_literal l))
dedup_keep true x l = dedup_snoc same_literal literal_eq literal_self l x ∙ ap (λ (b : Bool). cond b (dedup same_literal l) (dedup same_literal l ++ (x ∷ []))) (elem_dedup x l) ∙ go (elem same_literal x l)
  where
    go : (b : Bool) → cond b (dedup same_literal l) (dedup same_literal l ++ (x ∷ [])) ≡ dedup same_literal l ++ keep_if (not b) x []
    go true = sym (append-nil (dedup same_literal l))
    go false = refl

-- ---- roles, by bytes

-- two role bytes with the same usage, which is not one that may meet, are the same
abbrev apart_at : Bool → Moment → ℕ → ℕ → Bool
apart_at w m b d = not (eqb (usage_byte w m b) (usage_byte w m d)) || (may_meet w m (usage_byte w m d) || (eqb (usage_byte w m d) 0 || eqb b d))

all_apart : (w : Bool) (m : Moment) → all_below 10 (λ b. all_below 10 (apart_at w m b)) ≡ true
unfolding usage_byte
all_apart true Start = refl
all_apart true End = refl
all_apart false Start = refl
all_apart false End = refl

counts_timed : (w : Bool) (m : Moment) (c : Usage) (r : Role) → counts w m c r ≡ timed w m r.time && same_usage c r.usage
counts_timed true Start c r = refl
counts_timed false Start c r = refl
counts_timed false End c r = ends r.time (same_usage c r.usage)
  where
    ends : (t : Time) (b : Bool) → same_time AtEnd t && b ≡ timed false End t && b
    ends AtStart b = refl
    ends OverAll b = refl
    ends AtEnd b = refl
counts_timed true End c r = both r.time (same_usage c r.usage)
  where
    both : (t : Time) (b : Bool) → (same_time AtEnd t && b) || (same_time OverAll t && b) ≡ timed true End t && b
    both AtStart b = refl
    both OverAll b = refl
    both AtEnd true = refl
    both AtEnd false = refl

-- w: of the literals that are asked at a moment, or of its own
module _ (w : Bool) where
  -- ---- by bytes

  usage_byte_lem : {D : Domain} (m : Moment) (l : Literal) → Kept D l → usage_byte w m (role_number l.role) ≡ usage_at w m l.role
  unfolding usage_byte
  usage_byte_lem m l k = ap (usage_at w m) k.back

  same_role_lem : (m : Moment) (b d : ℕ) → b < 10 → d < 10 → usage_byte w m b ≡ usage_byte w m d → may_meet w m (usage_byte w m d) ≡ false → (usage_byte w m d ≡ 0 → ⊥) → b ≡ d
  same_role_lem m b d h g e f n =
      eqb-true b d
      (go (eqb (usage_byte w m b) (usage_byte w m d)) (may_meet w m (usage_byte w m d)) (eqb (usage_byte w m d) 0) (eqb b d) (eq-eqb _ _ e) f (ne_eqb _ _ n)
      (below_in 10 (apart_at w m b) (below_in 10 (λ b. all_below 10 (apart_at w m b)) (all_apart w m) b h) d g))
    where
      go : (p q r s : Bool) → p ≡ true → q ≡ false → r ≡ false → not p || (q || (r || s)) ≡ true → s ≡ true
      go p q r s ep eq er t = rw (ep, eq, er) at t

  -- so a literal that says the same as another there repeats it
  repeated : {D : Domain} (m : Moment) (l k : Literal) → Kept D l → Kept D k → usage_at w m l.role ≡ usage_at w m k.role
      → may_meet w m (usage_at w m k.role) ≡ false → (usage_at w m k.role ≡ 0 → ⊥)
      → same_literal l.atom k.atom ≡ true → repeats l k ≡ true
  repeated m l k u v e f n t =
      let h = u.small in
      let g = v.small in
      let r =
      same_role_lem m (role_number l.role) (role_number k.role) (omega arith) (omega arith) (usage_byte_lem m l u ∙ e ∙ sym (usage_byte_lem m k v))
      (ap (may_meet w m) (usage_byte_lem m k v) ∙ f) (λ z. n (sym (usage_byte_lem m k v) ∙ z)) in
      let s : l.role ≡ k.role = sym u.back ∙ ap role_of r ∙ v.back in
      and_i (ap (λ (q : Role). same_role q k.role) s ∙ and_i (eqb_same (first_role k.role.time)) (eqb_same (usage_number k.role.usage))) t

  -- the usages of a list, by index
  pub usages_at_lem : (m : Moment) (ls : List Literal) (j : ℕ) → j < length ls → get_or (usages_from w m [] ls) j 0 ≡ usage_once w m (take j ls) (literal_at ls j)
  usages_at_lem m ls j h = from [] ls j h
    where
      from : (earlier rest : List Literal) (j : ℕ) → j < length rest → get_or (usages_from w m earlier rest) j 0 ≡ usage_once w m (earlier ++ take j rest) (literal_at rest j)
      from earlier [] j h = absurd (omega arith)
      from earlier (l ∷ ls) zero h = ap (λ (e : List Literal). usage_once w m e l) (sym (append-nil earlier))
      from earlier (l ∷ ls) (suc j) h =
          from (earlier ++ (l ∷ [])) ls j (omega arith) ∙ ap (λ (e : List Literal). usage_once w m e (literal_at ls j)) (append_assoc earlier (l ∷ []) (take j ls))

  pub length_usages : (m : Moment) (earlier ls : List Literal) → length (usages_from w m earlier ls) ≡ length ls
  length_usages m earlier [] = refl
  length_usages m earlier (l ∷ ls) = ap suc (length_usages m (earlier ++ (l ∷ [])) ls)

  module _ {D : Domain} (ls : List Literal) (k : (l : Literal) → In l ls → Kept D l) (m : Moment) where
    usage_at_lem : (j : ℕ) → j < length ls → usage_byte w m (get_or (flat_map literal_row ls) (8 * j) 0) ≡ usage_at w m (literal_at ls j).role
    usage_at_lem j h = ap (usage_byte w m) (role_at ls k j h) ∙ usage_byte_lem m (literal_at ls j) (kept_at ls k j h)

    usage_in_lem : pairwise (λ l k. not (repeats l k)) ls ≡ true → (j : ℕ) → j < length ls → usage_in w (flat_map literal_row ls) m j ≡ usage_once w m (take j ls) (literal_at ls j)
    unfolding usage_in says_at
    usage_in_lem apart j h =
        ap₂ (λ (t : Bool) (n : ℕ). cond (may_meet w m n && t) 0 n)
        (any_below (says_at w (flat_map literal_row ls) m (usage_byte w m (get_or (flat_map literal_row ls) (8 * j) 0)) j) (λ i. said (literal_at ls i)) j
        (λ i g. ap₂ ◌&&◌ (ap₂ eqb (usage_at_lem i (omega arith)) (usage_at_lem j h)) (atoms_at ls k i j (omega arith) h))
        ∙ sym (any_map (literal_at ls) said (below j))
        ∙ ap (any said) (at_take no_literal ls j (omega arith)))
        (usage_at_lem j h)
        ∙ go (bool_cases (may_meet w m here))
      where
        said : Literal → Bool
        said e = eqb (usage_at w m e.role) (usage_at w m (literal_at ls j).role) && same_literal e.atom (literal_at ls j).atom

        here : ℕ
        here = usage_at w m (literal_at ls j).role

        -- a literal before it that says the same has its role
        new : may_meet w m here ≡ false → (here ≡ 0 → ⊥) → any said (take j ls) ≡ false
        new e n =
            off (any said (take j ls))
            (λ t.
            let r = any_in said (take j ls) t in
            clash
            (repeated m r.0 (literal_at ls j) (k r.0 (in_take j ls r.1)) (kept_at ls k j h) (eqb-true _ _ (and_l _ _ r.2)) e n
            (and_r (eqb (usage_at w m r.0.role) here) _ r.2))
            (not_true _ (pairwise_before (λ l k. not (repeats l k)) ls no_literal apart j h r.1)))

        go : (may_meet w m here ≡ true) ⊎ (may_meet w m here ≡ false) → cond (may_meet w m here && any said (take j ls)) 0 here ≡ usage_once w m (take j ls) (literal_at ls j)
        go (inl t) = ap (λ (b : Bool). cond (b && any said (take j ls)) 0 here) t
        go (inr t) = ap (λ (b : Bool). cond (b && any said (take j ls)) 0 here) t ∙ by_usage (bool_cases (eqb here 0))
          where
            by_usage : (eqb here 0 ≡ true) ⊎ (eqb here 0 ≡ false) → here ≡ usage_once w m (take j ls) (literal_at ls j)
            by_usage (inl z) = nothing (any said (take j ls)) (eqb-true here 0 z)
              where
                nothing : (b : Bool) → here ≡ 0 → here ≡ cond b 0 here
                nothing true e = e
                nothing false e = refl
            by_usage (inr z) = sym (ap (λ (b : Bool). cond b 0 here) (new t (eqb-false here 0 z)))

  -- the usages that the code counts, of an action's rows
  pub usages_in : {D : Domain} {a : Action} (m : Moment) → Bounded D → In a D.actions → no_repeats a ≡ true → map (usage_in w (flat_map literal_row a.lits) m) (below (length a.lits)) ≡ usages_by w a m
  unfolding usages_by
  usages_in {D} {a} m B i apart =
      map_agree (usage_in w (flat_map literal_row a.lits) m) (λ j. get_or (usages_from w m [] a.lits) j 0) (length a.lits)
      (λ j h. usage_in_lem a.lits (λ l n. kept B i n) m apart j h ∙ sym (usages_at_lem m a.lits j h))
      ∙ ap (λ (n : ℕ). map (λ j. get_or (usages_from w m [] a.lits) j 0) (below n)) (sym (length_usages m [] a.lits))
      ∙ at_all 0 (usages_from w m [] a.lits)

  -- of rows that hold the action's literals
  pub usages_held : {D : Domain} {a : Action} (m : Moment) (rows : List ℕ) (n : ℕ) → Bounded D → In a D.actions → no_repeats a ≡ true → rows ≡ flat_map literal_row a.lits → length rows ≡ 8 * n
      → map (usage_in w rows m) (below n) ≡ usages_by w a m
  usages_held {D} {a} m rows n B i apart e l =
      let f = sym (ap length e) ∙ l in
      let g = length_literals a.lits (λ k j. (kept B i j).fits) in
      let k : n ≡ length a.lits = omega arith in
      ap₂ (λ (r : List ℕ) (k : ℕ). map (usage_in w r m) (below k)) e k ∙ usages_in m B i apart

  -- the loop that fills an array with them
  pub usages_more : (rows : List ℕ) (m : Moment) (usages : List ℕ) (j r : ℕ) → j < 64 → usages ≡ pad 64 (map (usage_in w rows m) (below j)) → r ≡ usage_in w rows m j
      → set usages j r ≡ pad 64 (map (usage_in w rows m) (below (j + 1)))
  usages_more rows m usages j r h e f =
      let l : length (map (usage_in w rows m) (below j)) ≡ j = length-map (below j) (usage_in w rows m) ∙ length_from 0 j in
      ap₂ (λ (c : List ℕ) (k : ℕ). set c k r) e (sym l)
      ∙ pad_more 64 (map (usage_in w rows m) (below j)) r (omega arith)
      ∙ ap (λ (k : ℕ). pad 64 (map (usage_in w rows m) (below j) ++ (k ∷ []))) f
      ∙ ap (pad 64) (sym (map-append (usage_in w rows m) (below j) (j ∷ [])) ∙ ap (map (usage_in w rows m)) (sym (below_snoc j)) ∙ ap (λ (k : ℕ). map (usage_in w rows m) (below k)) (sym (add-one j)))

  -- ---- as the literals that count at the moment

  -- a role counts with a usage exactly where that is its usage at the moment
  role_counts : (m : Moment) (c : Usage) (r : Role) → counts w m c r ≡ eqb (usage_at w m r) (suc (usage_number c))
  role_counts m c r =
      counts_timed w m c r
      ∙ ap (λ (s : Bool). t && s) (eqb_comm (usage_number c) d)
      ∙ sym (of_usage (counts w m r.usage r) ∙ ap (λ (s : Bool). s && eqb d (usage_number c)) (counts_timed w m r.usage r ∙ ap (λ (s : Bool). t && s) (eqb_same d) ∙ and_true t))
    where
      d : ℕ
      d = usage_number r.usage

      t : Bool
      t = timed w m r.time

      and_true : (s : Bool) → s && true ≡ s
      and_true true = refl
      and_true false = refl

      of_usage : (s : Bool) → eqb (cond s (suc d) 0) (suc (usage_number c)) ≡ s && eqb d (usage_number c)
      of_usage true = eqb-suc-suc d (usage_number c)
      of_usage false = eqb-zero-suc (usage_number c)

  -- a literal's usage, where an earlier one says it and where none does
  once_counts : (m : Moment) (c : Usage) (earlier : List Literal) (l : Literal)
      → eqb (usage_once w m earlier l) (suc (usage_number c)) ≡ counts w m c l.role && not (elem same_literal l.atom (with_role (counts w m c) earlier))
  once_counts m c earlier l = go (bool_cases (eqb (usage_at w m l.role) n))
    where
      n : ℕ
      n = suc (usage_number c)

      said : Literal → Bool
      said e = eqb (usage_at w m e.role) (usage_at w m l.role) && same_literal e.atom l.atom

      here : (t : Bool) → eqb (cond t 0 n) n ≡ not t
      here true = eqb-zero-suc (usage_number c)
      here false = eqb_same n

      elsewhere : (t : Bool) → eqb (usage_at w m l.role) n ≡ false → eqb (cond t 0 (usage_at w m l.role)) n ≡ false
      elsewhere true e = eqb-zero-suc (usage_number c)
      elsewhere false e = e

      go : (eqb (usage_at w m l.role) n ≡ true) ⊎ (eqb (usage_at w m l.role) n ≡ false)
          → eqb (usage_once w m earlier l) n ≡ counts w m c l.role && not (elem same_literal l.atom (with_role (counts w m c) earlier))
      go (inl t) =
          let e = eqb-true (usage_at w m l.role) n t in
          ap (λ (k : ℕ). eqb (cond (any said earlier) 0 k) n) e
          ∙ here (any said earlier)
          ∙ ap not
          (any_agree said (λ (k : Literal). counts w m c k.role && same_literal l.atom k.atom) earlier
          (λ k i. ap₂ ◌&&◌ (ap (eqb (usage_at w m k.role)) e ∙ sym (role_counts m c k.role)) (literal_comm k.atom l.atom))
          ∙ sym (any_role (counts w m c) (same_literal l.atom) earlier))
          ∙ ap (λ (b : Bool). b && not (elem same_literal l.atom (with_role (counts w m c) earlier))) (sym (role_counts m c l.role ∙ t))
      go (inr t) =
          elsewhere (any said earlier) t
          ∙ ap (λ (b : Bool). b && not (elem same_literal l.atom (with_role (counts w m c) earlier))) (sym (role_counts m c l.role ∙ t))

  -- the first n literals
  literals_first : (m : Moment) (c : Usage) (ls : List Literal) (n : ℕ) → n ≤ length ls
      → dedup same_literal (with_role (counts w m c) (take n ls))
      ≡ map (λ j. (literal_at ls j).atom) (filter_by (λ j. eqb (get_or (usages_from w m [] ls) j 0) (suc (usage_number c))) (below n))
  literals_first m c ls zero h = refl
  literals_first m c ls (suc n) h =
      ap (λ (t : List Literal). dedup same_literal (with_role (counts w m c) t)) (take-suc ls n no_literal (omega arith))
      ∙ ap (dedup same_literal) (with_snoc (counts w m c) (take n ls) (literal_at ls n))
      ∙ dedup_keep (counts w m c (literal_at ls n).role) (literal_at ls n).atom (with_role (counts w m c) (take n ls))
      ∙ ap₂ (λ (x : List (Atom Argument)) (b : Bool). x ++ keep_if b (literal_at ls n).atom []) (literals_first m c ls n (omega arith))
      (sym (ap (λ (k : ℕ). eqb k (suc (usage_number c))) (usages_at_lem m ls n (omega arith)) ∙ once_counts m c (take n ls) (literal_at ls n)))
      ∙ sym (pick_snoc (λ j. eqb (get_or (usages_from w m [] ls) j 0) (suc (usage_number c))) (λ j. (literal_at ls j).atom) n)

  -- the literals that count are those with that usage, in file order
  literals_by : (a : Action) (m : Moment) (c : Usage)
      → dedup same_literal (with_role (counts w m c) a.lits)
      ≡ map (λ j. (literal_at a.lits j).atom) (filter_by (λ j. eqb (get_or (usages_by w a m) j 0) (suc (usage_number c))) (below (length a.lits)))
  unfolding usages_by
  literals_by a m c =
      ap (λ (t : List Literal). dedup same_literal (with_role (counts w m c) t)) (sym (take-length a.lits))
      ∙ literals_first m c a.lits (length a.lits) (omega arith)

  -- ---- a usage is at most 4

  usage_few : (m : Moment) (r : Role) → usage_at w m r ≤ 4
  usage_few m r = go (counts w m r.usage r) r.usage
    where
      go : (t : Bool) (c : Usage) → cond t (suc (usage_number c)) 0 ≤ 4
      go true Positive = omega arith
      go true Negative = omega arith
      go true Add = omega arith
      go true Delete = omega arith
      go false c = omega arith

  pub usages_few : (a : Action) (m : Moment) (j : ℕ) → j < length a.lits → get_or (usages_by w a m) j 0 ≤ 4
  unfolding usages_by
  usages_few a m j h = rw (usages_at_lem m a.lits j h) (go (any said (take j a.lits)))
    where
      l : Literal
      l = literal_at a.lits j

      said : Literal → Bool
      said e = eqb (usage_at w m e.role) (usage_at w m l.role) && same_literal e.atom l.atom

      go : (t : Bool) → cond t 0 (usage_at w m l.role) ≤ 4
      go true = omega arith
      go false = usage_few m l.role

-- ---- of its own, and of those that are asked

pub literals_at_lem : (a : Action) (m : Moment) (c : Usage)
    → literals_at a m c ≡ map (λ j. (literal_at a.lits j).atom) (filter_by (λ j. eqb (get_or (own_usages a m) j 0) (suc (usage_number c))) (below (length a.lits)))
unfolding literals_at
literals_at_lem a m c = literals_by false a m c

pub required_at : (a : Action) (m : Moment) (c : Usage)
    → required a m c ≡ map (λ j. (literal_at a.lits j).atom) (filter_by (λ j. eqb (get_or (asked_usages a m) j 0) (suc (usage_number c))) (below (length a.lits)))
unfolding required
required_at a m c = literals_by true a m c

-- at a start they are the same
pub asked_start : (a : Action) → asked_usages a Start ≡ own_usages a Start
unfolding usages_by
asked_start a = from [] a.lits
  where
    from : (earlier ls : List Literal) → usages_from true Start earlier ls ≡ usages_from false Start earlier ls
    from earlier [] = refl
    from earlier (l ∷ ls) = ap {B = List ℕ} (λ ns. usage_once false Start earlier l ∷ ns) (from (earlier ++ (l ∷ [])) ls)
