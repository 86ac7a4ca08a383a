-- Interference: the ground literals of two events clash exactly where the events interfere. Assumes nothing.
use mathlib.Core.Path.{◌≡◌, refl, sym, ap, ap₂, ◌∙◌, subst}
use mathlib.Core.Bool.{Bool, true, false, ◌&&◌, ◌||◌, not}
use mathlib.Core.List.Memᴰ
use mathlib.Core.List.{List, [], ◌∷◌, ◌++◌, map}
use Prim.Native.Nat.{ℕ, suc, ◌<◌}
use native.Mathlib.Omega.{arith}
use lib.Dec.{eqb, ltb}
use lib.ListN.{length, drop}
use borrow.Author.Tests.{ltb-true}
use Rattle.records.specs.Lists.{In, filter_by, any, pairwise, elem}
use Rattle.records.proofs.Lists.{eqb_comm, same_list_comm, all_map, any_append, any_map, all_below, below_in}
use Rattle.literals.specs.declared.Object.{Object}
use Rattle.literals.specs.declared.Argument.{Argument}
use Rattle.literals.specs.declared.Time.{Time}
use Rattle.literals.specs.declared.Time.TheVariants.{AtStart, OverAll, AtEnd}
use Rattle.literals.specs.declared.Usage.{Usage}
use Rattle.literals.specs.declared.Usage.TheVariants.{Positive, Negative, Add, Delete}
use Rattle.literals.specs.Domain.{Atom, Fact, same_fact, usage_number, role_number, Literal, Domain, action}
use Rattle.literals.specs.Decode.{byte}
use Rattle.literals.specs.Held.{meet_byte, HeadOf, usage_for}
use Rattle.literals.specs.Matching.{literals_at}
use Rattle.literals.proofs.Tables.{Kept}
use Rattle.literals.proofs.Indices.{any_agree, any_or, any_filter}
use Rattle.classes.proofs.Roles.{literals_at_in}
use Rattle.classes.proofs.Usages.{any_role}
use Rattle.verdict.specs.Machine.{GroundAction, Event, event_facts, meet, disturbs, interfere, independent}
use Rattle.verdict.specs.Held.{pattern_row, patterns_meet}
use Rattle.verdict.proofs.Patterns.{LiteralBound, LiteralsBound, literal_bound, common_rows}
use Rattle.events.specs.Held.{GroundFits, EventsFit, time_of, GroundLiteral, ground_literals, event_literals}
use Rattle.applicability.specs.Held.{clashing, clashes, literals_clash}
use Rattle.events.proofs.FactRows.{agree, agree_same, counts_for, usage_counts, any_literals, listed_in, head_kept}
use Rattle.applicability.proofs.Asked.{all_agree}
use Rattle.applicability.proofs.Clashes.{any_never}

-- ---- pairs of elements of two lists

module _ {A B : Type 0} where
  abbrev pairs : (A → B → Bool) → List A → List B → Bool
  pairs f xs ys = any (λ a. any (f a) ys) xs

  pairs_or : (f g : A → B → Bool) (xs : List A) (ys : List B) → pairs f xs ys || pairs g xs ys ≡ pairs (λ a b. f a b || g a b) xs ys
  pairs_or f g xs ys =
      any_or (λ a. any (f a) ys) (λ a. any (g a) ys) xs
      ∙ any_agree (λ a. any (f a) ys || any (g a) ys) (λ a. any (λ b. f a b || g a b) ys) xs (λ a m. any_or (f a) (g a) ys)

  pairs_agree : (f g : A → B → Bool) (xs : List A) (ys : List B) → ((a : A) → In a xs → (b : B) → In b ys → f a b ≡ g a b) → pairs f xs ys ≡ pairs g xs ys
  pairs_agree f g xs ys h = any_agree (λ a. any (f a) ys) (λ a. any (g a) ys) xs (λ a m. any_agree (f a) (g a) ys (λ b k. h a m b k))

pairs_swap : {A B : Type 0} (f : A → B → Bool) (xs : List A) (ys : List B) → pairs f xs ys ≡ pairs (λ b a. f a b) ys xs
pairs_swap f [] ys = any_never ys
pairs_swap f (x ∷ xs) ys = ap (λ (t : Bool). any (f x) ys || t) (pairs_swap f xs ys) ∙ any_or (f x) (λ b. any (λ a. f a b) xs) ys

and_any : {A : Type 0} (t : Bool) (p : A → Bool) (l : List A) → t && any p l ≡ any (λ a. t && p a) l
and_any true p l = refl
and_any false p l = any_never l

-- ---- facts in common, by the usages of literals

-- the usage of a literal at the time of an event
abbrev usage_in : Event → Literal → ℕ
usage_in e l = usage_for (time_of e.moment) (role_number l.role)

-- the literal's row there
abbrev row_in : Event → Literal → List ℕ
row_in e l = pattern_row e.act.binding l.atom

abbrev literals_of : Domain → Event → List Literal
literals_of D e = (action D e.act.action).lits

-- two literals' rows meet
abbrev meet_in : Event → Event → Literal → Literal → Bool
meet_in e f l m = patterns_meet (row_in e l) (row_in f m)

-- and they are of these usages
abbrev shared : ℕ → ℕ → Event → Event → Literal → Literal → Bool
shared c d e f l m = eqb (usage_in e l) c && (eqb (usage_in f m) d && meet_in e f l m)

-- an event of the domain over the chosen objects
record Facing (D : Domain) (objs : List Object) (e : Event) : Type 0 where
  kept : (l : Literal) → In l (literals_of D e) → Kept D l
  bound : (l : Literal) → In l (literals_of D e) → LiteralBound D e.act.binding l.atom
  over : (o : Object) → In o e.act.binding → In o objs

own_bound : {D : Domain} {objs : List Object} {e : Event} → Facing D objs e → (c : Usage)
    → LiteralsBound D e.act.binding (literals_at (action D e.act.action) e.moment c)
own_bound {D} {e = e} E c p m =
    let r = literals_at_in (action D e.act.action) e.moment c m in
    subst (LiteralBound D e.act.binding) (sym r.3) (E.bound r.0 r.1)

-- there is a chosen object, and none is FF
module _ (D : Domain) (objs : List Object) (some : (o : Object) × In o objs) (low : (o : Object) → In o objs → o.0 < 255)
    (e f : Event) (E : Facing D objs e) (F : Facing D objs f) where
  meet_shared : (c d : Usage) → meet (event_facts D objs e c) (event_facts D objs f d)
      ≡ pairs (shared (suc (usage_number c)) (suc (usage_number d)) e f) (literals_of D e) (literals_of D f)
  unfolding event_facts
  meet_shared c d =
      common_rows D objs low some.0 some.1 e.act.binding f.act.binding E.over F.over
      (literals_at (action D e.act.action) e.moment c) later (own_bound E c) (own_bound F d)
      ∙ any_literals (action D e.act.action) e.moment c (λ p. any (λ q. patterns_meet (row p) (row_of q)) later)
      ∙ any_role (counts_for (time_of e.moment) c) (λ p. any (λ q. patterns_meet (row p) (row_of q)) later) (literals_of D e)
      ∙ any_agree (λ (l : Literal). counts_for (time_of e.moment) c l.role && any (λ q. patterns_meet (row_in e l) (row_of q)) later)
      (λ (l : Literal). any (shared (suc (usage_number c)) (suc (usage_number d)) e f l) (literals_of D f)) (literals_of D e)
      (λ l i.
      ap₂ ◌&&◌ (sym (usage_counts (time_of e.moment) c l (E.kept l i)))
      (any_literals (action D f.act.action) f.moment d (λ q. patterns_meet (row_in e l) (row_of q))
      ∙ any_role (counts_for (time_of f.moment) d) (λ q. patterns_meet (row_in e l) (row_of q)) (literals_of D f)
      ∙ any_agree (λ (m : Literal). counts_for (time_of f.moment) d m.role && meet_in e f l m)
      (λ (m : Literal). eqb (usage_in f m) (suc (usage_number d)) && meet_in e f l m) (literals_of D f)
      (λ m j. ap (λ (b : Bool). b && meet_in e f l m) (sym (usage_counts (time_of f.moment) d m (F.kept m j)))))
      ∙ and_any (eqb (usage_in e l) (suc (usage_number c))) (λ (m : Literal). eqb (usage_in f m) (suc (usage_number d)) && meet_in e f l m)
      (literals_of D f))
    where
      later : List (Atom Argument)
      later = literals_at (action D f.act.action) f.moment d

      row : Atom Argument → List ℕ
      row p = pattern_row e.act.binding p

      row_of : Atom Argument → List ℕ
      row_of q = pattern_row f.act.binding q

meet_left : (xs ys gs : List Fact) → meet (xs ++ ys) gs ≡ meet xs gs || meet ys gs
meet_left xs ys gs = any_append (λ f. elem same_fact f gs) xs ys

meet_right : (xs gs hs : List Fact) → meet xs (gs ++ hs) ≡ meet xs gs || meet xs hs
meet_right xs gs hs =
    any_agree (λ f. elem same_fact f (gs ++ hs)) (λ f. elem same_fact f gs || elem same_fact f hs) xs (λ f m. any_append (same_fact f) gs hs)
    ∙ sym (any_or (λ f. elem same_fact f gs) (λ f. elem same_fact f hs) xs)

-- a condition of one with an add or delete of the other, or an add of one with a delete of the other: by the usages, and whether the rows
-- meet
abbrev against : ℕ → ℕ → Bool → Bool
against c d s =
    (((eqb c 1 && (eqb d 3 && s)) || (eqb c 1 && (eqb d 4 && s))) || ((eqb c 2 && (eqb d 3 && s)) || (eqb c 2 && (eqb d 4 && s))))
    || (eqb c 3 && (eqb d 4 && s))

abbrev against_in : Event → Event → Literal → Literal → Bool
against_in e f l m = against (usage_in e l) (usage_in f m) (meet_in e f l m)

module _ (D : Domain) (objs : List Object) (some : (o : Object) × In o objs) (low : (o : Object) → In o objs → o.0 < 255)
    (e f : Event) (E : Facing D objs e) (F : Facing D objs f) where
  disturbs_pairs : disturbs D objs e f ≡ pairs (against_in e f) (literals_of D e) (literals_of D f)
  unfolding disturbs
  disturbs_pairs =
      ap₂ ◌||◌
      (meet_left (event_facts D objs e Positive) (event_facts D objs e Negative) (event_facts D objs f Add ++ event_facts D objs f Delete)
      ∙ ap₂ ◌||◌ (both Positive) (both Negative)
      ∙ pairs_or (λ l m. shared 1 3 e f l m || shared 1 4 e f l m) (λ l m. shared 2 3 e f l m || shared 2 4 e f l m) first later)
      (meet_shared D objs some low e f E F Add Delete)
      ∙ pairs_or (λ l m. (shared 1 3 e f l m || shared 1 4 e f l m) || (shared 2 3 e f l m || shared 2 4 e f l m)) (shared 3 4 e f) first later
    where
      first : List Literal
      first = literals_of D e

      later : List Literal
      later = literals_of D f

      both : (c : Usage) → meet (event_facts D objs e c) (event_facts D objs f Add ++ event_facts D objs f Delete)
          ≡ pairs (λ l m. shared (suc (usage_number c)) 3 e f l m || shared (suc (usage_number c)) 4 e f l m) first later
      both c =
          meet_right (event_facts D objs e c) (event_facts D objs f Add) (event_facts D objs f Delete)
          ∙ ap₂ ◌||◌ (meet_shared D objs some low e f E F c Add) (meet_shared D objs some low e f E F c Delete)
          ∙ pairs_or (shared (suc (usage_number c)) 3 e f) (shared (suc (usage_number c)) 4 e f) first later

-- ---- the two ways round together

meet_comm : (p q : List ℕ) → patterns_meet p q ≡ patterns_meet q p
meet_comm p q = ap₂ ◌&&◌ (eqb_comm (byte p 0) (byte q 0)) (same_list_comm meet_byte bytes_comm (drop 2 p) (drop 2 q))
  where
    swap : (a b : Bool) → a || b ≡ b || a
    swap true true = refl
    swap true false = refl
    swap false true = refl
    swap false false = refl

    bytes_comm : (a b : ℕ) → meet_byte a b ≡ meet_byte b a
    bytes_comm a b = ap₂ ◌||◌ (eqb_comm a b) (swap (eqb a 255) (eqb b 255))

abbrev clashes_as : Bool → ℕ → ℕ → Bool
clashes_as s c d = agree (clashing c d && s) (against c d s || against d c s)

all_clash : (s : Bool) → all_below 5 (λ c. all_below 5 (clashes_as s c)) ≡ true
unfolding clashing
all_clash true = refl
all_clash false = refl

clash_either : (c d : ℕ) → c < 5 → d < 5 → (s : Bool) → clashing c d && s ≡ against c d s || against d c s
clash_either c d h g s = agree_same _ _ (below_in 5 (clashes_as s c) (below_in 5 (λ c. all_below 5 (clashes_as s c)) (all_clash s) c h) d g)

-- no role has a usage above 4
all_small : (t : Time) → all_below 10 (λ b. ltb (usage_for t b) 5) ≡ true
unfolding usage_for
all_small AtStart = refl
all_small OverAll = refl
all_small AtEnd = refl

usage_small : {D : Domain} (t : Time) (l : Literal) → Kept D l → usage_for t (role_number l.role) < 5
usage_small t l k = let h = k.small in ltb-true _ _ (below_in 10 (λ b. ltb (usage_for t b) 5) (all_small t) (role_number l.role) (omega arith))

module _ (D : Domain) (objs : List Object) (some : (o : Object) × In o objs) (low : (o : Object) → In o objs → o.0 < 255)
    (e f : Event) (E : Facing D objs e) (F : Facing D objs f) where
  interfere_pairs : interfere D objs e f
      ≡ pairs (λ (l m : Literal). clashing (usage_in e l) (usage_in f m) && meet_in e f l m) (literals_of D e) (literals_of D f)
  unfolding interfere
  interfere_pairs =
      ap₂ ◌||◌ (disturbs_pairs D objs some low e f E F)
      (disturbs_pairs D objs some low f e F E ∙ pairs_swap (against_in f e) (literals_of D f) (literals_of D e))
      ∙ pairs_or (against_in e f) (λ l m. against_in f e m l) (literals_of D e) (literals_of D f)
      ∙ pairs_agree (λ l m. against_in e f l m || against_in f e m l) (λ l m. clashing (usage_in e l) (usage_in f m) && meet_in e f l m)
      (literals_of D e) (literals_of D f)
      (λ l i m j.
      ap (λ (s : Bool). against_in e f l m || against (usage_in f m) (usage_in e l) s) (meet_comm (row_in f m) (row_in e l))
      ∙ sym (clash_either (usage_in e l) (usage_in f m) (usage_small (time_of e.moment) l (E.kept l i))
      (usage_small (time_of f.moment) m (F.kept m j)) (meet_in e f l m)))

-- ---- by ground literals

-- a usage of 0 clashes with none
abbrev counts_as : Bool → ℕ → ℕ → Bool
counts_as s c d = agree (not (eqb c 0) && (not (eqb d 0) && (s && clashing c d))) (clashing c d && s)

all_count : (s : Bool) → all_below 5 (λ c. all_below 5 (counts_as s c)) ≡ true
unfolding clashing
all_count true = refl
all_count false = refl

clash_counts : (c d : ℕ) → c < 5 → d < 5 → (s : Bool) → not (eqb c 0) && (not (eqb d 0) && (s && clashing c d)) ≡ clashing c d && s
clash_counts c d h g s = agree_same _ _ (below_in 5 (counts_as s c) (below_in 5 (λ c. all_below 5 (counts_as s c)) (all_count s) c h) d g)

module _ (D : Domain) (objs : List Object) (some : (o : Object) × In o objs) (low : (o : Object) → In o objs → o.0 < 255)
    (e f : Event) (E : Facing D objs e) (F : Facing D objs f) where
  abbrev ground_of : Event → Literal → GroundLiteral
  ground_of e l = record { usage = usage_in e l; row = row_in e l }

  abbrev counted : Event → Literal → Bool
  counted e l = not (eqb (usage_in e l) 0)

  literal_clash : (l m : Literal) → In l (literals_of D e) → In m (literals_of D f)
      → counted e l && (counted f m && clashes (ground_of e l) (ground_of f m)) ≡ clashing (usage_in e l) (usage_in f m) && meet_in e f l m
  unfolding clashes
  literal_clash l m i j =
      clash_counts (usage_in e l) (usage_in f m) (usage_small (time_of e.moment) l (E.kept l i))
      (usage_small (time_of f.moment) m (F.kept m j)) (meet_in e f l m)

  literals_interfere : literals_clash (event_literals D e) (event_literals D f) ≡ interfere D objs e f
  unfolding ground_literals
  literals_interfere =
      any_map (ground_of e) (λ (a : GroundLiteral). any (clashes a) (event_literals D f)) (filter_by (counted e) (literals_of D e))
      ∙ any_filter (counted e) (λ (l : Literal). any (clashes (ground_of e l)) (event_literals D f)) (literals_of D e)
      ∙ any_agree (λ (l : Literal). counted e l && any (clashes (ground_of e l)) (event_literals D f))
      (λ (l : Literal). any (λ (m : Literal). clashing (usage_in e l) (usage_in f m) && meet_in e f l m) (literals_of D f))
      (literals_of D e)
      (λ l i.
      ap (λ (b : Bool). counted e l && b)
      (any_map (ground_of f) (clashes (ground_of e l)) (filter_by (counted f) (literals_of D f))
      ∙ any_filter (counted f) (λ (m : Literal). clashes (ground_of e l) (ground_of f m)) (literals_of D f))
      ∙ and_any (counted e l) (λ (m : Literal). counted f m && clashes (ground_of e l) (ground_of f m)) (literals_of D f)
      ∙ any_agree (λ (m : Literal). counted e l && (counted f m && clashes (ground_of e l) (ground_of f m)))
      (λ (m : Literal). clashing (usage_in e l) (usage_in f m) && meet_in e f l m) (literals_of D f)
      (λ m j. literal_clash l m i j))
      ∙ sym (interfere_pairs D objs some low e f E F)

-- ---- the events of a domain

module _ {D : Domain} {head : List ℕ} (H : HeadOf D head) (objs : List Object) (some : (o : Object) × In o objs)
    (low : (o : Object) → In o objs → o.0 < 255) where
  facing : (e : Event) → GroundFits D e.act → ((o : Object) → In o e.act.binding → In o objs) → Facing D objs e
  facing e F over =
      record {
        kept = head_kept H e.act.action F.listed;
        bound = literal_bound H.bounded (listed_in D e.act.action F.listed) e.act.binding F.bound;
        over = over;
      }

  -- no two interfere, by their ground literals
  pub apart_independent : (es : List Event) → EventsFit D es
      → ((g : GroundAction) → In g (map (λ (e : Event). e.act) es) → (o : Object) → In o g.binding → In o objs)
      → pairwise (λ first later. not (literals_clash first later)) (map (event_literals D) es) ≡ independent D objs es
  apart_independent [] F over = refl
  apart_independent (e ∷ es) F over =
      ap₂ ◌&&◌
      (all_map (event_literals D) (λ (later : List GroundLiteral). not (literals_clash (event_literals D e) later)) es
      ∙ all_agree (λ (f : Event). not (literals_clash (event_literals D e) (event_literals D f))) (λ (f : Event). not (interfere D objs e f)) es
      (λ f m.
      ap not
      (literals_interfere D objs some low e f (facing e (F e (Memᴰ.head refl)) (over e.act (Memᴰ.head refl)))
      (facing f (F f (Memᴰ.tail m)) (over f.act (Memᴰ.tail (Memᴰ.map (λ (e : Event). e.act) m)))))))
      (apart_independent es (λ f m. F f (Memᴰ.tail m)) (λ g m. over g (Memᴰ.tail m)))

-- nor do fewer than two
pub few_independent : (D : Domain) (objs : List Object) (es : List Event) → length es < 2 → true ≡ independent D objs es
few_independent D objs [] h = refl
few_independent D objs (e ∷ []) h = refl
few_independent D objs (e ∷ f ∷ es) h = absurd (omega arith)
