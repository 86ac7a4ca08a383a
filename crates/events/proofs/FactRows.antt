-- Rows of facts, of actions with their objects, and of an action's literals: what their bytes say of the facts. Assumes nothing.
use mathlib.Core.Path.{◌≡◌, refl, sym, ap, ap₂, ◌∙◌}
use mathlib.Core.Bool.{Bool, true, false, ◌&&◌, ◌||◌, not, cond}
use mathlib.Core.Logic.{◌⊎◌, inl, inr}
use mathlib.Core.List.Memᴰ
use mathlib.Core.List.{List, [], ◌∷◌, ◌++◌, map, flat_map, append-nil}
use Prim.Native.Nat.{ℕ, zero, suc, ◌+◌, ◌-◌, ◌*◌, ◌≤◌, ◌<◌}
use native.Mathlib.Numerals.{add-one}
use native.Mathlib.Omega.{arith}
use lib.Dec.{eqb}
use lib.ListN.{length, get_or, take, drop, replicate, length-append, length-map, length-replicate, get_or-append, get_or-map}
use lib.Seq.{take_at}
use borrow.Author.Tests.{eqb-true, eqb-false, lt-ltb}
use Rattle.records.specs.Lists.{In, all, any, same_list, elem, dedup}
use Rattle.records.proofs.Lists.{and_r, bool_cases, off, clash, any_map, any_in, in_any, all_in, all_of, get_d_in, all_below, below_in, in_dedup, dedup_in}
use Rattle.literals.specs.declared.Variable.{Variable}
use Rattle.literals.specs.declared.Object.{Object}
use Rattle.literals.specs.declared.Argument.{Argument}
use Rattle.literals.specs.declared.Argument.TheVariants.{Variable as bound, Every}
use Rattle.literals.specs.declared.Time.{Time}
use Rattle.literals.specs.declared.Time.TheVariants.{AtStart, OverAll, AtEnd}
use Rattle.literals.specs.declared.Usage.{Usage}
use Rattle.literals.specs.declared.Usage.TheVariants.{Positive, Negative, Add, Delete}
use Rattle.literals.specs.declared.Role.{Role}
use Rattle.literals.specs.Domain.{object, same_object, variables_of, Atom, Fact, same_literal, same_fact, usage_number, role_number, role_of}
use Rattle.literals.specs.Domain.{same_time, same_usage, may_clear, Literal, Action, Domain, no_action, action}
use Rattle.literals.specs.Held.{argument_number, literal_row, rows_in, Bounded, actions_in, arity_in, HeadOf, Held, SpanOf, usage_for}
use Rattle.literals.proofs.Equality.{literal_eq}
use Rattle.literals.proofs.Tables.{Kept, kept, length_literal_row, rows_flat, pad_at}
use Rattle.literals.specs.declared.Moment.{Moment}
use Rattle.literals.specs.declared.Moment.TheVariants.{Start, End}
use Rattle.literals.specs.Matching.{moment_number, own, over_all, with_role, literals_at}
use Rattle.classes.proofs.Rows.{row_flat}
use Rattle.literals.proofs.Indices.{any_agree}
use Rattle.verdict.specs.Binding.{Binding}
use Rattle.verdict.specs.Held.{argument_byte, pattern_row, fact_row}
use Rattle.verdict.specs.Judged.{object_numbers}
use Rattle.verdict.specs.Machine.{GroundAction, Event}
use Rattle.events.specs.Held.{Open, Waiting, ground_row, GroundFits, bound_argument, bound_row, time_of, open_of, waiting_of}
use Rattle.run_semantics.specs.RunFile.{moment_of}
use Rattle.literals.specs.declared.span.Span.{Span}
use Rattle.store.specs.Held.{has_row}
use Rattle.store.proofs.InstanceRows.{same_numbers}

-- ---- equal rows are rows of equal facts

same_size : (x y : List Object) → (length x ≡ length y → ⊥) → same_list same_object x y ≡ false
same_size [] [] n = absurd (n refl)
same_size [] (y ∷ ys) n = refl
same_size (x ∷ xs) [] n = refl
same_size (x ∷ xs) (y ∷ ys) n = go (same_object x y) (same_size xs ys (λ e. n (ap suc e)))
  where
    go : (b : Bool) → same_list same_object xs ys ≡ false → b && same_list same_object xs ys ≡ false
    go true h = h
    go false h = refl

same_arguments : (x y : List Object)
    → eqb (length x) (length y) && same_list eqb (object_numbers x ++ replicate (6 - length x) 255) (object_numbers y ++ replicate (6 - length y) 255) ≡ same_list same_object x y
same_arguments x y = go (eqb (length x) (length y)) refl
  where
    go : (b : Bool) → eqb (length x) (length y) ≡ b
        → b && same_list eqb (object_numbers x ++ replicate (6 - length x) 255) (object_numbers y ++ replicate (6 - length y) 255) ≡ same_list same_object x y
    go true t =
        let e = eqb-true (length x) (length y) t in
        ap (λ (n : ℕ). same_list eqb (object_numbers x ++ replicate (6 - length x) 255) (object_numbers y ++ replicate (6 - n) 255)) (sym e)
        ∙ same_numbers x y (replicate (6 - length x) 255) e
    go false t = sym (same_size x y (eqb-false (length x) (length y) t))

-- the arity byte tells arguments from what fills the row
pub same_row : (f g : Fact) → same_list eqb (fact_row f) (fact_row g) ≡ same_fact f g
same_row f g = ap (λ (b : Bool). eqb f.rel g.rel && b) (same_arguments f.args g.args)

pub has_fact : (f : Fact) (fs : List Fact) → has_row (fact_row f) (map fact_row fs) ≡ elem same_fact f fs
has_fact f fs =
    any_map fact_row (same_list eqb (fact_row f)) fs
    ∙ any_agree (λ (g : Fact). same_list eqb (fact_row f) (fact_row g)) (same_fact f) fs (λ g m. same_row f g)

pub length_fact_row : (f : Fact) → length f.args ≤ 6 → length (fact_row f) ≡ 8
length_fact_row f h = simp (length-append, length-map, length-replicate) (omega arith)

-- ---- an action with its objects

-- at most 16, in a domain that reading keeps
pub few_objects : {D : Domain} → Bounded D → (g : GroundAction) → GroundFits D g → length g.binding ≤ 16
unfolding action
few_objects {D} B g f = let e = f.bound in let h = B.counts (action D g.action) (get_d_in D.actions g.action no_action f.listed) in omega arith

pub length_ground_row : (g : GroundAction) → length g.binding ≤ 16 → length (ground_row g) ≡ 17
length_ground_row g h = simp (length-append, length-map, length-replicate) (omega arith)

get_d_number : (b : Binding) (i : ℕ) → get_or (object_numbers b) i 0 ≡ (get_or b i (object 0)).0
get_d_number [] i = refl
get_d_number (o ∷ os) zero = refl
get_d_number (o ∷ os) (suc i) = get_d_number os i

-- an argument, bound by the row of an action
pub argument_at_lem : (g : GroundAction) (x : Argument) → ((v : Variable) → In v (variables_of (x ∷ [])) → v.0 < length g.binding)
    → length g.binding ≤ 16 → bound_argument (ground_row g) (argument_number x) ≡ argument_byte g.binding x
argument_at_lem g Every h k = refl
argument_at_lem g (bound v) h k =
    let l = h v (Memᴰ.head refl) in
    let b : v.0 < 16 = omega arith in
    ap (λ (t : Bool). cond t (get_or (ground_row g) (v.0 + 1) 0) 255) (lt-ltb v.0 16 b)
    ∙ ap (λ (i : ℕ). get_or (ground_row g) i 0) (add-one v.0)
    ∙ get_or-append (object_numbers g.binding) (replicate (16 - length g.binding) 255) 0 v.0 (rw length-map l)
    ∙ get_d_number g.binding v.0

-- ---- a literal's row, bound

arguments_at : (g : GroundAction) (xs : List Argument) → length g.binding ≤ 16
    → ((v : Variable) → In v (variables_of xs) → v.0 < length g.binding)
    → map (bound_argument (ground_row g)) (map argument_number xs) ≡ map (argument_byte g.binding) xs
arguments_at g [] k h = refl
arguments_at g (Every ∷ xs) k h = ap (λ (l : List ℕ). 255 ∷ l) (arguments_at g xs k h)
arguments_at g (bound v ∷ xs) k h =
    ap₂ (λ (n : ℕ) (l : List ℕ). n ∷ l) (argument_at_lem g (bound v) (first v h) k)
    (arguments_at g xs k (λ w m. h w (Memᴰ.tail m)))
  where
    first : (v : Variable) → ((w : Variable) → In w (v ∷ variables_of xs) → w.0 < length g.binding)
        → (w : Variable) → In w (v ∷ []) → w.0 < length g.binding
    first v h w (Memᴰ.head e) = h w (Memᴰ.head e)
    first v h w (Memᴰ.tail m) = absurd (Memᴰ.not-nil m)

-- that of a literal whose relation has this arity, by an action's objects
pub bound_pattern : (head : List ℕ) (g : GroundAction) (l : Literal) → length l.atom.args ≡ arity_in head l.atom.rel
    → length g.binding ≤ 16 → ((v : Variable) → In v (variables_of l.atom.args) → v.0 < length g.binding)
    → bound_row head (ground_row g) (literal_row l) ≡ pattern_row g.binding l.atom
unfolding bound_row pattern_row
bound_pattern head g l e k h =
    ap (λ (n : ℕ). l.atom.rel ∷ n ∷ (map (bound_argument (ground_row g)) (take n (numbers ++ fill)) ++ replicate (6 - n) 255)) (sym e)
    ∙ ap (λ (x : List ℕ). l.atom.rel ∷ length l.atom.args
    ∷ (map (bound_argument (ground_row g)) x ++ replicate (6 - length l.atom.args) 255))
    (take_at numbers fill (length l.atom.args) (length-map l.atom.args argument_number))
    ∙ ap (λ (x : List ℕ). l.atom.rel ∷ length l.atom.args ∷ (x ++ replicate (6 - length l.atom.args) 255))
    (arguments_at g l.atom.args k h)
  where
    numbers : List ℕ
    numbers = map argument_number l.atom.args

    fill : List ℕ
    fill = replicate (8 - suc (suc (length numbers))) 255

-- ---- the usage of a role

-- the roles that count with a usage at the start, over all, or at the end
abbrev pub counts_for : Time → Usage → Role → Bool
counts_for AtStart c r = own Start c r
counts_for OverAll c r = over_all c r
counts_for AtEnd c r = own End c r

abbrev pub agree : Bool → Bool → Bool
agree true b = b
agree false b = not b

pub agree_same : (a b : Bool) → agree a b ≡ true → a ≡ b
agree_same true b t = sym t
agree_same false true t = t
agree_same false false t = refl

abbrev agrees : Time → Usage → ℕ → Bool
agrees t c b = agree (eqb (usage_for t b) (suc (usage_number c))) (counts_for t c (role_of b))

all_agree : (t : Time) (c : Usage) → all_below 10 (agrees t c) ≡ true
unfolding usage_for role_of
all_agree AtStart Positive = refl
all_agree AtStart Negative = refl
all_agree AtStart Add = refl
all_agree AtStart Delete = refl
all_agree OverAll Positive = refl
all_agree OverAll Negative = refl
all_agree OverAll Add = refl
all_agree OverAll Delete = refl
all_agree AtEnd Positive = refl
all_agree AtEnd Negative = refl
all_agree AtEnd Add = refl
all_agree AtEnd Delete = refl

pub usage_counts : {D : Domain} (t : Time) (c : Usage) (l : Literal) → Kept D l
    → eqb (usage_for t (role_number l.role)) (suc (usage_number c)) ≡ counts_for t c l.role
usage_counts t c l k =
    let h = k.small in
    agree_same _ _ (below_in 10 (agrees t c) (all_agree t c) (role_number l.role) (omega arith)) ∙ ap (counts_for t c) k.back

-- where a usage may not have FF, no literal that counts with it may
pub counts_plain : (t : Time) (c : Usage) (r : Role) → counts_for t c r ≡ true → may_clear c ≡ false → may_clear r.usage ≡ false
counts_plain t c r h k = ap (λ (n : ℕ). eqb n 1 || eqb n 3) (sym (eqb-true (usage_number c) (usage_number r.usage) (go t h))) ∙ k
  where
    go : (t : Time) → counts_for t c r ≡ true → same_usage c r.usage ≡ true
    go AtStart h = and_r (same_time AtStart r.time) _ h
    go OverAll h = and_r (same_time OverAll r.time) _ h
    go AtEnd h = and_r (same_time AtEnd r.time) _ h

-- ---- what counts once

pub any_once : (q : Atom Argument → Bool) (l : List (Atom Argument)) → any q (dedup same_literal l) ≡ any q l
any_once q l = go (bool_cases (any q l))
  where
    go : (any q l ≡ true) ⊎ (any q l ≡ false) → any q (dedup same_literal l) ≡ any q l
    go (inl t) = let r = any_in q l t in in_any q (in_dedup same_literal literal_eq r.1) r.2 ∙ sym t
    go (inr f) = off _ (λ t. let r = any_in q (dedup same_literal l) t in clash (in_any q (dedup_in same_literal l r.1) r.2) f) ∙ sym f

pub all_once : (q : Atom Argument → Bool) (l : List (Atom Argument)) → all q (dedup same_literal l) ≡ all q l
all_once q l = go (bool_cases (all q l))
  where
    go : (all q l ≡ true) ⊎ (all q l ≡ false) → all q (dedup same_literal l) ≡ all q l
    go (inl t) = all_of q (dedup same_literal l) (λ a m. all_in q l t (dedup_in same_literal l m)) ∙ sym t
    go (inr f) = off _ (λ t. clash (all_of q l (λ a m. all_in q (dedup same_literal l) t (in_dedup same_literal literal_eq m))) f) ∙ sym f

-- the literals of a moment, as a test of them sees them
pub any_literals : (a : Action) (m : Moment) (c : Usage) (q : Atom Argument → Bool)
    → any q (literals_at a m c) ≡ any q (with_role (counts_for (time_of m) c) a.lits)
unfolding literals_at
any_literals a Start c q = any_once q (with_role (own Start c) a.lits)
any_literals a End c q = any_once q (with_role (own End c) a.lits)

pub all_literals_lem : (a : Action) (m : Moment) (c : Usage) (q : Atom Argument → Bool)
    → all q (literals_at a m c) ≡ all q (with_role (counts_for (time_of m) c) a.lits)
unfolding literals_at
all_literals_lem a Start c q = all_once q (with_role (own Start c) a.lits)
all_literals_lem a End c q = all_once q (with_role (own End c) a.lits)

-- ---- head and table of a domain

pub listed_in : (D : Domain) (i : ℕ) → i < length D.actions → In (action D i) D.actions
unfolding action
listed_in D i b = get_d_in D.actions i no_action b

pub head_kept : {D : Domain} {head : List ℕ} → HeadOf D head → (i : ℕ) → i < length D.actions → (l : Literal) → In l (action D i).lits
    → Kept D l
head_kept {D} H i b l m = kept H.bounded (listed_in D i b) m

module _ {D : Domain} {head table : List ℕ} (H : Held D head table) where
  module _ (i : ℕ) (b : i < length D.actions) where
    -- the rows of the part of the table that has the action's literals
    pub held_rows : (r : Span) → SpanOf D i table r → rows_in (r.to - r.from) (take (8 * r.to - 8 * r.from) (drop (8 * r.from) table)) ≡ map literal_row (action D i).lits
    held_rows r S =
        let s = S.size in
        let z : r.to - r.from ≡ length (action D i).lits = omega arith in
        ap₂ rows_in z (S.literals ∙ sym (append-nil (flat_map literal_row (action D i).lits)))
        ∙ rows_flat literal_row (action D i).lits [] (λ l m. length_literal_row l (head_kept H.says i b l m).fits)

  -- a literal's row of an action, by the action's objects
  pub held_bound : (g : GroundAction) → GroundFits D g → (l : Literal) → In l (action D g.action).lits
      → bound_row head (ground_row g) (literal_row l) ≡ pattern_row g.binding l.atom
  held_bound g F l m =
      let B = H.says.bounded in
      let i = listed_in D g.action F.listed in
      let e = F.bound in
      bound_pattern head g l (B.literal_arity (action D g.action) i l m ∙ sym (H.says.arities l.atom.rel)) (few_objects B g F)
      (λ v w. let b = B.below (action D g.action) i l m v w in omega arith)

  -- an action with its objects, found by its row: it is one of the domain's
  pub ground_listed : (g : GroundAction) → GroundFits D g → (act : List ℕ) → act ≡ ground_row g → actions_in head ≤ get_or act 0 0 → ⊥
  ground_listed g F act e h =
      let a = ap (λ (x : List ℕ). get_or x 0 0) e in
      let c = H.says.actions in
      let l = F.listed in
      omega arith

-- ---- rows of 17 bytes

-- what an index beyond the last reads
abbrev pub no_ground : GroundAction
no_ground = record { action = 0; binding = [] }

abbrev pub no_event : Event
no_event = record { moment = Start; act = no_ground }

-- the row of an open entry, by its index
pub open_row_at : (gs : List GroundAction) → ((g : GroundAction) → In g gs → length g.binding ≤ 16) → (o : Open) → o ≡ open_of gs → (i : ℕ) → i < length gs
    → take 17 (drop (17 * i) o.rows) ≡ ground_row (get_or gs i no_ground)
unfolding open_of
open_row_at gs h o e i b =
    ap (λ (x : Open). take 17 (drop (17 * i) x.rows)) e
    ∙ row_flat ground_row gs (replicate (544 - length (flat_map ground_row gs)) 0) no_ground (λ g m. length_ground_row g (h g m)) i b

pub open_count : (gs : List GroundAction) (o : Open) → o ≡ open_of gs → o.count ≡ length gs
unfolding open_of
open_count gs o e = ap (λ (x : Open). x.count) e

-- the row of a waiting event's action, and its moment
pub waiting_row_at : (es : List Event) → ((e : Event) → In e es → length e.act.binding ≤ 16) → (w : Waiting) → w ≡ waiting_of es → (i : ℕ) → i < length es
    → take 17 (drop (17 * i) w.rows) ≡ ground_row (get_or es i no_event).act
unfolding waiting_of
waiting_row_at es h w p i b =
    ap (λ (x : Waiting). take 17 (drop (17 * i) x.rows)) p
    ∙ row_flat (λ (e : Event). ground_row e.act) es (replicate (272 - length (flat_map (λ (e : Event). ground_row e.act) es)) 0) no_event (λ e m. length_ground_row e.act (h e m)) i b

pub waiting_moment_at : (es : List Event) (w : Waiting) → w ≡ waiting_of es → (i : ℕ) → get_or w.moments i 0 ≡ moment_number (get_or es i no_event).moment
unfolding waiting_of
waiting_moment_at es w p i =
    ap (λ (x : Waiting). get_or x.moments i 0) p
    ∙ pad_at 16 (map (λ (e : Event). moment_number e.moment) es) i
    ∙ get_or-map (λ (e : Event). moment_number e.moment) es i no_event

pub waiting_count : (es : List Event) (w : Waiting) → w ≡ waiting_of es → w.count ≡ length es
unfolding waiting_of
waiting_count es w p = ap (λ (x : Waiting). x.count) p

-- the moment of a byte that is a moment's
pub moment_back : (m : Moment) → moment_of (moment_number m) ≡ m
moment_back Start = refl
moment_back End = refl

-- the time that the code has for an event's moment
pub time_back : (t : Time) (k : ℕ) (m : Moment) → t ≡ time_of (moment_of k) → k ≡ moment_number m → t ≡ time_of m
time_back t k m e f = e ∙ ap (λ (k : ℕ). time_of (moment_of k)) f ∙ ap time_of (moment_back m)
