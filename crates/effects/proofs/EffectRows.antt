-- What a step adds or strikes: the rows that the code selects of its ground literals are those of the machine's facts. Assumes nothing.
use mathlib.Core.Path.{◌≡◌, refl, sym, ap, ap₂, ◌∙◌, subst}
use mathlib.Core.Bool.{Bool, true, false, not}
use mathlib.Core.Logic.{◌⊎◌, inl, inr}
use mathlib.Core.List.{List, [], ◌∷◌, ◌++◌, map, flat_map, map-append, append-nil, append_assoc}
use mathlib.Core.List.Memᴰ
use Prim.Native.Nat.{ℕ, zero, suc, ◌+◌, ◌-◌, ◌*◌, ◌≤◌, ◌<◌}
use native.Mathlib.Numerals.{add-one}
use native.Mathlib.Omega.{arith}
use lib.Dec.{eqb, ltb}
use lib.ListN.{length, get_or, take, drop, length-append}
use lib.Seq.{get_or-take}
use borrow.Author.Tests.{eqb-true, eq-eqb, ne_eqb, ltb-true, ltb-false}
use Rattle.records.specs.Lists.{In, any, count_by, keep_if, filter_by, same_list, elem, dedup}
use Rattle.records.specs.Memory.{over}
use Rattle.records.proofs.Lists.{bool_cases, filter_append, filter_in, any_map, any_out, in_dedup, eqb_comm, same_list_comm}
use Rattle.literals.specs.declared.Object.{Object}
use Rattle.literals.specs.declared.Argument.{Argument}
use Rattle.literals.specs.declared.Time.{Time}
use Rattle.literals.specs.declared.Time.TheVariants.{AtStart, AtEnd}
use Rattle.literals.specs.declared.Usage.{Usage}
use Rattle.literals.specs.declared.Usage.TheVariants.{Add, Delete}
use Rattle.literals.specs.declared.Role.{Role}
use Rattle.literals.specs.declared.Moment.{Moment}
use Rattle.literals.specs.declared.Moment.TheVariants.{Start, End}
use Rattle.literals.specs.Domain.{is_every, Atom, Fact, same_literal, same_fact, usage_number, role_number, may_clear, Literal, Action, Domain}
use Rattle.literals.specs.Domain.{action}
use Rattle.literals.specs.Held.{rows_in, HeadOf, usage_for}
use Rattle.literals.specs.Matching.{own, with_role, literals_at}
use Rattle.literals.proofs.Equality.{literal_eq, fact_eq, fact_self}
use Rattle.literals.proofs.Indices.{any_agree}
use Rattle.literals.proofs.Rows.{length_part}
use Rattle.literals.proofs.KeyRows.{length_rows}
use Rattle.literals.proofs.Tables.{Kept}
use Rattle.classes.proofs.Roles.{literals_at_in}
use Rattle.verdict.specs.Binding.{Binding, bind}
use Rattle.verdict.specs.Machine.{GroundAction, Event, event_facts, step_facts}
use Rattle.verdict.specs.Held.{pattern_row, patterns_meet, FactOver, fact_row}
use Rattle.verdict.proofs.Facts.{plain_flat}
use Rattle.verdict.proofs.Patterns.{plain_row, any_flat, LiteralBound, LiteralsBound, literal_bound, literal_plain, struck_row}
use Rattle.store.specs.Held.{Sized, SizedRow}
use Rattle.events.specs.Held.{GroundFits, EventsFit, OverObjects, is_pattern, time_of, GroundLiteral, ground_literals, event_literals}
use Rattle.events.specs.Held.{max_ground, usages_at, grounded_bytes, ground_at, ground_in, in_one, Grounded}
use Rattle.events.proofs.FactRows.{counts_for, usage_counts, counts_plain, any_once, listed_in, head_kept}
use Rattle.events.proofs.GroundLiterals.{step_formed, step_sized}
use Rattle.events.proofs.Meeting.{Formed, chosen_meets}
use Rattle.events.proofs.Members.{map_in}
use Rattle.effects.specs.Held.{scratch_bytes, effects_in, literals_in, rows_of_usage, flat, any_meets, is_struck}
use Rattle.effects.proofs.Joins.{dedup_map_dedup, same_append}
use Rattle.effects.proofs.FilledRows.{Whole, section_part, rows_own, rows_split, Filled, filled_more, filled_own, struck_by}

-- ---- a ground literal in the scratch memory

module _ (scratch : List ℕ) (size : length scratch ≡ scratch_bytes) (i : ℕ) (h : i < max_ground) where
  pub usage_in_lem : get_or scratch (usages_at + i) 0 ≡ (ground_at (literals_in scratch) i).usage
  usage_in_lem = sym (get_or-take grounded_bytes scratch (usages_at + i) 0 (omega arith))

  pub row_in : take 8 (drop (8 * i) scratch) ≡ (ground_at (literals_in scratch) i).row
  row_in =
      let z : 0 + 8 * i ≡ 8 * i = omega arith in
      ap (λ (k : ℕ). take 8 (drop k scratch)) (sym z) ∙ section_part scratch 0 grounded_bytes (8 * i) 8 (omega arith) (omega arith)

-- ---- those of a usage

module _ (usage : ℕ) where
  rows_append : (xs ys : List GroundLiteral) → rows_of_usage usage (xs ++ ys) ≡ rows_of_usage usage xs ++ rows_of_usage usage ys
  unfolding rows_of_usage
  rows_append xs ys =
      ap (map (λ (l : GroundLiteral). l.row)) (filter_append (λ (l : GroundLiteral). eqb l.usage usage) xs ys)
      ∙ map-append (λ (l : GroundLiteral). l.row) (filter_by (λ (l : GroundLiteral). eqb l.usage usage) xs)
      (filter_by (λ (l : GroundLiteral). eqb l.usage usage) ys)

  -- of one
  module _ (l : GroundLiteral) where
    one_in : l.usage ≡ usage → rows_of_usage usage (l ∷ []) ≡ l.row ∷ []
    unfolding rows_of_usage
    one_in e = ap (λ (b : Bool). map (λ (l : GroundLiteral). l.row) (keep_if b l [])) (eq-eqb l.usage usage e)

    one_out : (l.usage ≡ usage → ⊥) → rows_of_usage usage (l ∷ []) ≡ []
    unfolding rows_of_usage
    one_out n = ap (λ (b : Bool). map (λ (l : GroundLiteral). l.row) (keep_if b l [])) (ne_eqb l.usage usage n)

    pub one_few : length (rows_of_usage usage (l ∷ [])) ≤ 1
    unfolding rows_of_usage
    one_few = go (eqb l.usage usage)
      where
        go : (b : Bool) → length (map (λ (l : GroundLiteral). l.row) (keep_if b l [])) ≤ 1
        go true = omega arith
        go false = omega arith

    whole_one : length l.row ≡ 8 → Whole (rows_of_usage usage (l ∷ []))
    unfolding rows_of_usage
    whole_one w = go (eqb l.usage usage)
      where
        go : (b : Bool) → Whole (map (λ (l : GroundLiteral). l.row) (keep_if b l []))
        go true row (Memᴰ.head e) = ap length e ∙ w
        go true row (Memᴰ.tail m) = absurd (Memᴰ.not-nil m)
        go false row m = absurd (Memᴰ.not-nil m)

    -- where it is of the usage its row is put behind others, else nothing is
    module _ (n : ℕ) (out : List ℕ) where
      pub none_count : (l.usage ≡ usage → ⊥) → n ≡ n + length (rows_of_usage usage (l ∷ []))
      none_count h = let k = ap length (one_out h) in omega arith

      pub none_rows : (l.usage ≡ usage → ⊥) → 8 * n ≤ length out → out ≡ over (flat (rows_in n out ++ rows_of_usage usage (l ∷ []))) out
      none_rows h g =
          rows_own n out g
          ∙ ap (λ (x : List (List ℕ)). over (flat x) out)
          (sym (ap (λ (x : List (List ℕ)). rows_in n out ++ x) (one_out h) ∙ append-nil (rows_in n out)))

      pub one_count : l.usage ≡ usage → n + 1 ≡ n + length (rows_of_usage usage (l ∷ []))
      one_count h = let k = ap length (one_in h) in omega arith

      pub one_rows : l.usage ≡ usage → {row next : List ℕ} → row ≡ l.row → next ≡ over (flat (rows_in n out ++ (row ∷ []))) out
          → next ≡ over (flat (rows_in n out ++ rows_of_usage usage (l ∷ []))) out
      one_rows h f g =
          g ∙ ap (λ (x : List (List ℕ)). over (flat (rows_in n out ++ x)) out) (ap {B = List (List ℕ)} (λ r. r ∷ []) f ∙ sym (one_in h))

  -- no more than there are, of the first ones and of all
  rows_few : (n i : ℕ) (memory : List ℕ) → i ≤ n → length (rows_of_usage usage (ground_in i memory)) ≤ length (rows_of_usage usage
      (ground_in n memory))
  rows_few zero i memory h = let e : i ≡ 0 = omega arith in rw e (omega arith)
  rows_few (suc n) i memory h = go (ltb n i) refl (λ l. rows_few n i memory l)
    where
      go : (b : Bool) → ltb n i ≡ b
          → (i ≤ n → length (rows_of_usage usage (ground_in i memory)) ≤ length (rows_of_usage usage (ground_in n memory)))
          → length (rows_of_usage usage (ground_in i memory)) ≤ length (rows_of_usage usage (ground_in (suc n) memory))
      go true t f = let l = ltb-true n i t in let e : i ≡ suc n = omega arith in rw e (omega arith)
      go false t f =
          let l = f (ltb-false n i t) in
          let s = ap length (rows_append (ground_in n memory) (ground_at memory n ∷ [])) in
          let a = length-append (rows_of_usage usage (ground_in n memory)) (rows_of_usage usage (ground_at memory n ∷ [])) in
          omega arith

  -- of the first ones of a memory, behind others
  module _ (memory : List ℕ) (size : length memory ≡ grounded_bytes) (first : List (List ℕ)) where
    rows_snoc : (i : ℕ) → rows_of_usage usage (ground_in (i + 1) memory) ≡ rows_of_usage usage (ground_in i memory) ++ rows_of_usage usage
        (ground_at memory i ∷ [])
    rows_snoc i = ap (λ (k : ℕ). rows_of_usage usage (ground_in k memory)) (add-one i)
        ∙ rows_append (ground_in i memory) (ground_at memory i ∷ [])

    -- there is room for one more
    pub effects_room : (at total i n : ℕ) → i < total → at + length (rows_of_usage usage (ground_in total memory)) ≤ max_ground
        → n ≡ at + length (rows_of_usage usage (ground_in i memory)) → n + length (rows_of_usage usage (ground_at memory i ∷ [])) ≤ max_ground
    effects_room at total i n h g e =
        let f = rows_few total (i + 1) memory (omega arith) in
        let s = ap length (rows_snoc i)
        ∙ length-append (rows_of_usage usage (ground_in i memory)) (rows_of_usage usage (ground_at memory i ∷ [])) in
        omega arith

    pub effects_more : (i n : ℕ) {out old : List ℕ} → i < max_ground → {m : ℕ} → 8 * m ≤ length old
        → Filled (first ++ rows_of_usage usage (ground_in i memory)) n out old
        → {next : List ℕ} → m ≡ n + length (rows_of_usage usage (ground_at memory i ∷ []))
        → next ≡ over (flat (rows_in n out ++ rows_of_usage usage (ground_at memory i ∷ []))) out
        → Filled (first ++ rows_of_usage usage (ground_in (i + 1) memory)) m next old
    effects_more i n {out} {old} h {m} g F {next} e f =
        subst (λ (l : List (List ℕ)). Filled l m next old)
        (append_assoc first (rows_of_usage usage (ground_in i memory)) (rows_of_usage usage (ground_at memory i ∷ []))
        ∙ ap (λ (l : List (List ℕ)). first ++ l) (sym (rows_snoc i)))
        (filled_more F (rows_of_usage usage (ground_at memory i ∷ []))
        (whole_one (ground_at memory i) (length_part 8 memory (8 * i) (omega arith))) e g f)

  -- before the first
  pub effects_begin : (memory : List ℕ) (at : ℕ) (out : List ℕ) → 8 * at ≤ length out
      → Filled (rows_in at out ++ rows_of_usage usage (ground_in 0 memory)) at out out
  unfolding rows_of_usage
  effects_begin memory at out h = subst (λ (l : List (List ℕ)). Filled l at out out) (sym (append-nil (rows_in at out)))
      (filled_own at out h)

-- those of two usages are no more than there are
pub two_few : (c d : ℕ) → (c ≡ d → ⊥) → (ls : List GroundLiteral) → length (rows_of_usage c ls) + length (rows_of_usage d ls) ≤ length ls
unfolding rows_of_usage
two_few c d n [] = omega arith
two_few c d n (l ∷ ls) = go (eqb l.usage c) refl (eqb l.usage d) refl (two_few c d n ls)
  where
    some : ℕ → Bool → List (List ℕ)
    some k b = map (λ (l : GroundLiteral). l.row) (keep_if b l (filter_by (λ (l : GroundLiteral). eqb l.usage k) ls))

    go : (x : Bool) → eqb l.usage c ≡ x → (y : Bool) → eqb l.usage d ≡ y
        → length (rows_of_usage c ls) + length (rows_of_usage d ls) ≤ length ls → length (some c x) + length (some d y) ≤ suc (length ls)
    go true e true f h = absurd (n (sym (eqb-true l.usage c e) ∙ eqb-true l.usage d f))
    go true e false f h = omega arith
    go false e true f h = omega arith
    go false e false f h = omega arith

-- what a step strikes and then what it adds, in a memory
pub record Told (act : List GroundLiteral) (m end : ℕ) (out : List ℕ) : Type 0 where
  pub order : m ≤ end
  pub few : end ≤ max_ground
  pub struck : rows_in m out ≡ rows_of_usage 4 act
  pub added : rows_in (end - m) (drop (8 * m) out) ≡ rows_of_usage 3 act

pub told : (act again : List GroundLiteral) (m end : ℕ) (out₁ out : List ℕ) → length act ≤ max_ground → again ≡ act
    → m ≡ 0 + length (rows_of_usage 4 act) → rows_in m out₁ ≡ rows_of_usage 4 act → end ≡ m + length (rows_of_usage 3 again)
    → rows_in end out ≡ rows_in m out₁ ++ rows_of_usage 3 again → Told act m end out
told act again m end out₁ out few same c f d g =
    let t = two_few 4 3 (λ e. omega arith) act in
    let k = ap (λ (ls : List GroundLiteral). length (rows_of_usage 3 ls)) same in
    let z : length (rows_of_usage 4 act) ≡ m = omega arith in
    let both = g ∙ ap₂ (λ (xs : List (List ℕ)) (ls : List GroundLiteral). xs ++ rows_of_usage 3 ls) f same in
    let r = rows_split out m end (rows_of_usage 4 act) (rows_of_usage 3 act) (omega arith) z both in
    record { order = omega arith; few = omega arith; struck = r.0; added = r.1 }

-- how many are filled
pub filled_count : (at : ℕ) (old : List ℕ) (rows : List (List ℕ)) {n : ℕ} {out : List ℕ} → Filled (rows_in at old ++ rows) n out old
    → n ≡ at + length rows
filled_count at old rows F =
    let a = length-append (rows_in at old) rows in
    let r = length_rows 8 at old in
    let c = F.count in
    omega arith

-- where the loop over the ground literals stands
pub record Selecting (usage at total : ℕ) (old scratch : List ℕ) (n i : ℕ) : Type 0 where
  pub reach : i ≤ total
  pub count : n ≡ at + length (rows_of_usage usage (ground_in i (literals_in old)))
  pub sized : length scratch ≡ length old
  pub filled : Filled (rows_in at (effects_in old) ++ rows_of_usage usage (ground_in i (literals_in old))) n (effects_in scratch) (effects_in old)
  pub literals : literals_in scratch ≡ literals_in old

-- each is the row of a ground literal
rows_of : (P : List ℕ → Type 0) (usage : ℕ) (ls : List GroundLiteral) → ((l : GroundLiteral) → In l ls → P l.row)
    → (row : List ℕ) → In row (rows_of_usage usage ls) → P row
unfolding rows_of_usage
rows_of P usage ls h row m =
    let r = map_in (λ (l : GroundLiteral). l.row) (filter_by (λ (l : GroundLiteral). eqb l.usage usage) ls) m in
    subst P (sym r.2) (h r.0 (filter_in (λ (l : GroundLiteral). eqb l.usage usage) ls r.1).0)

-- ---- they are those of the events' literals

-- the rows of an event's literals of one usage, so bound, and those of the events of a step
abbrev pub event_rows : Domain → Event → Usage → List (List ℕ)
event_rows D e c = map (pattern_row e.act.binding) (with_role (own e.moment c) (action D e.act.action).lits)

abbrev pub effect_rows : Domain → List Event → Usage → List (List ℕ)
effect_rows D es c = flat_map (λ (e : Event). event_rows D e c) es

-- those that count at the time of a moment are its own
own_at : (m : Moment) (c : Usage) (ls : List Literal) → with_role (counts_for (time_of m) c) ls ≡ with_role (own m c) ls
own_at Start c ls = refl
own_at End c ls = refl

-- the rows of a usage are those of the literals that count with it
literal_rows_lem : {D : Domain} (t : Time) (c : Usage) (b : Binding) (ls : List Literal) → ((l : Literal) → In l ls → Kept D l)
    → rows_of_usage (suc (usage_number c))
    (map (λ (l : Literal). record { usage = usage_for t (role_number l.role); row = pattern_row b l.atom })
    (filter_by (λ (l : Literal). not (eqb (usage_for t (role_number l.role)) 0)) ls))
    ≡ map (pattern_row b) (with_role (counts_for t c) ls)
unfolding rows_of_usage
literal_rows_lem t c b [] k = refl
literal_rows_lem t c b (l ∷ ls) k =
    go (eqb usage 0) refl (counts_for t c l.role) (usage_counts t c l (k l (Memᴰ.head refl)))
    (literal_rows_lem t c b ls (λ l m. k l (Memᴰ.tail m)))
  where
    usage : ℕ
    usage = usage_for t (role_number l.role)

    act : Literal → GroundLiteral
    act l = record { usage = usage_for t (role_number l.role); row = pattern_row b l.atom }

    rest : List GroundLiteral
    rest = map act (filter_by (λ (l : Literal). not (eqb (usage_for t (role_number l.role)) 0)) ls)

    atoms : List (Atom Argument)
    atoms = with_role (counts_for t c) ls

    one : (d : Bool) → rows_of_usage (suc (usage_number c)) rest ≡ map (pattern_row b) atoms
        → map (λ (g : GroundLiteral). g.row) (keep_if d (act l) (filter_by (λ (g : GroundLiteral). eqb g.usage (suc
        (usage_number c))) rest))
        ≡ map (pattern_row b) (keep_if d l.atom atoms)
    one true e = ap (λ (r : List (List ℕ)). pattern_row b l.atom ∷ r) e
    one false e = e

    go : (z : Bool) → eqb usage 0 ≡ z → (d : Bool) → eqb usage (suc (usage_number c)) ≡ d
        → rows_of_usage (suc (usage_number c)) rest ≡ map (pattern_row b) atoms
        → rows_of_usage (suc (usage_number c))
        (map act (keep_if (not z) l (filter_by (λ (l : Literal). not (eqb (usage_for t (role_number l.role)) 0)) ls)))
        ≡ map (pattern_row b) (keep_if d l.atom atoms)
    go true x true y e = let p = eqb-true usage 0 x in let q = eqb-true usage (suc (usage_number c)) y in absurd (omega arith)
    go true x false y e = e
    go false x d y e =
        ap (λ (d : Bool). map (λ (g : GroundLiteral). g.row)
        (keep_if d (act l) (filter_by (λ (g : GroundLiteral). eqb g.usage (suc (usage_number c))) rest))) y
        ∙ one d e

module _ {D : Domain} {head : List ℕ} (H : HeadOf D head) (c : Usage) where
  event_rows_lem : (e : Event) → GroundFits D e.act → rows_of_usage (suc (usage_number c)) (event_literals D e) ≡ event_rows D e c
  unfolding ground_literals
  event_rows_lem e F =
      literal_rows_lem (time_of e.moment) c e.act.binding (action D e.act.action).lits (head_kept H e.act.action
      F.listed)
      ∙ ap (map (pattern_row e.act.binding)) (own_at e.moment c (action D e.act.action).lits)

  step_rows : (es : List Event) → EventsFit D es
      → rows_of_usage (suc (usage_number c)) (in_one (map (event_literals D) es)) ≡ effect_rows D es c
  unfolding flat_map rows_of_usage
  step_rows [] F = refl
  step_rows (e ∷ es) F =
      rows_append (suc (usage_number c)) (event_literals D e) (in_one (map (event_literals D) es))
      ∙ ap₂ ◌++◌ (event_rows_lem e (F e (Memᴰ.head refl))) (step_rows es (λ f m. F f (Memᴰ.tail m)))

-- of a step, in memory
pub grounded_rows : {D : Domain} {head : List ℕ} {es : List Event} {memory : List ℕ} {total : ℕ} → Grounded D head es memory total
    → (c : Usage) → rows_of_usage (suc (usage_number c)) (ground_in total memory) ≡ effect_rows D es c
grounded_rows {es = es} G c = ap (rows_of_usage (suc (usage_number c))) G.laid.filled ∙ step_rows G.says c es G.fit

-- ---- they are the machine's

-- what an event adds, literal by literal, a literal that stands twice counted twice; and what the events of a step add
abbrev event_adds : Domain → Event → List Fact
event_adds D e = map (bind e.act.binding) (with_role (own e.moment Add) (action D e.act.action).lits)

abbrev step_adds : Domain → List Event → List Fact
step_adds D es = flat_map (event_adds D) es

-- adds have no FF
own_plain : (m : Moment) (r : Role) → own m Add r ≡ true → may_clear r.usage ≡ false
own_plain Start r h = counts_plain AtStart Add r h refl
own_plain End r h = counts_plain AtEnd Add r h refl

-- so their rows are those of facts
pub plain_rows : (b : Binding) (ps : List (Atom Argument)) → ((p : Atom Argument) → In p ps → count_by is_every p.args ≡ 0)
    → map (pattern_row b) ps ≡ map fact_row (map (bind b) ps)
plain_rows b [] h = refl
plain_rows b (p ∷ ps) h =
    ap₂ {C = List (List ℕ)} (λ row rows. row ∷ rows) (plain_row b p (h p (Memᴰ.head refl)))
    (plain_rows b ps (λ q m. h q (Memᴰ.tail m)))

module _ {D : Domain} {head : List ℕ} (H : HeadOf D head) (objs : List Object) where
  module _ (e : Event) (F : GroundFits D e.act) where
    abbrev objects : Binding
    objects = e.act.binding

    abbrev act : Action
    act = action D e.act.action

    listed : In act D.actions
    listed = listed_in D e.act.action F.listed

    adds_plain : (p : Atom Argument) → In p (literals_at act e.moment Add) → count_by is_every p.args ≡ 0
    adds_plain p m =
        let l = literals_at_in act e.moment Add m in
        ap (λ (p : Atom Argument). count_by is_every p.args) l.3
        ∙ literal_plain H.bounded listed l.0 l.1 (own_plain e.moment l.0.role l.2)

    event_added : event_rows D e Add ≡ map fact_row (event_adds D e)
    unfolding literals_at
    event_added =
        plain_rows objects (with_role (own e.moment Add) act.lits) (λ p m. adds_plain p (in_dedup same_literal literal_eq m))

    -- a literal that stands twice adds one fact
    event_once : dedup same_fact (event_facts D objs e Add) ≡ dedup same_fact (event_adds D e)
    unfolding event_facts literals_at
    event_once =
        ap (dedup same_fact) (plain_flat objs objects (literals_at act e.moment Add) adds_plain)
        ∙ dedup_map_dedup (bind objects) same_literal literal_eq same_fact fact_eq fact_self
        (with_role (own e.moment Add) act.lits)

    deletes_bound : LiteralsBound D objects (literals_at act e.moment Delete)
    deletes_bound p m =
        let l = literals_at_in act e.moment Delete m in
        subst (LiteralBound D objects) (sym l.3) (literal_bound H.bounded listed objects F.bound l.0 l.1)

    -- a delete's row meets that of a fact exactly where the delete stands for it
    event_struck : ((o : Object) → In o objs → o.0 < 255) → ((o : Object) → In o objects → In o objs) → (f : Fact) → FactOver D objs f
        → any_meets (event_rows D e Delete) (fact_row f) ≡ elem same_fact f (event_facts D objs e Delete)
    unfolding event_facts literals_at
    event_struck low over f k =
        let meets : List ℕ → Bool = λ row. patterns_meet row (fact_row f) in
        let own-literals : List (Atom Argument) = with_role (own e.moment Delete) act.lits in
        any_map (pattern_row objects) meets own-literals
        ∙ sym (any_once (λ p. meets (pattern_row objects p)) own-literals)
        ∙ sym (any_map (pattern_row objects) meets (literals_at act e.moment Delete))
        ∙ sym (struck_row D objs low objects over (literals_at act e.moment Delete) f deletes_bound k)

  step_added : (es : List Event) → EventsFit D es → effect_rows D es Add ≡ map fact_row (step_adds D es)
  unfolding flat_map
  step_added [] F = refl
  step_added (e ∷ es) F =
      ap₂ ◌++◌ (event_added e (F e (Memᴰ.head refl))) (step_added es (λ f m. F f (Memᴰ.tail m)))
      ∙ sym (map-append fact_row (event_adds D e) (step_adds D es))

  step_once : (es : List Event) → EventsFit D es → dedup same_fact (step_facts D objs es Add) ≡ dedup same_fact (step_adds D es)
  unfolding step_facts flat_map
  step_once [] F = refl
  step_once (e ∷ es) F =
      same_append same_fact fact_eq fact_self (event_facts D objs e Add) (event_adds D e) (step_facts D objs es Add) (step_adds D es)
      (event_once e (F e (Memᴰ.head refl))) (step_once es (λ f m. F f (Memᴰ.tail m)))

  -- where none of the rows is a pattern, equality tells which meet
  struck_meets : {fs : List Fact} {gs : List GroundAction} → OverObjects D objs fs gs → (f : Fact) → In f fs → (rows : List (List ℕ))
      → ((row : List ℕ) → In row rows → Formed head row) → is_struck rows (fact_row f) ≡ any_meets rows (fact_row f)
  struck_meets C f i rows formed = go (bool_cases (any is_pattern rows))
    where
      go : (any is_pattern rows ≡ true) ⊎ (any is_pattern rows ≡ false) → is_struck rows (fact_row f) ≡ any_meets rows (fact_row f)
      go (inl t) = struck_by rows (fact_row f) t
      go (inr n) =
          struck_by rows (fact_row f) n
          ∙ any_agree (same_list eqb (fact_row f)) (λ row. patterns_meet row (fact_row f)) rows
          (λ row m. same_list_comm eqb eqb_comm (fact_row f) row ∙ sym (chosen_meets H C (formed row m) (any_out is_pattern n m) f i))

  step_struck : {fs : List Fact} (es : List Event) → OverObjects D objs fs (map (λ (e : Event). e.act) es) → EventsFit D es
      → (f : Fact) → In f fs → any_meets (effect_rows D es Delete) (fact_row f) ≡ elem same_fact f (step_facts D objs es Delete)
  unfolding step_facts
  step_struck es C F f i =
      any_flat (λ (e : Event). event_rows D e Delete) (λ row. patterns_meet row (fact_row f)) es
      ∙ any_agree (λ (e : Event). any_meets (event_rows D e Delete) (fact_row f)) (λ (e : Event). elem same_fact f (event_facts D objs e Delete)) es
      (λ e m. event_struck e (F e m) C.low (C.bindings e.act (Memᴰ.map (λ (e : Event). e.act) m)) f (C.facts f i))
      ∙ sym (any_flat (λ (e : Event). event_facts D objs e Delete) (same_fact f) es)

-- what a step strikes and adds, as rows, and as the machine says it
pub record EffectsOf (D : Domain) (objs : List Object) (fs : List Fact) (es : List Event) (head : List ℕ)
    (struck added : List (List ℕ)) : Type 0 where
  pub gone : (f : Fact) → In f fs → is_struck struck (fact_row f) ≡ elem same_fact f (step_facts D objs es Delete)
  pub new : List Fact
  pub rows : added ≡ map fact_row new
  pub once : dedup same_fact (step_facts D objs es Add) ≡ dedup same_fact new
  pub sized : Sized head added

pub effects_of : {D : Domain} {objs : List Object} {fs : List Fact} {es : List Event} {head memory : List ℕ} {total : ℕ}
    → Grounded D head es memory total → OverObjects D objs fs (map (λ (e : Event). e.act) es) → {struck added : List (List ℕ)}
    → struck ≡ rows_of_usage 4 (ground_in total memory) → added ≡ rows_of_usage 3 (ground_in total memory)
    → EffectsOf D objs fs es head struck added
effects_of {D} {objs} {fs} {es} {head} {memory} {total} G C {struck} {added} s a =
    record {
      gone =
          λ f i.
          struck_meets G.says objs C f i struck
          (λ row m. rows_of (Formed head) 4 (ground_in total memory) (step_formed G) row (subst (In row) s m))
          ∙ ap (λ (rows : List (List ℕ)). any_meets rows (fact_row f)) (s ∙ grounded_rows G Delete)
          ∙ step_struck G.says objs es C G.fit f i;
      new = step_adds D es;
      rows = a ∙ grounded_rows G Add ∙ step_added G.says objs es G.fit;
      once = step_once G.says objs es G.fit;
      sized =
          λ row m.
          rows_of (SizedRow head) 3 (ground_in total memory) (step_sized G) row (subst (In row) a m);
    }
