-- Rows that are marked by a byte, and the index beside rows that are kept or joined. Assumes nothing.
use mathlib.Core.Path.{◌≡◌, refl, sym, ap, ◌∙◌, subst}
use mathlib.Core.Bool.{Bool, true, false, ◌&&◌, ◌||◌, not, cond, false≢true}
use mathlib.Core.Logic.{◌⊎◌, inl, inr}
use mathlib.Core.List.{List, [], ◌∷◌, ◌++◌, append-nil}
use Prim.Native.Nat.{ℕ, ◌+◌, ◌-◌, ◌*◌, ◌≤◌, ◌<◌}
use native.Mathlib.Omega.{arith}
use lib.Dec.{eqb}
use lib.ListN.{length, get_or, set, take, drop}
use lib.Seq.{get_or-drop, get_or-set_same, get_or-set_other, drop-drop}
use borrow.Author.Tests.{eqb-true, eqb-false, eq-eqb}
use Rattle.records.specs.Lists.{In, filter_by, same_list}
use Rattle.records.specs.Memory.{over}
use Rattle.records.proofs.Lists.{and_l, and_r, or_cases, any_in, bool_cases, off, same_list_eq, elem_in, in_snoc, get_d_in}
use Rattle.literals.specs.Decode.{byte}
use Rattle.literals.specs.Held.{rows_in, meet_byte}
use Rattle.verdict.specs.Held.{patterns_meet}
use Rattle.literals.proofs.Rows.{part_at, rows_more, rows_end, rows_snoc}
use Rattle.literals.proofs.KeyRows.{length_rows, rows_at}
use Rattle.store.specs.Held.{Sized, Indexed, note_at, SizedRow, has_row}
use Rattle.run_semantics.specs.RunFile.{max_facts}
use Rattle.run_semantics.specs.Play.{work_bytes}
use Rattle.events.specs.Held.{grounded_bytes}
use Rattle.effects.specs.Held.{scratch_bytes, effects_in, Marked, is_apart, any_meets, flat, join_row, at_most, HoldsJoined, is_struck}
use Rattle.effects.specs.Held.{stays, kept_of}
use Rattle.effects.proofs.FilledRows.{section_part, filled_effects, Filled, filled_rows, filled_own, left_out, kept_few, kept_next}
use Rattle.effects.proofs.FilledRows.{kept_more, joined_of, joined_next, joined_on, stopped_count, stopped_rows, joined_all}
use Rattle.effects.proofs.FilledRows.{joined_out}

-- ---- marks

-- one row more
pub marks_more : (rows marks : List ℕ) (j first : ℕ) → 8 * j + 8 ≤ length rows → first < length marks → first ≡ get_or rows (8 * j + 2) 0 → Marked marks (rows_in j rows)
    → Marked (set marks first 1) (rows_in (j + 1) rows)
marks_more rows marks j first h b e M =
    subst (Marked (set marks first 1)) (sym (rows_snoc j rows))
    (in_snoc {P = λ (row : List ℕ). get_or (set marks first 1) (byte row 2) 0 ≡ 1} (rows_in j rows) (take 8 (drop (8 * j) rows))
    (λ row m. still (byte row 2) (bool_cases (eqb (byte row 2) first)) (M row m))
    (ap (λ (i : ℕ). get_or (set marks first 1) i 0) (part_at 8 rows (8 * j) h 2 (omega arith) ∙ sym e) ∙ get_or-set_same marks first 1 0 b))
  where
    still : (i : ℕ) → (eqb i first ≡ true) ⊎ (eqb i first ≡ false) → get_or marks i 0 ≡ 1 → get_or (set marks first 1) i 0 ≡ 1
    still i (inl t) m = ap (λ (k : ℕ). get_or (set marks first 1) k 0) (eqb-true i first t) ∙ get_or-set_same marks first 1 0 b
    still i (inr f) m = get_or-set_other marks first i 1 0 (eqb-false i first f) ∙ m

-- a row whose third byte is not marked is none of them
pub unmarked : (marks : List ℕ) (rows : List (List ℕ)) (row : List ℕ) → Marked marks rows → get_or marks (byte row 2) 0 ≡ 0 → false ≡ has_row row rows
unmarked marks rows row M z = sym (off (has_row row rows) (λ t. let e = M row (elem_in (same_list eqb) (same_list_eq eqb eqb-true) row rows t) in absurd (omega arith)))

-- the third bytes of rows that meet do
first_meets : (xs ys : List ℕ) → same_list meet_byte xs ys ≡ true → meet_byte (get_or xs 0 0) (get_or ys 0 0) ≡ true
first_meets [] [] t = refl
first_meets [] (y ∷ ys) t = absurd (false≢true t)
first_meets (x ∷ xs) [] t = absurd (false≢true t)
first_meets (x ∷ xs) (y ∷ ys) t = and_l (meet_byte x y) (same_list meet_byte xs ys) t

-- a row apart from the marks meets none of the rows
pub apart : (marks : List ℕ) (rows : List (List ℕ)) (row : List ℕ) → Marked marks rows → is_apart marks (byte row 2) ≡ true
    → false ≡ any_meets rows row
apart marks rows row M t = sym (off (any_meets rows row) (λ k. met (any_in (λ p. patterns_meet p row) rows k)))
  where
    no_every : (byte row 2 ≡ 255) → ⊥
    no_every e = false≢true (sym (ap not (eq-eqb (byte row 2) 255 e)) ∙ and_l _ _ t)

    none : eqb (get_or marks 255 0) 0 && eqb (get_or marks (byte row 2) 0) 0 ≡ true
    none = and_r (not (eqb (byte row 2) 255)) _ t

    no_mark : (n : ℕ) → eqb (get_or marks n 0) 0 ≡ true → get_or marks n 0 ≡ 1 → ⊥
    no_mark n z o = let e = eqb-true (get_or marks n 0) 0 z in omega arith

    met : (p : List ℕ) × In p rows × (patterns_meet p row ≡ true) → ⊥
    met (p, i, m) =
        let b : meet_byte (byte p 2) (byte row 2) ≡ true
        = rw (← get_or-drop 2 p 0 0, ← get_or-drop 2 row 0 0) (first_meets (drop 2 p) (drop 2 row) (and_r (eqb (byte p 0) (byte row 0)) _ m)) in
        go (or_cases (eqb (byte p 2) (byte row 2)) _ b)
      where
        go : (eqb (byte p 2) (byte row 2) ≡ true) ⊎ (eqb (byte p 2) 255 || eqb (byte row 2) 255 ≡ true) → ⊥
        go (inl e) = no_mark (byte row 2) (and_r (eqb (get_or marks 255 0) 0) _ none)
            (ap (λ (n : ℕ). get_or marks n 0) (sym (eqb-true (byte p 2) (byte row 2) e)) ∙ M p i)
        go (inr q) = every (or_cases (eqb (byte p 2) 255) _ q)
          where
            every : (eqb (byte p 2) 255 ≡ true) ⊎ (eqb (byte row 2) 255 ≡ true) → ⊥
            every (inl e) = no_mark 255 (and_l _ _ none) (ap (λ (n : ℕ). get_or marks n 0) (sym (eqb-true (byte p 2) 255 e)) ∙ M p i)
            every (inr e) = no_every (eqb-true (byte row 2) 255 e)

-- ---- the index beside rows that are kept

module _ {head index : List ℕ} (struck : List (List ℕ)) (row : List ℕ) (before after : List (List ℕ)) where
  pub left_indexed : is_struck struck row ≡ true → Indexed head index (before ++ after)
      → Indexed head index ((before ++ filter_by (stays struck) (row ∷ [])) ++ after)
  left_indexed t I =
      subst (λ (l : List (List ℕ)). Indexed head index (l ++ after))
      (sym (ap (λ (l : List (List ℕ)). before ++ l) (left_out struck row t) ∙ append-nil before)) I

-- where the loop over the rows of the work memory stands
pub record Keeping (struck : List (List ℕ)) (work : List ℕ) (n : ℕ) (head out₀ index₀ out index : List ℕ) (k i : ℕ) : Type 0 where
  pub reach : i ≤ n
  pub few : k ≤ i
  pub filled : Filled (kept_of struck work i) k out out₀
  pub indexed : Indexed head index₀ (rows_in n work) → Indexed head index (kept_of struck work i ++ rows_in (n - i) (drop (8 * i) work))
  pub beside : get_or index note_at 0 ≡ get_or index₀ note_at 0

pub keeping_begin : (struck : List (List ℕ)) (work : List ℕ) (n : ℕ) (head out index : List ℕ) → Keeping struck work n head out index out index 0 0
keeping_begin struck work n head out index =
    record {
      reach = omega arith;
      few = omega arith;
      filled = filled_own 0 out (omega arith);
      indexed = λ I. let e : n ≡ n - 0 = omega arith in subst (λ (k : ℕ). Indexed head index (rows_in k work)) e I;
      beside = refl;
    }

module _ {struck : List (List ℕ)} {work : List ℕ} {n : ℕ} {head out₀ index₀ out index : List ℕ} {k i : ℕ} (K : Keeping struck work n head out₀ index₀ out index k i) where
  pub keeping_effects : n ≤ max_facts → effects_in out ≡ effects_in out₀
  keeping_effects g = let r = K.reach in let f = K.few in filled_effects K.filled (omega arith)

  abbrev read : List ℕ
  read = take 8 (drop (8 * i) work)

  -- one row more
  pub keeping_more : i < n → 8 * n ≤ length work → 8 * n ≤ length out₀ → {m : ℕ} {next index' : List ℕ} → m ≡ k + length (filter_by (stays struck) (read ∷ []))
      → next ≡ over (flat (rows_in k out ++ filter_by (stays struck) (read ∷ []))) out
      → ((before after : List (List ℕ)) → Indexed head index (before ++ (read ∷ after))
      → Indexed head index' ((before ++ filter_by (stays struck) (read ∷ [])) ++ after))
      → get_or index' note_at 0 ≡ get_or index note_at 0 → Keeping struck work n head out₀ index₀ next index' m (i + 1)
  keeping_more h w o {m} {next} {index'} e f x b =
      let q = K.few in
      let F = kept_more struck work i k (omega arith) q (omega arith) K.filled e f in
      let c = F.count in
      let l = kept_few struck work (i + 1) in
      record {
        reach = omega arith;
        few = omega arith;
        filled = F;
        indexed =
            λ I.
            subst (λ (l : List (List ℕ)). Indexed head index' (l ++ rows_in (n - (i + 1)) (drop (8 * (i + 1)) work))) (sym (kept_next struck work i))
            (x (kept_of struck work i) (rows_in (n - (i + 1)) (drop (8 * (i + 1)) work))
            (subst (λ (l : List (List ℕ)). Indexed head index (kept_of struck work i ++ l)) (rows_more 8 work n i h) (K.indexed I)));
        beside = b ∙ K.beside;
      }

  module _ (e : i ≡ n) where
    pub keeping_count : k ≡ length (kept_of struck work n)
    keeping_count = K.filled.count ∙ ap (λ (i : ℕ). length (kept_of struck work i)) e

    pub keeping_rows : out ≡ over (flat (kept_of struck work n)) out₀
    keeping_rows = K.filled.bytes ∙ ap (λ (i : ℕ). over (flat (kept_of struck work i)) out₀) e

    pub keeping_indexed : Indexed head index₀ (rows_in n work) → Indexed head index (kept_of struck work n)
    keeping_indexed I =
        subst (Indexed head index)
        (ap (λ (l : List (List ℕ)). kept_of struck work i ++ l) (rows_end 8 (drop (8 * i) work) n i (omega arith)) ∙ append-nil (kept_of struck work i) ∙ ap (kept_of struck work) e)
        (K.indexed I)

-- ---- the index beside rows that join

-- a row with the arity of its relation, by another name
pub sized_as : (head : List ℕ) {row at : List ℕ} → row ≡ at → SizedRow head at → SizedRow head row
sized_as head e b = subst (SizedRow head) (sym e) b

module _ {head index : List ℕ} (rows : List (List ℕ)) {row at : List ℕ} (e : row ≡ at) where
  pub there_indexed : has_row row rows ≡ true → Indexed head index rows → Indexed head index (join_row rows at)
  there_indexed t I = subst (λ (b : Bool). Indexed head index (cond b rows (rows ++ (at ∷ [])))) (sym (ap (λ (r : List ℕ). has_row r rows) (sym e) ∙ t)) I

  pub new_indexed : has_row row rows ≡ false → Indexed head index (rows ++ (at ∷ [])) → Indexed head index (join_row rows at)
  new_indexed t I = subst (λ (b : Bool). Indexed head index (cond b rows (rows ++ (at ∷ [])))) (sym (ap (λ (r : List ℕ). has_row r rows) (sym e) ∙ t)) I

-- a row of what a step adds, by its place in the scratch memory
pub effect_at : (scratch : List ℕ) (from j : ℕ) → length scratch ≡ scratch_bytes → 8 * (from + j) + 8 ≤ work_bytes
    → take 8 (drop (grounded_bytes + 8 * (from + j)) scratch) ≡ take 8 (drop (8 * j) (drop (8 * from) (effects_in scratch)))
effect_at scratch from j l h =
    let e : 8 * (from + j) ≡ 8 * from + 8 * j = omega arith in
    section_part scratch grounded_bytes work_bytes (8 * (from + j)) 8 (omega arith) h
    ∙ ap (take 8) (ap (λ (k : ℕ). drop k (effects_in scratch)) e ∙ sym (drop-drop (8 * j) (8 * from) (effects_in scratch)))

-- what is told of a row that joins
pub record Joined (row head out index next index' : List ℕ) (n r : ℕ) : Type 0 where
  pub few : (n ≤ r) × (r ≤ 1025)
  pub joined : Indexed head index (rows_in n out) → SizedRow head row → HoldsJoined head (join_row (rows_in n out) row) out r next index'
  pub beside : get_or index' note_at 0 ≡ get_or index note_at 0
  pub room : length next ≡ length out
  pub others : effects_in next ≡ effects_in out

-- of a row of what is added, by its place in the scratch memory
pub joined_turn : (scratch out₀ : List ℕ) (from j : ℕ) → length scratch ≡ scratch_bytes → 8 * (from + j) + 8 ≤ work_bytes
    → effects_in scratch ≡ effects_in out₀ → {head index next index' : List ℕ} {n r : ℕ}
    → Joined (take 8 (drop (grounded_bytes + 8 * (from + j)) scratch)) head scratch index next index' n r
    → Joined (take 8 (drop (8 * j) (drop (8 * from) (effects_in out₀)))) head scratch index next index' n r
joined_turn scratch out₀ from j l h e {head} {index} {next} {index'} {n} {r} J =
    subst (λ (row : List ℕ). Joined row head scratch index next index' n r)
    (effect_at scratch from j l h ∙ ap (λ (t : List ℕ). take 8 (drop (8 * j) (drop (8 * from) t))) e) J

-- where the loop over the rows that join stands
pub record Joining (adds : List ℕ) (m count : ℕ) (head out₀ index₀ out index : List ℕ) (n j : ℕ) : Type 0 where
  pub reach : j ≤ m
  pub least : count ≤ n
  pub most : n ≤ 1024
  pub room : length out ≡ length out₀
  pub others : effects_in out ≡ effects_in out₀
  pub filled : Indexed head index₀ (rows_in count out₀) → Sized head (rows_in m adds) → Filled (joined_of (rows_in count out₀) adds j) n out out₀
  pub indexed : Indexed head index₀ (rows_in count out₀) → Sized head (rows_in m adds)
      → Indexed head index (joined_of (rows_in count out₀) adds j)
  pub beside : get_or index note_at 0 ≡ get_or index₀ note_at 0

pub joining_begin : (adds : List ℕ) (m count : ℕ) (head out index : List ℕ) → count ≤ 1024 → 8192 ≤ length out
    → Joining adds m count head out index out index count 0
joining_begin adds m count head out index h w =
    record {
      reach = omega arith;
      least = omega arith;
      most = h;
      room = refl;
      others = refl;
      filled = λ I S. filled_own count out (omega arith);
      indexed = λ I S. I;
      beside = refl;
    }

module _ {adds : List ℕ} {m count : ℕ} {head out₀ index₀ out index : List ℕ} {n j : ℕ} (K : Joining adds m count head out₀ index₀ out index n j) where
  abbrev first : List (List ℕ)
  first = rows_in count out₀

  module _ (h : j < m) (g : 8 * m ≤ length adds) (w : 8192 ≤ length out₀) {r : ℕ} {next index' : List ℕ} (J : Joined (take 8 (drop (8 * j) adds)) head out index next index' n r) where
    module _ (I : Indexed head index₀ first) (S : Sized head (rows_in m adds)) where
      F : Filled (joined_of first adds j) n out out₀
      F = K.filled I S

      held : Indexed head index (rows_in n out)
      held = subst (Indexed head index) (sym (filled_rows F)) (K.indexed I S)

      row_sized : SizedRow head (take 8 (drop (8 * j) adds))
      row_sized =
          S (take 8 (drop (8 * j) adds))
          (subst (λ (row : List ℕ). In row (rows_in m adds)) (rows_at 8 m adds j [] h) (let l = length_rows 8 m adds in get_d_in (rows_in m adds) j [] (omega arith)))

      H : HoldsJoined head (join_row (rows_in n out) (take 8 (drop (8 * j) adds))) out r next index'
      H = J.joined held row_sized

      -- without room: whatever comes later does not change the answer
      pub joining_stop : 1024 < r → HoldsJoined head (joined_of first adds m) out₀ r next index'
      joining_stop k =
          record {
            count = stopped_count first adds j n (omega arith) K.most w F H.count H.bytes m (omega arith) k;
            bytes = stopped_rows first adds j n (omega arith) K.most w F H.count H.bytes m (omega arith) k;
            indexed = λ q. absurd (omega arith);
          }

      filled_on : r ≤ 1024 → Filled (joined_of first adds (j + 1)) r next out₀
      filled_on k = joined_on first adds j n (omega arith) K.most w F H.count H.bytes k

      indexed_on : r ≤ 1024 → Indexed head index' (joined_of first adds (j + 1))
      indexed_on k =
          subst (Indexed head index')
          (ap (λ (l : List (List ℕ)). join_row l (take 8 (drop (8 * j) adds))) (filled_rows F) ∙ sym (joined_next first adds j))
          (H.indexed k)

    -- with room for it
    pub joining_more : r ≤ 1024 → Joining adds m count head out₀ index₀ next index' r (j + 1)
    joining_more k =
        let l = K.least in
        let f = J.few.0 in
        record {
          reach = omega arith;
          least = omega arith;
          most = k;
          room = J.room ∙ K.room;
          others = J.others ∙ K.others;
          filled = λ I S. filled_on I S k;
          indexed = λ I S. indexed_on I S k;
          beside = J.beside ∙ K.beside;
        }

  -- all have joined
  pub joining_all : j ≡ m → Indexed head index₀ first → Sized head (rows_in m adds) → HoldsJoined head (joined_of first adds m) out₀ n out index
  joining_all e I S =
      record {
        count = joined_all K.most (K.filled I S) ∙ ap (λ (k : ℕ). at_most 1024 (length (joined_of first adds k))) e;
        bytes = joined_out K.most (K.filled I S) ∙ ap (λ (k : ℕ). over (flat (take 1024 (joined_of first adds k))) out₀) e;
        indexed = λ q. subst (λ (k : ℕ). Indexed head index (joined_of first adds k)) e (K.indexed I S);
      }
