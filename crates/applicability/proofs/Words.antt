-- A row's word, the number of its relation and arguments, tells the row from every other whose relation has the same arity; and so, where
-- there are no patterns, whether two rows meet. Assumes nothing.
use mathlib.Core.Path.{◌≡◌, refl, sym, ap, ◌∙◌, subst}
use mathlib.Core.Bool.{Bool, true, false}
use mathlib.Core.List.Memᴰ
use mathlib.Core.List.{List, [], ◌∷◌, ◌++◌, map}
use Prim.Native.Nat.{ℕ, zero, suc, ◌*◌, ◌-◌, ◌≤◌, ◌<◌}
use native.Mathlib.Omega.{arith}
use lib.Dec.{eqb, ltb}
use lib.ListN.{get_or, length, take, drop, replicate, length-append, length-map, length-replicate}
use borrow.Author.Tests.{eqb-true, lt-ltb, ltb-true}
use Rattle.records.specs.Lists.{In, any, all}
use Rattle.records.proofs.Lists.{and_l, and_r, and_i, off, any_out, all_append, get_d_in, same_list_eq}
use Rattle.literals.specs.declared.Variable.{Variable}
use Rattle.literals.specs.declared.Object.{Object}
use Rattle.literals.specs.declared.Argument.{Argument}
use Rattle.literals.specs.declared.Argument.TheVariants.{Variable as bound, Every}
use Rattle.literals.specs.Domain.{object, variables_of, Atom, Domain, action}
use Rattle.literals.specs.Decode.{byte}
use Rattle.literals.specs.Held.{rows_in, arity_in, HeadOf}
use Rattle.literals.proofs.KeyRows.{length_rows, rows_at}
use Rattle.verdict.specs.Binding.{Binding, value_of}
use Rattle.verdict.specs.Machine.{GroundAction, Event}
use Rattle.verdict.specs.Held.{argument_byte, pattern_row, patterns_meet}
use Rattle.store.specs.Held.{word_of}
use Rattle.store.proofs.Totals.{word_same}
use Rattle.events.specs.Held.{GroundFits, is_pattern, GroundLiteral, ground_at, Grounded}
use Rattle.events.proofs.FactRows.{listed_in}
use Rattle.events.proofs.GroundLiterals.{GroundOf, formed_of, ground_in_lem, step_of}
use Rattle.events.proofs.Meeting.{Formed, meets_self, meet_same}
use Rattle.applicability.specs.Held.{ToldByWords, AllTold}

abbrev bytes : List ℕ → Bool
bytes l = all (λ (b : ℕ). ltb b 256) l

byte_at : (l : List ℕ) → bytes l ≡ true → (i : ℕ) → get_or l i 0 < 256
byte_at [] h i = omega arith
byte_at (b ∷ bs) h zero = ltb-true b 256 (and_l (ltb b 256) (bytes bs) h)
byte_at (b ∷ bs) h (suc i) = byte_at bs (and_r (ltb b 256) (bytes bs) h) i

fill_bytes : (n : ℕ) → bytes (replicate n 255) ≡ true
fill_bytes zero = refl
fill_bytes (suc n) = fill_bytes n

-- ---- rows that their words tell apart

record Worded (head row : List ℕ) : Type 0 where
  formed : Formed head row
  eight : length row ≡ 8
  small : (i : ℕ) → 2 ≤ i → byte row i < 256

row_sized : {head row : List ℕ} → Worded head row → byte row 1 ≡ arity_in head (byte row 0)
row_sized {head} W =
    ap (λ (r : List ℕ). byte r 1) W.formed.is
    ∙ W.formed.sized
    ∙ sym (ap (λ (r : List ℕ). arity_in head (byte r 0)) W.formed.is)

told : (head p q : List ℕ) → Worded head p → Worded head q → (patterns : Bool)
    → (patterns ≡ false → (is_pattern p ≡ false) × (is_pattern q ≡ false)) → ToldByWords patterns p q
told head p q P Q patterns plain =
    record {
      same =
          λ e.
          ap (patterns_meet p)
          (sym (word_same p q P.small Q.small P.eight Q.eight e
          (λ r. row_sized P ∙ ap (arity_in head) r ∙ sym (row_sized Q))))
          ∙ meets_self p;
      other =
          λ k n.
          off (patterns_meet p q)
          (λ t. n (ap word_of (same_list_eq eqb eqb-true p q
          (sym (meet_same head p q P.formed Q.formed (plain k).0 (plain k).1) ∙ t))));
    }

-- ---- those of the ground literals of a step

small_bytes : (b : Binding) → ((o : Object) → In o b → o.0 < 255) → (xs : List Argument)
    → ((v : Variable) → In v (variables_of xs) → v.0 < length b) → bytes (map (argument_byte b) xs) ≡ true
small_bytes b h [] k = refl
small_bytes b h (bound v ∷ xs) k =
    let l = h (value_of b v) (get_d_in b v.0 (object 0) (k v (Memᴰ.head refl))) in
    and_i {a = ltb (value_of b v).0 256} (lt-ltb (value_of b v).0 256 (omega arith)) (small_bytes b h xs (λ w m. k w (Memᴰ.tail m)))
small_bytes b h (Every ∷ xs) k = and_i {a = ltb 255 256} refl (small_bytes b h xs k)

-- a literal's row, so bound
module _ (b : Binding) (h : (o : Object) → In o b → o.0 < 255) (p : Atom Argument) (few : length p.args ≤ 6)
    (k : (v : Variable) → In v (variables_of p.args) → v.0 < length b) where
  pattern_bytes : (i : ℕ) → 2 ≤ i → byte (pattern_row b p) i < 256
  unfolding pattern_row
  pattern_bytes zero l = absurd (omega arith)
  pattern_bytes (suc zero) l = absurd (omega arith)
  pattern_bytes (suc (suc i)) l =
      byte_at (map (argument_byte b) p.args ++ replicate (6 - length p.args) 255)
      (all_append (λ (b : ℕ). ltb b 256) (map (argument_byte b) p.args) (replicate (6 - length p.args) 255) (small_bytes b h p.args k)
      (fill_bytes (6 - length p.args))) i

  pattern_length : length (pattern_row b p) ≡ 8
  unfolding pattern_row
  pattern_length =
      let a = length-append (map (argument_byte b) p.args) (replicate (6 - length p.args) 255) in
      let m = length-map p.args (argument_byte b) in
      let r = length-replicate {A = ℕ} (6 - length p.args) 255 in
      omega arith

worded : {D : Domain} {head : List ℕ} → HeadOf D head → (g : GroundAction) → GroundFits D g → {x : GroundLiteral} → GroundOf D g x
    → Worded head x.row
worded {D} {head} H g F r =
    let a = action D g.action in
    let i = listed_in D g.action F.listed in
    let p = r.literal.atom in
    let few = H.bounded.arguments a i r.literal r.listed in
    let n = F.bound in
    let low : (v : Variable) → In v (variables_of p.args) → v.0 < length g.binding =
    λ v m. let b = H.bounded.below a i r.literal r.listed v m in omega arith in
    record {
      formed = formed_of H g F r;
      eight = ap length r.row_is ∙ pattern_length g.binding F.objects p few low;
      small = λ i l. subst (λ (row : List ℕ). byte row i < 256) (sym r.row_is) (pattern_bytes g.binding F.objects p few low i l);
    }

-- a row of a memory is one of its rows
row_in : (memory : List ℕ) (n i : ℕ) → i < n → In (take 8 (drop (8 * i) memory)) (rows_in n memory)
row_in memory n i h =
    let l = length_rows 8 n memory in
    subst (λ (row : List ℕ). In row (rows_in n memory)) (rows_at 8 n memory i [] h) (get_d_in (rows_in n memory) i [] (omega arith))

pub all_told : {D : Domain} {head : List ℕ} {es : List Event} {memory : List ℕ} {total : ℕ} → Grounded D head es memory total
    → (patterns : Bool) → patterns ≡ any is_pattern (rows_in total memory) → AllTold patterns total memory
all_told {head = head} {memory = memory} {total = total} G patterns e i j h g =
    told head (ground_at memory i).row (ground_at memory j).row (at i h) (at j g) patterns (λ k. (plain k i h, plain k j g))
  where
    at : (i : ℕ) → i < total → Worded head (ground_at memory i).row
    at i h = let r = step_of G (ground_at memory i) (ground_in_lem memory total i h) in worded G.says r.0.act (G.fit r.0 r.1) r.2

    plain : patterns ≡ false → (i : ℕ) → i < total → is_pattern (ground_at memory i).row ≡ false
    plain k i h = any_out is_pattern (sym e ∙ k) (row_in memory total i h)
