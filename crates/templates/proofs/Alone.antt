-- A template of one component: an action none of whose literals has its relation has no class, and what the decision can be. Assumes
-- nothing.
use Rattle.std.specs.Prelude.{Option, None, Some}
use mathlib.Core.Path.{◌≡◌, refl, sym, ap, ◌∙◌}
use mathlib.Core.Bool.{Bool, true, false, cond, ◌&&◌}
use mathlib.Core.List.{List, [], ◌∷◌, ◌++◌, map, flat_map, nil≢cons, cons≢nil, head-eq_of_cons-eq, tail-eq_of_cons-eq}
use Prim.Native.Nat.{ℕ, ◌+◌, ◌*◌, ◌≤◌, ◌<◌}
use native.Mathlib.Omega.{arith}
use lib.Dec.{eqb}
use lib.ListN.{length, get_or, take}
use lib.Seq.{take_all}
use Rattle.records.specs.Lists.{any, keep_if, dedup, same_list, below}
use Rattle.records.proofs.Lists.{any_map, eqb_comm, or_out}
use Rattle.literals.specs.declared.Variable.{Variable}
use Rattle.literals.specs.declared.Argument.{Argument}
use Rattle.literals.specs.Domain.{same_variable, variables_of, Atom, Literal, Action, Component, keys_of, Domain}
use Rattle.literals.specs.Held.{literal_row, actions_in, Held}
use Rattle.literals.specs.Matching.{key_tuple, tuples_by, tuples_of}
use Rattle.literals.proofs.Indices.{any_below, at_all}
use Rattle.literals.proofs.Tables.{kept, length_flat, length_literal_row}
use Rattle.classes.specs.Classes.{literal_tuples, classes}
use Rattle.classes.specs.Held.{ActionOf}
use Rattle.classes.proofs.Rows.{literal_at, no_literal, relation_at}
use Rattle.verdict.specs.Decision.{rows_of_classes}
use Rattle.verdict.specs.Judged.{Answer, answer_at, decided}
use Rattle.verdict.specs.declared.Place.{Place}
use Rattle.verdict.specs.declared.Notes.{Notes}
use Rattle.verdict.specs.Summaries.{summary_rows, summary_of, summaries, notes_of, answer_place, faultless, decide_notes, decided_summaries}
use Rattle.records.specs.Memory.{over}
use Rattle.naming.specs.Held.{Listed}
use Rattle.verdict.specs.declared.Judgement.{Judgement}
use Rattle.verdict.specs.Held.{judgement_of}
use Rattle.verdict.specs.Claims.{well_formed}
use Rattle.verdict.proofs.Summed.{summaries_decide}
use Rattle.templates.specs.Held.{OnlyRelation, mentioned_at}

-- ---- an action that does not mention the relation

-- an atom of another relation has no tuple
pub no_tuple : (n r : ℕ) (cs : List Component) → map (λ (c : Component). c.rel) cs ≡ r ∷ [] → (p : Atom Argument) → eqb p.rel r ≡ false
    → tuples_by n cs p ≡ []
no_tuple n r [] e p h = absurd (nil≢cons e)
no_tuple n r (c ∷ []) e p h =
    let q : eqb c.rel p.rel ≡ false = ap (λ (k : ℕ). eqb k p.rel) (head-eq_of_cons-eq e) ∙ eqb_comm r p.rel ∙ h in
    ap (λ (b : Bool). keep_if (b && eqb (length c.labels) (length p.args)) (key_tuple n c.labels p.args) []) q
no_tuple n r (c ∷ d ∷ ds) e p h = absurd (cons≢nil (tail-eq_of_cons-eq e))

none_all : (D : Domain) (r : ℕ) → OnlyRelation D r → (ls : List Literal) → any (λ (l : Literal). eqb l.atom.rel r) ls ≡ false
    → flat_map (λ (l : Literal). literal_tuples D l.atom) ls ≡ []
unfolding flat_map tuples_of literal_tuples
none_all D r only [] h = refl
none_all D r only (l ∷ ls) h =
    ap (λ (x : List (List Variable)). x ++ flat_map (λ (l : Literal). literal_tuples D l.atom) ls)
    (ap (map variables_of) (no_tuple (keys_of D.template) r D.template only l.atom
    (or_out (eqb l.atom.rel r) (any (λ (l : Literal). eqb l.atom.rel r) ls) h).0))
    ∙ none_all D r only ls (or_out (eqb l.atom.rel r) (any (λ (l : Literal). eqb l.atom.rel r) ls) h).1

pub no_class : (D : Domain) (a : Action) (r : ℕ) → OnlyRelation D r → any (λ (l : Literal). eqb l.atom.rel r) a.lits ≡ false
    → classes D a ≡ []
unfolding classes
no_class D a r only h = ap (dedup (same_list same_variable)) (none_all D r only a.lits h)

module _ {D : Domain} {a : Action} {head rows : List ℕ} (A : ActionOf D a head rows) (r n : ℕ) (w : length rows ≡ 8 * n) where
  -- as many rows as literals
  pub size : n ≡ length a.lits
  size =
      let l = length_flat literal_row a.lits (λ l m. length_literal_row l (kept A.says.bounded A.listed m).fits) in
      let e = ap length A.literals in
      omega arith

  -- what the rows say of the relations
  pub mentioned_is : any (mentioned_at rows r) (below n) ≡ any (λ (l : Literal). eqb l.atom.rel r) a.lits
  mentioned_is =
      ap (λ (k : ℕ). any (mentioned_at rows r) (below k)) size
      ∙ any_below (mentioned_at rows r) (λ j. eqb (literal_at a.lits j).atom.rel r) (length a.lits)
      (λ j h. ap (λ (k : ℕ). eqb k r)
      (ap (λ (t : List ℕ). get_or t (8 * j + 1) 0) A.literals ∙ relation_at a.lits (λ l m. kept A.says.bounded A.listed m) j h))
      ∙ sym (any_map (λ j. literal_at a.lits j) (λ (l : Literal). eqb l.atom.rel r) (below (length a.lits)))
      ∙ ap (any (λ (l : Literal). eqb l.atom.rel r)) (at_all no_literal a.lits)

  pub unmentioned : OnlyRelation D r → any (mentioned_at rows r) (below n) ≡ false → summary_rows [] ≡ summary_of D a
  unfolding summary_of
  unmentioned only h = sym (ap (λ xs. summary_rows (rows_of_classes D a 0 0 xs)) (no_class D a r only (sym mentioned_is ∙ h)))

-- ---- every decision is a byte

place_range : (n : ℕ) (p : Option Place) (a : Answer) → n < 256 → a.number < 256 → (answer_place n p a).number < 256
place_range n None a h k = k
place_range n (Some p) a h k = h

faultless_range : (n : Notes) → (faultless n).number < 256
faultless_range n = go n.endless
  where
    go : (b : Bool) → (cond b (answer_place 43 n.bounded (answer_at 1 0)) (answer_at 0 0)).number < 256
    go true = place_range 43 n.bounded (answer_at 1 0) (omega arith) (omega arith)
    go false = omega arith

pub notes_range : (n : Notes) → (decide_notes n).number < 256
unfolding decide_notes
notes_range n =
    place_range 40 n.heavy _ (omega arith)
    (place_range 41 n.unbalanced _ (omega arith) (place_range 42 n.unbounded _ (omega arith) (faultless_range n)))

-- no row is named yet
pub listed_empty : (names : List ℕ) → Listed [] 0 names names
unfolding over
listed_empty names = record { room = omega arith; counted = refl; bytes = refl }

-- ---- the decision, action by action

-- where deciding stands: the summaries of the actions before i are noted
pub record Deciding (head table : List ℕ) (relation : ℕ) (notes : Notes) (i : ℕ) : Type 0 where
  pub reach : i ≤ actions_in head
  pub noted : (D : Domain) → Held D head table → well_formed D ≡ true → OnlyRelation D relation
      → notes ≡ notes_of (map (summary_of D) (take i D.actions))

-- all of them
pub decides : (D : Domain) {notes : Notes} (i : ℕ) → notes ≡ notes_of (map (summary_of D) (take i D.actions)) → length D.actions ≤ i
    → {r : Judgement} → r ≡ judgement_of (decide_notes notes) → r.number ≡ (decided D).number
unfolding decided_summaries summaries
decides D {notes} i e h f =
    ap (λ (j : Judgement). j.number) f
    ∙ ap (λ (n : Notes). (decide_notes n).number)
    (e ∙ ap (λ (as' : List Action). notes_of (map (summary_of D) as')) (take_all i D.actions h))
    ∙ ap (λ (a : Answer). a.number) (summaries_decide D)

pub number_byte : (notes : Notes) {r : Judgement} → r ≡ judgement_of (decide_notes notes) → r.number < 256
number_byte notes f = let e = ap (λ (j : Judgement). j.number) f in let b = notes_range notes in omega arith
