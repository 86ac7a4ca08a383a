-- Ground literals that clash: the words by which they are told, and those of an event against those behind them. Assumes nothing.
use mathlib.Core.Path.{◌≡◌, refl, sym, ap, ap₂, ◌∙◌}
use mathlib.Core.Bool.{Bool, true, false, not, ◌&&◌, ◌||◌}
use mathlib.Core.List.{List, [], ◌∷◌, ◌++◌, flat_map}
use Prim.Native.Nat.{ℕ, ◌+◌, ◌≤◌, ◌<◌}
use native.Mathlib.Numerals.{add-one}
use native.Mathlib.Omega.{arith}
use lib.Dec.{eqb}
use lib.ListN.{length, get_or, set, take, drop, length-append, take-append-drop}
use lib.Seq.{take-suc, take_at, drop_at, get_or-set_same, get_or-set_other}
use borrow.Author.Tests.{eqb-true, eqb-false}
use Rattle.records.specs.Lists.{all, any}
use Rattle.records.proofs.Lists.{any_append, flat_map_append, flat_map_snoc}
use Rattle.literals.proofs.Indices.{any_agree, any_or}
use Rattle.store.specs.Held.{word_of}
use Rattle.events.specs.Held.{GroundLiteral, counts_at, ground_at, ground_in, in_one, Laid}
use Rattle.events.proofs.GroundLiterals.{length_ground, take_ground}
use Rattle.applicability.specs.Held.{clashes, literals_clash, WordsOf}

-- ---- words

-- one more
pub words_more : (memory words : List ℕ) (i w : ℕ) (row : List ℕ) → WordsOf i memory words → i < length words → row ≡ (ground_at memory i).row
    → w ≡ word_of row → WordsOf (i + 1) memory (set words i w)
words_more memory words i w row f h e g j l = go (eqb j i) refl
  where
    go : (b : Bool) → eqb j i ≡ b → get_or (set words i w) j 0 ≡ word_of (ground_at memory j).row
    go true t =
        let q = eqb-true j i t in
        ap (λ (k : ℕ). get_or (set words i w) k 0) q
        ∙ get_or-set_same words i w 0 h
        ∙ g
        ∙ ap word_of e
        ∙ ap (λ (k : ℕ). word_of (ground_at memory k).row) (sym q)
    go false t = let q = eqb-false j i t in get_or-set_other words i j w 0 q ∙ f j (omega arith)

-- ---- a part against those behind it

pub before_first : (parts : List (List GroundLiteral)) → 0 ≡ length (in_one (take 0 parts))
unfolding flat_map
before_first parts = refl

pub any_never : {A : Type 0} (l : List A) → false ≡ any (λ a. false) l
any_never [] = refl
any_never (x ∷ xs) = any_never xs

-- against one of several lists
clash_parts : (part : List GroundLiteral) (parts : List (List GroundLiteral)) → literals_clash part (in_one parts) ≡ any
    (literals_clash part) parts
unfolding flat_map
clash_parts part [] = sym (any_never part)
clash_parts part (p ∷ ps) =
    any_agree (λ (a : GroundLiteral). any (clashes a) (p ++ in_one ps)) (λ (a : GroundLiteral). any (clashes a) p || any (clashes a)
    (in_one ps)) part
    (λ a m. any_append (clashes a) p (in_one ps))
    ∙ sym (any_or (λ (a : GroundLiteral). any (clashes a) p) (λ (a : GroundLiteral). any (clashes a) (in_one ps)) part)
    ∙ ap (λ (b : Bool). literals_clash part p || b) (clash_parts part ps)

none_any : {A : Type 0} (p : A → Bool) (l : List A) → all (λ a. not (p a)) l ≡ not (any p l)
none_any p [] = refl
none_any p (x ∷ xs) = go (p x) (none_any p xs)
  where
    go : (b : Bool) → all (λ a. not (p a)) xs ≡ not (any p xs) → not b && all (λ a. not (p a)) xs ≡ not (b || any p xs)
    go true h = refl
    go false h = h

module _ {parts : List (List GroundLiteral)} {memory : List ℕ} {total : ℕ} (L : Laid parts memory total) (i : ℕ)
    (h : i < length parts) where
  split : ground_in total memory ≡ in_one (take (i + 1) parts) ++ in_one (drop (i + 1) parts)
  split =
      L.filled
      ∙ sym (ap in_one (take-append-drop (i + 1) parts))
      ∙ flat_map_append (λ (part : List GroundLiteral). part) (take (i + 1) parts) (drop (i + 1) parts)

  one_more : in_one (take (i + 1) parts) ≡ in_one (take i parts) ++ get_or parts i []
  one_more =
      ap (λ (k : ℕ). in_one (take k parts)) (add-one i)
      ∙ ap in_one (take-suc parts i [] h)
      ∙ flat_map_snoc (λ (part : List GroundLiteral). part) (take i parts) (get_or parts i [])

  module _ (from : ℕ) (e : from ≡ length (in_one (take i parts))) (n : ℕ) (f : n ≡ get_or memory (counts_at + i) 0) where
    -- where the part ends
    pub laid_end : from + n ≡ length (in_one (take (i + 1) parts))
    laid_end =
        let l = ap length one_more ∙ length-append (in_one (take i parts)) (get_or parts i []) in
        let c = f ∙ L.counted i h in
        omega arith

    pub laid_within : from + n ≤ total
    laid_within =
        let s = ap length split ∙ length-append (in_one (take (i + 1) parts)) (in_one (drop (i + 1) parts)) in
        let l = length_ground memory total in
        let z = laid_end in
        omega arith

    -- the part and what is behind it
    pub laid_clash : (r : Bool) → r ≡ literals_clash (drop from (ground_in (from + n) memory)) (drop (from + n) (ground_in total memory))
        → all (λ later. not (literals_clash (get_or parts i []) later)) (drop (i + 1) parts) ≡ not r
    laid_clash r g =
        let to : ℕ = from + n in
        let first : ground_in to memory ≡ in_one (take (i + 1) parts) =
        sym (take_ground memory to total laid_within)
        ∙ ap (take to) split
        ∙ take_at (in_one (take (i + 1) parts)) (in_one (drop (i + 1) parts)) to (sym laid_end) in
        none_any (literals_clash (get_or parts i [])) (drop (i + 1) parts)
        ∙ ap not
        (sym (g
        ∙ ap₂ literals_clash
        (ap (drop from) (first ∙ one_more) ∙ drop_at (in_one (take i parts)) (get_or parts i []) from (sym e))
        (ap (drop to) split ∙ drop_at (in_one (take (i + 1) parts)) (in_one (drop (i + 1) parts)) to (sym laid_end))
        ∙ clash_parts (get_or parts i []) (drop (i + 1) parts)))
