-- The class numbers of all literals of a domain, action by action. Assumes nothing.
use mathlib.Core.Path.{◌≡◌, refl, sym, ap, ap₂, ◌∙◌}
use mathlib.Core.List.{List, [], ◌∷◌, ◌++◌, flat_map, append-nil, append_assoc}
use Prim.Native.Nat.{ℕ, suc, ◌+◌, ◌-◌, ◌<◌}
use native.Mathlib.Numerals.{add-one}
use native.Mathlib.Omega.{arith}
use lib.ListN.{length, get_or, take, drop, length-append, length-map, take-append-drop}
use lib.Seq.{take-suc, take_at, drop_at, drop-cons, drop-drop, drop-append-add}
use Rattle.records.specs.Memory.{over}
use Rattle.records.proofs.Lists.{flat_map_append}
use Rattle.literals.specs.Domain.{Literal, Action, Domain, no_action, action}
use Rattle.literals.specs.Held.{all_literals, SpanOf}
use Rattle.literals.specs.declared.span.Span.{Span}
use Rattle.classes.specs.Classes.{literal_tuples, classes}
use Rattle.classes.specs.Held.{class_number_by, class_numbers, numbers_of}

-- a part of a memory, written behind what is there
over_part : (xs ys old : List ℕ) (from to : ℕ) → from ≡ length xs → to ≡ length xs + length ys
    → take from (over xs old) ++ (ys ++ drop to (over xs old)) ≡ over (xs ++ ys) old
unfolding over
over_part xs ys old from to e f =
    ap₂ (λ (p q : List ℕ). p ++ (ys ++ q))
    (take_at xs (drop (length xs) old) from (sym e))
    (ap (λ (n : ℕ). drop n (xs ++ drop (length xs) old)) f ∙ drop-append-add xs (drop (length xs) old) (length ys) ∙ drop-drop (length ys) (length xs) old)
    ∙ sym (append_assoc xs ys (drop (length xs + length ys) old))
    ∙ ap (λ (n : ℕ). (xs ++ ys) ++ drop n old) (sym (length-append xs ys))

module _ (D : Domain) where
  pub numbers_count : (a : Action) → length (class_numbers D a) ≡ length a.lits
  unfolding class_numbers
  numbers_count a = length-map a.lits (λ (l : Literal). class_number_by (classes D a) (literal_tuples D l.atom))

  all_count : (as' : List Action) → length (numbers_of D as') ≡ length (all_literals as')
  unfolding numbers_of all_literals flat_map
  all_count [] = refl
  all_count (a ∷ as') = length-append (class_numbers D a) (numbers_of D as') ∙ ap₂ ◌+◌ (numbers_count a) (all_count as') ∙ sym (length-append a.lits (all_literals as'))

  next : (as' : List Action) (k : ℕ) → k < length as' → numbers_of D (take (k + 1) as') ≡ numbers_of D (take k as') ++ class_numbers D (get_or as' k no_action)
  unfolding numbers_of flat_map
  next as' k h =
      ap (λ (n : ℕ). flat_map (class_numbers D) (take n as')) (add-one k)
      ∙ ap (flat_map (class_numbers D)) (take-suc as' k no_action h)
      ∙ flat_map_append (class_numbers D) (take k as') (get_or as' k no_action ∷ [])
      ∙ ap (λ (t : List ℕ). flat_map (class_numbers D) (take k as') ++ t) (append-nil (class_numbers D (get_or as' k no_action)))

  split : (as' : List Action) (k : ℕ) → k < length as'
      → numbers_of D as' ≡ numbers_of D (take k as') ++ (class_numbers D (get_or as' k no_action) ++ numbers_of D (drop (suc k) as'))
  unfolding numbers_of flat_map
  split as' k h =
      ap (flat_map (class_numbers D)) (sym (take-append-drop k as'))
      ∙ flat_map_append (class_numbers D) (take k as') (drop k as')
      ∙ ap (λ (l : List Action). flat_map (class_numbers D) (take k as') ++ flat_map (class_numbers D) l) (drop-cons as' k no_action h)

  module _ (i : ℕ) (h : i < length D.actions) {table : List ℕ} {span : Span} (S : SpanOf D i table span) where
    from_is : span.from ≡ length (numbers_of D (take i D.actions))
    from_is = S.first ∙ sym (all_count (take i D.actions))

    to_is : span.to ≡ length (numbers_of D (take i D.actions)) + length (class_numbers D (action D i))
    to_is = let f = from_is in let s = S.size in let n = numbers_count (action D i) in omega arith

    -- the numbers of one action more
    pub numbers_more_actions : (numbers old new : List ℕ) → numbers ≡ over (numbers_of D (take i D.actions)) old → new ≡ class_numbers D (action D i)
        → take span.from numbers ++ (new ++ drop span.to numbers) ≡ over (numbers_of D (take (i + 1) D.actions)) old
    unfolding action
    numbers_more_actions numbers old new e f =
        ap₂ (λ (m n : List ℕ). take span.from m ++ (n ++ drop span.to m)) e f
        ∙ over_part (numbers_of D (take i D.actions)) (class_numbers D (action D i)) old span.from span.to from_is to_is
        ∙ ap (λ (l : List ℕ). over l old) (sym (next D.actions i h))

    -- those of an action, where all are there
    pub numbers_part : (numbers old : List ℕ) → numbers ≡ over (numbers_of D D.actions) old → take (span.to - span.from) (drop span.from numbers) ≡ class_numbers D (action D i)
    unfolding action over
    numbers_part numbers old e =
        let xs = numbers_of D (take i D.actions) in
        let ys = class_numbers D (get_or D.actions i no_action) in
        let zs = numbers_of D (drop (suc i) D.actions) in
        let rest = drop (length (numbers_of D D.actions)) old in
        let f = from_is in
        let t = to_is in
        ap (λ (l : List ℕ). take (span.to - span.from) (drop span.from l))
        (e ∙ ap (λ (l : List ℕ). l ++ rest) (split D.actions i h) ∙ append_assoc xs (ys ++ zs) rest ∙ ap (λ (l : List ℕ). xs ++ l) (append_assoc ys zs rest))
        ∙ ap (take (span.to - span.from)) (drop_at xs (ys ++ (zs ++ rest)) span.from (sym f))
        ∙ take_at ys (zs ++ rest) (span.to - span.from) (omega arith)
