-- `key_word` meets its contract: what stands at the places of the keys, one by one. Assumes nothing.
use mathlib.Core.Path.{◌≡◌, ap, ◌∙◌}
use Prim.Native.Nat.{ℕ, ◌+◌, ◌-◌, ◌*◌}
use native.Mathlib.Omega.{arith}
use lib.ListN.{take, drop}
use Rattle.std.proofs.Common.{rules}
use Rattle.std.specs.List.{fold}
use Rattle.std.proofs.lemmas.Iterator.{YieldsList-from_slice}
use Rattle.literals.specs.Held.{component_row_in, argument_at, key_word}
use Rattle.literals.proofs.Heads.{part_length}
use Rattle.literals.proofs.Places.{components_few, keys_few}
use Rattle.literals.proofs.Chains.{lower, fold_from_yields, key_lowered}
use Rattle.literals.proofs.key_places.Places.key_word.Goals as goal

pub overflow_mul-start : goal.overflow_mul-start
overflow_mul-start c = let f = components_few c.args.self.now.head.now in omega arith

pub overflow_add-start : goal.overflow_add-start
overflow_add-start c = let f = components_few c.args.self.now.head.now in omega arith

pub overflow_add-start-2 : goal.overflow_add-start-2
overflow_add-start-2 c = let f = components_few c.args.self.now.head.now in let k = keys_few c.args.self.now.head.now in omega arith

pub slice_bounds-iter-end : goal.slice_bounds-iter-end
slice_bounds-iter-end c = let f = components_few c.args.self.now.head.now in let k = keys_few c.args.self.now.head.now in omega arith

pub returns : goal.returns
returns c =
    let a = c.args in
    let start = 64 + 8 * a.c in
    let f = components_few a.self.now.head.now in
    let k = keys_few a.self.now.head.now in
    let long : start + a.self.now.keys - start ≡ a.self.now.keys = omega arith in
    let e : c.fold.result ≡ fold (λ (w x : ℕ). lower w (argument_at a.rows.now a.at x)) 0 (take a.self.now.keys (drop start a.self.now.bytes)) =
    fold_from_yields (λ (w x : ℕ). lower w (argument_at a.rows.now a.at x)) _ 0 c.fold.result c.fold.ensures.ran (YieldsList-from_slice _ (c.iter.ensures.rest ∙ ap (λ (n : ℕ). take n (drop start a.self.now.bytes)) long)) (λ w x d q t. search rules) in
    e
    ∙ key_lowered a.self.now.keys a.at start (component_row_in a.self.now.head.now a.c) a.rows.now a.self.now.bytes (part_length a.self.now.head.now a.c) c.requires.row (omega arith) (omega arith)
    (λ i l. a.self.now.worked_out.keys a.c i c.requires.component (omega arith)) (λ i. omega (arith, c.type_inv.rows i))
    ∙ ap (λ (n : ℕ). key_word n (component_row_in a.self.now.head.now a.c) (take 8 (drop a.at a.rows.now))) a.self.now.counted
