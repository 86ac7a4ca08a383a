-- `put_instance` meets its contract: the eight bytes, and their place. Assumes nothing.
use native.Mathlib.Omega.{arith}
use mathlib.Core.Path.{◌≡◌, sym, ap, ◌∙◌}
use mathlib.Core.List.{List}
use Prim.Native.Nat.{ℕ}
use lib.ListN.{length, take}
use Rattle.std.proofs.Common.{rules}
use Rattle.std.proofs.lemmas.Slice.{put_mid-paste}
use Rattle.literals.specs.Held.{arity_in, component_row_in}
use Rattle.store.specs.Held.{instance_bytes, instance_bytes_in}
use Rattle.store.proofs.InstanceFacts.{length_instance_at, made_bytes}
use Rattle.store.proofs.instances.put_instance.Goals as goal

pub returns : goal.returns
returns c =
    let a = c.args in
    let r = c.arity_of-arity in
    let instance : List ℕ = take 8 a.instance.now in
    let fact : List ℕ = instance_bytes r.result a.counted.0 instance (component_row_in a.head.now a.c) in
    let n = length_instance_at r.result a.counted.0 instance a.head.now a.c r.ensures.few in
    let made : c.from_fn-bytes.result ≡ fact = made_bytes _ fact c.from_fn-bytes.result n c.from_fn-bytes.ensures.items (λ i y q h k. search rules) in
    let whole : fact ≡ instance_bytes_in a.head.now a.c a.counted.0 instance =
    ap (λ (k : ℕ). instance_bytes k a.counted.0 instance (component_row_in a.head.now a.c)) (r.ensures.number ∙ ap (arity_in a.head.now) c.component_byte.ensures) in
    put_mid-paste _ _ _ _ (instance_bytes_in a.head.now a.c a.counted.0 instance) 8 (c.copy_from_slice.ensures.after ∙ made ∙ whole) (omega arith) (sym (ap length (sym whole) ∙ n))
