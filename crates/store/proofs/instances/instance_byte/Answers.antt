-- `instance_byte` meets its contract: the objects, and what fills the row. Assumes nothing.
use Prim.Native.Nat.{ℕ}
use native.Mathlib.Omega.{arith}
use lib.ListN.{take}
use mathlib.Core.Path.{ap, ◌∙◌}
use mathlib.Core.List.{List}
use Rattle.literals.specs.declared.Object.{Object}
use Rattle.literals.specs.Decode.{label_of}
use Rattle.store.specs.Held.{object_at}
use Rattle.store.proofs.InstanceFacts.{instance_object, instance_fill}
use Rattle.store.proofs.instances.instance_byte.Goals as goal

pub returns-in_default : goal.returns-in_default
returns-in_default c =
    let a = c.args in
    let o = c.object_under in
    let b : List ℕ = take 8 a.instance.now in
    instance_object a.arity a.counted.0 b a.head.now a.c
    c.requires.arity a.i o.result.0
    (λ e. omega arith) (λ e. omega arith) (omega arith)
    (ap (λ (o : Object). o.0)
    (o.ensures
    ∙ ap (object_at a.counted b) (c.from-label.ensures ∙ ap label_of c.component_byte-in_default.ensures)))

pub returns-in_default-2 : goal.returns-in_default-2
returns-in_default-2 c =
    let a = c.args in
    instance_fill a.arity a.counted.0 (take 8 a.instance.now) a.head.now a.c
    c.requires.arity a.i (omega arith) (λ e. omega arith) (λ e. omega arith) (omega arith)
