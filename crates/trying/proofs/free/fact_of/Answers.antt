-- `fact_of` meets its contract: the fact takes the place of all eight bytes. Assumes nothing.
use mathlib.Core.Path.{refl}
use lib.ListN.{replicate}
use Rattle.trying.proofs.Loops.{instance_put}
use Rattle.trying.proofs.free.fact_of.Goals as goal

pub returns : goal.returns
returns c =
    let a = c.args in
    let put = c.put_instance in
    instance_put a.head.now a.c a.object.0 a.instance.now (replicate 8 255) put.new.out c.requires.instance refl put.ensures
