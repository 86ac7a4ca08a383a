-- `serve` meets its contract: the file's refusal, or what is made of its domain. Assumes nothing.
use mathlib.Core.Path.{refl, sym, subst, ◌∙◌}
use mathlib.Core.Logic.{inl}
use mathlib.Core.List.{List}
use Prim.Native.Nat.{ℕ}
use native.Mathlib.Omega.{arith}
use lib.ListN.{length-replicate}
use lib.Seq.{length-take-le}
use Rattle.reading.proofs.Domains.{opened, refusal_is}
use Rattle.verdict.proofs.Decodes.{decoded_well_formed}
use Rattle.services.specs.Service.{DeliveredAs}
use Rattle.services.proofs.Answers.{answers_refused, answers_read}
use Rattle.services.proofs.serve.Goals as goal

pub read_domain-requires : goal.read_domain-requires
read_domain-requires g c = record { cleared = refl; enough = inl (omega arith) }

pub returns-in-Err : goal.returns-in-Err
returns-in-Err g c bytes_of h =
    let f = c.args.file.now in
    let all = answers_refused bytes_of f c.args.out.now _ (refusal_is f _ _ _ c.in-Err.ensures.answer) in
    record { numbered = c.number.ensures ∙ all.numbered; placed = all.placed; memory = all.memory }

pub whole_as_slice-made : goal.whole_as_slice-made
whole_as_slice-made g c = let m = c.requires.memory in omega arith

pub make-size-requires : goal.make-size-requires
make-size-requires g c =
    let f = c.args.file.now in
    let o = opened f _ _ c.in_default.ensures.answer in
    c.requires.callable o.said _ _ _ o.held (decoded_well_formed f o.said o.decoded) (length-replicate g.row.N 0)

pub slice_bounds-deliver-end : goal.slice_bounds-deliver-end
slice_bounds-deliver-end g c =
    let few = c.requires.few _ _ _ _ _ c.make-size.ensures in
    let long = c.make-size.auto.arg4 ∙ length-replicate g.row.N 0 in
    sym (length-take-le c.make-size.result c.make-size.new.arg4 (omega arith))

pub returns : goal.returns
returns g c bytes_of made =
    let f = c.args.file.now in
    let o = opened f _ _ c.in_default.ensures.answer in
    let bytes = made o.said _ _ _ _ _ o.held (decoded_well_formed f o.said o.decoded) c.make-size.ensures in
    answers_read bytes_of f c.args.out.now o.said o.decoded
    (subst (λ (b : List ℕ). DeliveredAs b c.args.out.now c.deliver.result c.deliver.new.first c.deliver.new.out) bytes c.deliver.ensures)
