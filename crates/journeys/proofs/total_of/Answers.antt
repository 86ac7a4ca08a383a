-- `total_of` meets its contract: the weight, and the open journeys. Assumes nothing.
use mathlib.Core.Path.{sym, ap, ap₂, ◌∙◌}
use native.Mathlib.Omega.{arith}
use lib.ListN.{length-map}
use Rattle.literals.specs.Domain.{object}
use Rattle.literals.specs.Held.{row_of, keys_in, component_rows_in}
use Rattle.literals.proofs.Heads.{template_of}
use Rattle.run_semantics.specs.Track.{instance_of}
use Rattle.store.specs.Held.{row_weight}
use Rattle.store.proofs.InstanceRows.{weight_is}
use Rattle.events.proofs.FactRows.{open_count}
use Rattle.journeys.proofs.Belonging.{no_total, weight_few, numbers_back, total_is}
use Rattle.journeys.proofs.total_of.Goals as goal

pub returns-then-opened-gt-MAX_RUNNING : goal.returns-then-opened-gt-MAX_RUNNING
returns-then-opened-gt-MAX_RUNNING c D s H wf r F o G few = let n = open_count s.running _ o in let t = c.if-opened-gt-MAX_RUNNING.true in absurd (omega arith)

pub returns-then-instance-keys_in : goal.returns-then-instance-keys_in
returns-then-instance-keys_in c D s H wf r F o G few =
    no_total D H.says.bounded wf (instance_of c.args.instance.now)
    (λ e. c.if-instance-keys_in.true (sym (length-map c.args.instance.now object) ∙ e ∙ sym
    H.says.keys ∙ sym c.keys_in.ensures.number)) s G

pub instance_row-row-requires : goal.instance_row-row-requires
instance_row-row-requires c = let k = c.keys_in.ensures.few in let t = c.if-instance-keys_in.false in omega arith

pub overflow_add-result : goal.overflow_add-result
overflow_add-result c =
    let back8 = c in
    let weigh = c.weigh-weight in
    let a = back8.args in
    let w = weight_few (keys_in a.head.now) (component_rows_in a.head.now) a.work.now a.facts _ weigh.result
    weigh.ensures in
    let j = c.open_journeys.ensures.few in
    let f = back8.requires.few in
    let n = c.if-opened-gt-MAX_RUNNING.false in
    omega arith

pub returns : goal.returns
returns c D s H wf r F o G few =
    let back8 = c in
    let weigh = c.weigh-weight in
    let a = back8.args in
    let y = instance_of a.instance.now in
    let re = c.instance_row-row.ensures ∙ ap row_of (sym (numbers_back a.instance.now)) in
    let l = length-map a.instance.now object ∙ c.if-instance-keys_in.false
    ∙ c.keys_in.ensures.number ∙ H.says.keys in
    total_is D y s weigh.result c.open_journeys.result
    (weigh.ensures ∙ ap₂ (row_weight (keys_in a.head.now) (component_rows_in a.head.now)) r re
    ∙ weight_is (template_of H.says) y l s.facts F)
    (c.open_journeys.ensures.counts D s.running y H wf G o l re)
