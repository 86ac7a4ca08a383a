-- `entry_met` meets its contract: what the entry's action asks over all. Assumes nothing.
use mathlib.Core.Path.{refl, sym, ap₂, subst, ◌∙◌}
use mathlib.Core.List.Memᴰ
use mathlib.Core.List.{List}
use Prim.Native.Nat.{ℕ}
use Rattle.records.specs.Lists.{all}
use Rattle.literals.specs.declared.Time.TheVariants.{OverAll}
use Rattle.literals.specs.Held.{rows_in}
use Rattle.store.specs.Held.{Indexed}
use Rattle.events.specs.Held.{GroundLiteral, ground_literals, EachSized}
use Rattle.events.proofs.GroundLiterals.{ground_sized, ground_of_lem, formed_of}
use Rattle.applicability.specs.Held.{condition_met, MeetSame}
use Rattle.applicability.proofs.Forbidden.{rows_same}
use Rattle.applicability.proofs.Asked.{entry_asks}
use Rattle.applicability.proofs.conditions.entry_met.Goals as goal

pub returns : goal.returns
returns c D g fs L F r f I objs C =
    let back8 = c in
    let a = back8.args in
    let e = c.ground_action-count.ensures.literals D g L F (c.ground_at.ensures ∙ r) in
    c.conditions_met.ensures a.head.now (subst (Indexed a.head.now a.facts.now.index.now) (sym f) I)
    (subst (EachSized a.head.now) (sym e) (ground_sized L.says OverAll g F))
    (subst (λ (ls : List GroundLiteral). MeetSame ls (rows_in a.facts.now.count a.facts.now.work.now)) (sym e)
    (rows_same L.says C (rows_in a.facts.now.count a.facts.now.work.now) f (ground_literals D OverAll g)
    (λ l m. formed_of L.says g F (ground_of_lem D OverAll g l m))))
    ∙ ap₂ (λ (x : List (List ℕ)) (l : List GroundLiteral). all (condition_met x) l) f e
    ∙ entry_asks L.says C g F (Memᴰ.head refl)
