-- `NumberedAction::name_classes` meets its contract: each class by the usages of both moments. Assumes nothing.
use mathlib.Core.Bool.{true}
use mathlib.Core.Path.{refl, ap, ◌∙◌}
use Rattle.records.proofs.Lists.{clash}
use Rattle.literals.specs.Held.{pad}
use Rattle.literals.specs.declared.Moment.TheVariants.{End}
use Rattle.classes.proofs.Usages.{usages_held}
use Rattle.classes.proofs.Soles.{start_soles, end_soles, asked_soles}
use Rattle.naming.proofs.NamedRows.{reach_is}
use Rattle.naming.proofs.NumberedAction.name_classes.Goals as goal
use Rattle.naming.proofs.NumberedAction.name_classes.Goals.{then-self, else-self}

pub name_each-requires-clause-first : goal.name_each-requires-clause-first
name_each-requires-clause-first c = let a = c.args in start_soles a.rows.now a.numbers.now _ _ (c.note_soles.ensures refl) (c.usages_at.ensures.bytes refl)

pub name_each-requires-clause-last : goal.name_each-requires-clause-last
name_each-requires-clause-last c l k h =
    let a = c.args in
    elim c.if-self.branch [
      | then-self w ↦ rw w.at_end-is (end_soles a.rows.now a.numbers.now _ _ (c.note_soles.ensures refl) (w.usages_at-then-self.ensures.bytes refl) k h)
      | else-self w ↦ absurd (clash l w.if-self.false)
    ]

pub returns-clause-named : goal.returns-clause-named
returns-clause-named c before old D a i N A t f g =
    let b = c.args in
    let soles = c.note_soles.ensures refl in
    c.name_each.ensures.named before old D a i N (record {
      whole = A;
      numbers_are = f;
      usages_are = c.usages_at.ensures.usages D a _ A refl;
    }) t
    (λ l. elim c.if-self.branch [
      | then-self w ↦ rw w.at_end-is (record {
        own = record {
          whole = A;
          numbers_are = f;
          usages_are = w.usages_at-then-self.ensures.usages D a _ A refl;
        };
        reaches = λ j h. asked_soles b.rows.now b.numbers.now _ _ soles refl j h
            ∙ reach_is D a f (ap (pad 64) (usages_held true End b.rows.now _ A.says.bounded A.listed A.apart A.literals c.requires.rowed)) j;
      })
      | else-self w ↦ absurd (clash l w.if-self.false)
    ]) g
