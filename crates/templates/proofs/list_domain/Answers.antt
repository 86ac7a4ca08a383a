-- `list_domain` meets its contract: the list is that of the domain without its template. Assumes nothing.
use native.Mathlib.Omega.{arith}
use Rattle.templates.proofs.EntryBytes.{bare_held, listing_none, made_is}
use Rattle.templates.proofs.list_domain.Goals as goal

pub put_list-requires : goal.put_list-requires
put_list-requires c = record { whole = omega arith; room = omega arith }

pub returns : goal.returns
returns c =
    record {
      few = c.put_list.ensures.few;
      bytes = λ D H wf.
          let B = bare_held H (c.clear_template.ensures D (record { says = H.says; room = omega arith })) wf in
          made_is (c.put_list.ensures.entries D _ B (listing_none D _));
    }
