-- `put_entry` meets its contract. Assumes nothing.
use mathlib.Core.Path.{◌≡◌, refl, sym, ap, ◌∙◌}
use Rattle.std.proofs.Common.{rules}
use mathlib.Core.List.{◌∷◌, []}
use Prim.Native.Nat.{◌+◌}
use native.Mathlib.Omega.{arith}
use lib.ListN.{take}
use Rattle.std.proofs.lemmas.Slice.{put_mid-paste}
use Rattle.reading.proofs.Takes.{stopped, passed}
use Rattle.templates.specs.Templates.{single, component_at, shape, place_byte}
use Rattle.templates.proofs.EntryBytes.{listing_passed, listing_more, refused_entry, taken_entry, taken_held, taken_formed, entry_is}
use Rattle.templates.proofs.entries.put_entry.Goals as goal

pub returns-then-is_err : goal.returns-then-is_err
returns-then-is_err c =
    record {
      few = omega arith;
      entry = λ D ss old B h P L.
          let a = c.args in
          listing_passed D ss (shape a.relation a.counted) L
          (refused_entry B a.relation a.counted P (c.from-size.ensures ∙ c.arity_of.ensures.number) (ap (take (c.from-size.result + 1)) c.payload_of-payload.ensures)
          c.take_component.ensures.number (stopped _ (sym c.is_err.ensures.value ∙ c.if-is_err.true)));
    }

pub returns : goal.returns
returns c =
    record {
      few = omega arith;
      entry = λ D ss old B h P L.
          let a = c.args in
          let r = a.relation in
          let o = a.counted in
          let e = c.from-size.ensures ∙ c.arity_of.ensures.number in
          let q = ap (take (c.from-size.result + 1)) c.payload_of-payload.ensures in
          let T = c.take_component.ensures.number in
          let z = passed _ (sym c.is_err.ensures.value ∙ c.if-is_err.false) in
          let v = c.decide_alone-verdict.ensures.number (single D (component_at D (shape r o))) (taken_held B r o P e q T z) (taken_formed B r o P e q T z) refl in
          let b : c.unwrap_or-place.result ≡ place_byte o = search rules in
          listing_more D ss (shape r o) L (taken_entry B r o P e q T z) r c.unwrap_or-place.result c.decide_alone-verdict.result
          (entry_is D r o c.unwrap_or-place.result c.decide_alone-verdict.result b v)
          (put_mid-paste a.at _ a.list.now c.copy_from_slice.new.self (r ∷ c.unwrap_or-place.result ∷ c.decide_alone-verdict.result ∷ []) 3
          c.copy_from_slice.ensures.after (omega arith) refl);
    }
