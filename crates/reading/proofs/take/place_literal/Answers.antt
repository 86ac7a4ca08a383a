-- `place_literal` meets its contract. Assumes nothing.
use mathlib.Core.Path.{◌≡◌, refl}
use native.Mathlib.Omega.{arith}
use Rattle.std.specs.Prelude.{Err}
use Rattle.std.proofs.Common.{rules}
use Rattle.literals.specs.Held.{row_of}
use Rattle.literals.proofs.Refusals.{fault_some}
use Rattle.reading.proofs.take.place_literal.Goals as goal

pub rows_stop-requires : goal.rows_stop-requires
rows_stop-requires c = record { order = omega arith; table = omega arith; long = omega arith; short = omega arith; word = c.row_word-word.ensures }

pub returns-in_err-rows_stop : goal.returns-in_err-rows_stop
returns-in_err-rows_stop c =
    let told : c.from_residual.result ≡ Err c.in_err-rows_stop.field-0.0 = search rules in
    rw told
    (record {
      number = c.in_err-rows_stop.ensures;
      stopped = λ n. (refl, refl);
      added = λ e. absurd (fault_some _ e);
      written = λ e. absurd (fault_some _ e);
    })

pub returns : goal.returns
returns c =
    record {
      number = c.in_ok-rows_stop.ensures;
      stopped = λ n. absurd (n refl);
      added = λ e. c.add_literal.ensures c.args.p.now c.requires.every;
      written = λ e. c.put_word.ensures (row_of c.args.p.now) c.row_word-word.ensures;
    }
