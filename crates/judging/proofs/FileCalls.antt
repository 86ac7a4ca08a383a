-- The call of judging, on a file: what is left where it is refused and where it is read. Assumes nothing.
use mathlib.Core.Path.{◌≡◌, refl, sym, subst}
use mathlib.Core.List.{List}
use Prim.Native.Nat.{ℕ}
use Rattle.literals.specs.Domain.{Domain}
use Rattle.literals.specs.Decode.{Refusal, Decoded, refused, domain, decode}
use Rattle.verdict.specs.declared.Judgement.{Judgement}
use Rattle.verdict.specs.Judged.{answer_refusal, judged, report_after, witness_after}
use Rattle.verdict.specs.Held.{judgement_of}
use Rattle.judging.specs.Held.{JudgedAs}

module _ {d : Decoded} {report wit : List ℕ} {q : Judgement} where
  pub leaves_refused : (x : Refusal) → d ≡ refused x → q ≡ judgement_of (answer_refusal x) → JudgedAs d report wit q report wit
  leaves_refused x e h = subst (λ (b : Decoded). JudgedAs b report wit q report wit) (sym e) (record { answer = h; reported = refl; witnessed = refl })

  pub leaves_read : {report₁ wit₁ : List ℕ} (D : Domain) → d ≡ domain D → JudgedAs (domain D) report wit q report₁ wit₁ → JudgedAs d report wit q report₁ wit₁
  leaves_read {report₁} {wit₁} D e h = subst (λ (b : Decoded). JudgedAs b report wit q report₁ wit₁) (sym e) h

-- in the words of the call
module _ (f : List ℕ) {report wit : List ℕ} {q : Judgement} {report₁ wit₁ : List ℕ} (J : JudgedAs (decode f) report wit q report₁ wit₁) where
  pub answer_is : q ≡ judgement_of (judged f report wit)
  unfolding judged
  answer_is = J.answer

  pub report_is : report₁ ≡ report_after f report wit
  unfolding report_after
  report_is = J.reported

  pub witness_is : wit₁ ≡ witness_after f report wit
  unfolding witness_after
  witness_is = J.witnessed
