-- What a service answers and leaves, by cases. Assumes nothing.
use mathlib.Core.Path.{◌≡◌, sym, ap, ◌∙◌}
use mathlib.Core.Bool.{cond}
use mathlib.Core.List.{List}
use Prim.Native.Nat.{ℕ, ◌≤◌, ◌<◌}
use lib.ListN.{length}
use borrow.Author.Tests.{lt-ltb, le-ltb}
use Rattle.records.specs.Memory.{over}
use Rattle.literals.specs.Domain.{Domain}
use Rattle.literals.specs.Decode.{Refusal, refused, domain, decode}
use Rattle.verdict.specs.Judged.{Answer, answer_at, answer_refusal}
use Rattle.services.specs.Service.{delivered, delivered_to, DeliveredAs, served, served_by, served_after, served_memory_by, ServedAs}

-- ---- once the bytes are made

module _ (bytes out : List ℕ) where
  pub delivers_short : length out < length bytes → (delivered bytes out ≡ answer_at 30 0) × (delivered_to bytes out ≡ out)
  delivers_short h =
      let t = lt-ltb (length out) (length bytes) h in
      (ap (λ b. cond b (answer_at 30 0) (answer_at 0 (length bytes))) t, ap (λ b. cond b out (over bytes out)) t)

  pub delivers : length bytes ≤ length out → (delivered bytes out ≡ answer_at 0 (length bytes)) × (delivered_to bytes out ≡ over bytes out)
  delivers h =
      let t = le-ltb (length out) (length bytes) h in
      (ap (λ b. cond b (answer_at 30 0) (answer_at 0 (length bytes))) t, ap (λ b. cond b out (over bytes out)) t)

-- ---- on a file

module _ (bytes_of : Domain → List ℕ) (f out : List ℕ) where
  -- the file's refusal comes first, and nothing is written
  pub served_refused : (r : Refusal) → decode f ≡ refused r → (served bytes_of f out ≡ answer_refusal r) × (served_after bytes_of f out ≡ out)
  unfolding served served_after
  served_refused r e = (ap (λ d. served_by bytes_of d out) e, ap (λ d. served_memory_by bytes_of d out) e)

  module _ (D : Domain) (e : decode f ≡ domain D) where
    -- of a file that reads: by the bytes made for its domain
    pub served_read : (served bytes_of f out ≡ delivered (bytes_of D) out) × (served_after bytes_of f out ≡ delivered_to (bytes_of D) out)
    unfolding served served_after
    served_read = (ap (λ d. served_by bytes_of d out) e, ap (λ d. served_memory_by bytes_of d out) e)

    -- short memory
    pub served_short : length out < length (bytes_of D) → (served bytes_of f out ≡ answer_at 30 0) × (served_after bytes_of f out ≡ out)
    served_short h = (served_read.0 ∙ (delivers_short (bytes_of D) out h).0, served_read.1 ∙ (delivers_short (bytes_of D) out h).1)

    -- memory enough
    pub served_done : length (bytes_of D) ≤ length out
        → (served bytes_of f out ≡ answer_at 0 (length (bytes_of D))) × (served_after bytes_of f out ≡ over (bytes_of D) out)
    served_done h = (served_read.0 ∙ (delivers (bytes_of D) out h).0, served_read.1 ∙ (delivers (bytes_of D) out h).1)

-- as the code answers: the number, the first place, the memory afterwards
module _ (bytes_of : Domain → List ℕ) (f out : List ℕ) where
  pub answers_refused : (r : Refusal) → decode f ≡ refused r → ServedAs bytes_of f out r.number r.place out
  answers_refused r e =
      let s = served_refused bytes_of f out r e in
      record { numbered = sym (ap (λ (a : Answer). a.number) s.0); placed = sym (ap (λ (a : Answer). a.first) s.0); memory = sym s.1 }

  pub answers_read : (D : Domain) → decode f ≡ domain D → {n k : ℕ} {after : List ℕ} → DeliveredAs (bytes_of D) out n k after
      → ServedAs bytes_of f out n k after
  answers_read D e d =
      let s = served_read bytes_of f out D e in
      record {
        numbered = d.numbered ∙ sym (ap (λ (a : Answer). a.number) s.0);
        placed = d.placed ∙ sym (ap (λ (a : Answer). a.first) s.0);
        memory = d.memory ∙ sym s.1;
      }
