-- What reading a file tells whoever asked. Assumes nothing.
use mathlib.Core.Path.{◌≡◌, refl, sym, ap, ◌∙◌}
use Rattle.std.specs.Prelude.{Ok, Err, ⊤}
use mathlib.Core.List.{List}
use Prim.Native.Nat.{ℕ}
use lib.ListN.{length}
use Rattle.literals.specs.Domain.{Domain}
use Rattle.literals.specs.Decode.{Decoded, refused, domain, decode}
use Rattle.literals.specs.Held.{Held, head_bytes}
use Rattle.reading.specs.declared.Refusal.{Refusal as FileRefusal}
use Rattle.reading.specs.Held.{ReadAs, refusal_of}

-- the domain of a file that was read, and the memories that hold it
pub record Opened (f head table : List ℕ) : Type 0 where
  pub said : Domain
  pub decoded : decode f ≡ domain said
  pub held : Held said head table
  pub whole : length head ≡ head_bytes

module _ (f : List ℕ) (head table : List ℕ) where
  pub opened : {u : ⊤} → ReadAs (decode f) (Ok u) head table → Opened f head table
  opened e = go (decode f) refl e
    where
      go : (d : Decoded) → {u : ⊤} → decode f ≡ d → ReadAs d (Ok u) head table → Opened f head table
      go (refused x) q y = absurd y
      go (domain D) q y = record { said = D; decoded = q; held = y.0; whole = y.1 }

  pub refusal_is : (r : FileRefusal) → ReadAs (decode f) (Err r) head table → decode f ≡ refused (refusal_of r)
  refusal_is r e = go (decode f) refl e
    where
      go : (d : Decoded) → decode f ≡ d → ReadAs d (Err r) head table → decode f ≡ refused (refusal_of r)
      go (refused x) q y = q ∙ ap refused (sym y)
      go (domain D) q y = absurd y
