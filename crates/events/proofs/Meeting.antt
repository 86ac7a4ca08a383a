-- Rows that meet: two rows without FF among their arguments meet only where they are the same, so that equality tells it.
-- Assumes nothing.
use mathlib.Core.Path.{◌≡◌, refl, sym, ap, ap₂, ◌∙◌}
use mathlib.Core.Bool.{Bool, true, false, ◌&&◌, ◌||◌}
use mathlib.Core.List.Memᴰ
use mathlib.Core.List.{List, [], ◌∷◌, ◌++◌, map}
use Prim.Native.Nat.{ℕ, ◌-◌, ◌<◌}
use native.Mathlib.Omega.{arith}
use lib.Dec.{eqb}
use lib.ListN.{length, drop, replicate, length-map}
use lib.Seq.{take_at}
use borrow.Author.Tests.{eqb-true, eq-eqb, ne_eqb}
use Rattle.records.specs.Lists.{In, any, same_list}
use Rattle.records.proofs.Lists.{and_i, clash, or_l, or_out, same_list_self}
use Rattle.literals.specs.declared.Object.{Object}
use Rattle.literals.specs.declared.Argument.{Argument}
use Rattle.literals.specs.Domain.{Atom, Fact, Domain}
use Rattle.literals.specs.Decode.{byte}
use Rattle.literals.specs.Held.{meet_byte, arity_in, HeadOf}
use Rattle.verdict.specs.Binding.{Binding}
use Rattle.verdict.specs.Judged.{object_numbers}
use Rattle.verdict.specs.Machine.{GroundAction}
use Rattle.verdict.specs.Held.{argument_byte, pattern_row, patterns_meet, fact_row}
use Rattle.events.specs.Held.{OverObjects, is_pattern}

-- ---- rows without FF among their arguments

byte_self : (a : ℕ) → meet_byte a a ≡ true
byte_self a = or_l (eqb a 255 || eqb a 255) (eq-eqb a a refl)

meet_bytes : (xs ys rest : List ℕ) → length xs ≡ length ys → any (eqb 255) xs ≡ false → any (eqb 255) ys ≡ false
    → same_list meet_byte (xs ++ rest) (ys ++ rest) ≡ same_list eqb (xs ++ rest) (ys ++ rest)
meet_bytes [] [] rest e p q = same_list_self meet_byte byte_self rest ∙ sym (same_list_self eqb (λ a. eq-eqb a a refl) rest)
meet_bytes [] (y ∷ ys) rest e p q = absurd (omega arith)
meet_bytes (x ∷ xs) [] rest e p q = absurd (omega arith)
meet_bytes (x ∷ xs) (y ∷ ys) rest e p q =
    let a = or_out (eqb 255 x) (any (eqb 255) xs) p in
    let b = or_out (eqb 255 y) (any (eqb 255) ys) q in
    ap₂ ◌&&◌ (plain a.0 b.0) (meet_bytes xs ys rest (omega arith) a.1 b.1)
  where
    other : (z : ℕ) → eqb 255 z ≡ false → eqb z 255 ≡ false
    other z f = ne_eqb z 255 (λ g. clash (eq-eqb 255 z (sym g)) f)

    plain : eqb 255 x ≡ false → eqb 255 y ≡ false → meet_byte x y ≡ eqb x y
    plain f g = ap₂ (λ (s t : Bool). eqb x y || (s || t)) (other x f) (other y g) ∙ or_none (eqb x y)
      where
        or_none : (b : Bool) → b || (false || false) ≡ b
        or_none true = refl
        or_none false = refl

-- a row meets itself
pub meets_self : (p : List ℕ) → patterns_meet p p ≡ true
meets_self p = and_i {a = eqb (byte p 0) (byte p 0)} (eq-eqb (byte p 0) (byte p 0) refl) (same_list_self meet_byte byte_self (drop 2 p))

-- a row of a literal or a fact: relation, arity, an argument's byte each, FF to fill
abbrev formed : ℕ → List ℕ → List ℕ
formed r bs = r ∷ length bs ∷ (bs ++ replicate (6 - length bs) 255)

pub record Formed (head row : List ℕ) : Type 0 where
  pub rel : ℕ
  pub bytes : List ℕ
  pub is : row ≡ formed rel bytes
  pub sized : length bytes ≡ arity_in head rel

formed_plain : (r : ℕ) (bs : List ℕ) → is_pattern (formed r bs) ≡ any (eqb 255) bs
unfolding is_pattern
formed_plain r bs = ap (any (eqb 255)) (take_at bs (replicate (6 - length bs) 255) (length bs) refl)

-- that of a literal, so bound, and that of a fact
pub formed_pattern : (head : List ℕ) (b : Binding) (p : Atom Argument) → length p.args ≡ arity_in head p.rel
    → Formed head (pattern_row b p)
unfolding pattern_row
formed_pattern head b p e =
    record {
      rel = p.rel;
      bytes = map (argument_byte b) p.args;
      is = ap (λ (n : ℕ). p.rel ∷ n ∷ (map (argument_byte b) p.args ++ replicate (6 - n) 255))
          (sym (length-map p.args (argument_byte b)));
      sized = length-map p.args (argument_byte b) ∙ e;
    }

pub formed_fact : (head : List ℕ) (f : Fact) → length f.args ≡ arity_in head f.rel → Formed head (fact_row f)
formed_fact head f e =
    record {
      rel = f.rel;
      bytes = object_numbers f.args;
      is = ap (λ (n : ℕ). f.rel ∷ n ∷ (object_numbers f.args ++ replicate (6 - n) 255))
          (sym (length-map f.args (λ (o : Object). o.0)));
      sized = length-map f.args (λ (o : Object). o.0) ∙ e;
    }

-- of one domain, so that a relation has one arity
pub meet_same : (head p q : List ℕ) → Formed head p → Formed head q → is_pattern p ≡ false → is_pattern q ≡ false
    → patterns_meet p q ≡ same_list eqb p q
meet_same head p q P Q f g =
    ap₂ patterns_meet P.is Q.is
    ∙ go (eqb P.rel Q.rel) refl
    ∙ sym (ap₂ (same_list eqb) P.is Q.is)
  where
    none_p : any (eqb 255) P.bytes ≡ false
    none_p = sym (formed_plain P.rel P.bytes) ∙ ap is_pattern (sym P.is) ∙ f

    none_q : any (eqb 255) Q.bytes ≡ false
    none_q = sym (formed_plain Q.rel Q.bytes) ∙ ap is_pattern (sym Q.is) ∙ g

    xs : List ℕ
    xs = P.bytes ++ replicate (6 - length P.bytes) 255

    ys : List ℕ
    ys = Q.bytes ++ replicate (6 - length Q.bytes) 255

    go : (b : Bool) → eqb P.rel Q.rel ≡ b
        → b && same_list meet_byte xs ys ≡ b && (eqb (length P.bytes) (length Q.bytes) && same_list eqb xs ys)
    go false e = refl
    go true e =
        let n : length P.bytes ≡ length Q.bytes =
        P.sized ∙ ap (arity_in head) (eqb-true P.rel Q.rel e) ∙ sym Q.sized in
        let fill : ys ≡ Q.bytes ++ replicate (6 - length P.bytes) 255 =
        ap (λ (k : ℕ). Q.bytes ++ replicate (6 - k) 255) (sym n) in
        ap (same_list meet_byte xs) fill
        ∙ meet_bytes P.bytes Q.bytes (replicate (6 - length P.bytes) 255) n none_p none_q
        ∙ ap (same_list eqb xs) (sym fill)
        ∙ sym (ap (λ (b : Bool). b && same_list eqb xs ys) (eq-eqb (length P.bytes) (length Q.bytes) n))

-- the row of a fact whose objects are below FF is none
pub fact_plain : (f : Fact) → ((o : Object) → In o f.args → o.0 < 255) → is_pattern (fact_row f) ≡ false
unfolding is_pattern
fact_plain f low =
    ap (any (eqb 255))
    (take_at (object_numbers f.args) (replicate (6 - length f.args) 255) (length f.args) (length-map f.args (λ (o : Object). o.0)))
    ∙ none f.args low
  where
    none : (os : List Object) → ((o : Object) → In o os → o.0 < 255) → any (eqb 255) (object_numbers os) ≡ false
    none [] h = refl
    none (o ∷ os) h =
        let l = h o (Memᴰ.head refl) in
        ap₂ ◌||◌ (ne_eqb 255 o.0 (λ e. omega arith)) (none os (λ q m. h q (Memᴰ.tail m)))

-- so a row that is no pattern meets a fact over the chosen objects only where it is the fact's
pub chosen_meets : {D : Domain} {head : List ℕ} → HeadOf D head → {objs : List Object} {fs : List Fact} {gs : List GroundAction}
    → OverObjects D objs fs gs → {p : List ℕ} → Formed head p → is_pattern p ≡ false → (f : Fact) → In f fs
    → patterns_meet p (fact_row f) ≡ same_list eqb p (fact_row f)
chosen_meets {D} {head} H C {p} P k f m =
    meet_same head p (fact_row f) P (formed_fact head f ((C.facts f m).sized ∙ sym (H.arities f.rel))) k
    (fact_plain f (λ o i. C.low o ((C.facts f m).over o i)))
