-- Arguments as bytes: FF, and which meet. Assumes nothing.
use mathlib.Core.Path.{◌≡◌, refl, sym, ap, ap₂, ◌∙◌}
use mathlib.Core.Bool.{Bool, true, false, ◌&&◌, ◌||◌, not, cond, false≢true}
use mathlib.Core.Logic.{◌⊎◌, inl, inr}
use mathlib.Core.List.Memᴰ
use mathlib.Core.List.{List, [], ◌∷◌, ◌++◌, map}
use Prim.Native.Nat.{ℕ, ◌<◌}
use native.Mathlib.Omega.{arith}
use lib.Dec.{eqb, ltb, leb}
use lib.ListN.{length, drop, replicate}
use borrow.Author.Tests.{eqb-true, ne_eqb, le-leb}
use Rattle.std.specs.List.{count_by as library_count}
use Rattle.records.specs.Lists.{In, count_by, same_list}
use Rattle.records.proofs.Chains.{count_is}
use Rattle.records.proofs.Lists.{or_l, or_cases, not_true, clash, eqb_same, eqb_comm, same_list_self, count_map}
use Rattle.literals.specs.declared.Variable.{Variable}
use Rattle.literals.specs.declared.Argument.{Argument}
use Rattle.literals.specs.declared.Argument.TheVariants.{Variable as bound, Every}
use Rattle.literals.specs.declared.Label.{Label}
use Rattle.literals.specs.declared.Label.TheVariants.{Key as keyed, Counted}
use Rattle.literals.specs.Domain.{variable, key, same_argument, meet_argument, is_every, variable_below, variables_of, Atom, meets, role_of}
use Rattle.literals.specs.Domain.{may_clear, clears_once, Component, is_counted, keys_bound, keeps_keys}
use Rattle.literals.specs.Decode.{byte, argument_of, literal_of, no_variable, label_of}
use Rattle.literals.specs.Held.{key_beside, argument_number, meet_byte}

pub or_false : (a : Bool) → a || false ≡ a
or_false true = refl
or_false false = refl

pub or_true : (a : Bool) → a || true ≡ true
or_true true = refl
or_true false = refl

-- ---- arguments

pub variables_append : (us vs : List Argument) → variables_of (us ++ vs) ≡ variables_of us ++ variables_of vs
variables_append [] vs = refl
variables_append (bound u ∷ us) vs = ap {B = List Variable} (λ l. u ∷ l) (variables_append us vs)
variables_append (Every ∷ us) vs = variables_append us vs

bound_inj : {v w : Variable} → ◌≡◌ {A = Argument} (bound v) (bound w) → v ≡ w
bound_inj {v} {w} e = ap (λ (a : Argument). the a) e
  where
    the : Argument → Variable
    the (bound u) = u
    the Every = v

pub in_variables : (as' : List Argument) {v : Variable} → In (bound v) as' → In v (variables_of as')
in_variables (bound w ∷ as') (Memᴰ.head e) = Memᴰ.head (bound_inj e)
in_variables (bound w ∷ as') (Memᴰ.tail m) = Memᴰ.tail (in_variables as' m)
in_variables (Every ∷ as') (Memᴰ.head e) = absurd (false≢true (ap is_every e))
in_variables (Every ∷ as') (Memᴰ.tail m) = in_variables as' m
in_variables [] m = absurd (Memᴰ.not-nil m)

-- the component of a literal's relation has no key at FF
pub keys_bound_lem : (c : Component) (p : Atom Argument) → eqb c.rel p.rel ≡ true → keeps_keys c p ≡ true → keys_bound c.labels p.args
    ≡ true
keys_bound_lem c p e h = go (or_cases (not (eqb c.rel p.rel)) _ h)
  where
    go : (not (eqb c.rel p.rel) ≡ true) ⊎ (keys_bound c.labels p.args ≡ true) → keys_bound c.labels p.args ≡ true
    go (inl k) = absurd (clash e (not_true _ k))
    go (inr k) = k

-- ---- bytes of arguments

-- a byte is the number of its argument
pub argument_back : (b : ℕ) → argument_number (argument_of b) ≡ b
argument_back b = go (eqb b 255) refl
  where
    go : (t : Bool) → eqb b 255 ≡ t → argument_number (cond t Every (bound (variable b))) ≡ b
    go true e = sym (eqb-true b 255 e)
    go false e = refl

every_byte : (b : ℕ) → is_every (argument_of b) ≡ eqb 255 b
every_byte b = go (eqb b 255) ∙ eqb_comm b 255
  where
    go : (t : Bool) → is_every (cond t Every (bound (variable b))) ≡ t
    go true = refl
    go false = refl

pub counted_label : (b : ℕ) → is_counted (label_of b) ≡ eqb b 255
counted_label b = go (eqb b 255)
  where
    go : (t : Bool) → is_counted (cond t Counted (keyed (key b))) ≡ t
    go true = refl
    go false = refl

-- whether a label may stand beside an argument, by their bytes
pub beside_bytes : (b a : ℕ) {l : Label} {v : Argument} {r : Bool} → l ≡ label_of b → v ≡ argument_of a → r ≡ (is_counted l || not (is_every v))
    → key_beside b a ≡ r
beside_bytes b a e f g =
    sym (g ∙ ap₂ (λ (l : Label) (v : Argument). is_counted l || not (is_every v)) e f
    ∙ ap₂ (λ (s t : Bool). s || not t) (counted_label b) (every_byte a ∙ eqb_comm 255 a))

-- "18 variable": of a byte
pub variable_byte : (vars b : ℕ) → no_variable vars b ≡ not (eqb b 255 || ltb b vars)
variable_byte vars b = go (eqb b 255)
  where
    go : (t : Bool) → not (variable_below vars (cond t Every (bound (variable b)))) ≡ not (t || ltb b vars)
    go true = refl
    go false = refl

-- "26": of a payload
pub clears_bytes : (p : List ℕ) → clears_once (literal_of p) ≡ leb (count_by (eqb 255) (drop 2 p))
    (cond (may_clear (role_of (byte p 0)).usage) 1 0)
clears_bytes p =
    ap (λ (n : ℕ). leb n (cond (may_clear (role_of (byte p 0)).usage) 1 0)) (count_map argument_of is_every (eqb 255) every_byte (drop 2 p))

-- of how many arguments are FF
module _ (p : List ℕ) {n : ℕ} (e : n ≡ count_by (eqb 255) (drop 2 p)) where
  pub clears_none : n ≡ 0 → true ≡ clears_once (literal_of p)
  clears_none z = rw (clears_bytes p, ← e, z) (sym (le-leb 0 (cond (may_clear (role_of (byte p 0)).usage) 1 0) (omega arith)))

-- how many arguments are FF, against how many may be
pub clears_told : (p : List ℕ) {n most : ℕ} {may : Bool} → n ≡ library_count (eqb 255) (drop 2 p) → may ≡ may_clear (role_of (byte p 0)).usage
    → most ≡ cond may 1 0 → leb n most ≡ clears_once (literal_of p)
clears_told p e f g =
    ap₂ leb (e ∙ sym (count_is (eqb 255) (drop 2 p))) (g ∙ ap (λ (b : Bool). cond b 1 0) f) ∙ sym (clears_bytes p)

-- without FF, the numbers of arguments are those of their variables
pub plain_numbers : (vs : List Argument) → count_by is_every vs ≡ 0 → map argument_number vs ≡ map (λ (v : Variable). v.0) (variables_of vs)
plain_numbers [] h = refl
plain_numbers (bound v ∷ vs) h = ap {B = List ℕ} (λ l. v.0 ∷ l) (plain_numbers vs h)
plain_numbers (Every ∷ vs) h = absurd (omega arith)

-- ---- equality of arguments, by their numbers

-- an argument whose number is FF only where it is FF
abbrev pub Small : List Argument → Type 0
Small vs = (v : Variable) → In v (variables_of vs) → v.0 < 255

pub same_arguments : (us vs : List Argument) → length us ≡ length vs → Small us → Small vs → (m : ℕ)
    → same_list eqb (map argument_number us ++ replicate m 255) (map argument_number vs ++ replicate m 255) ≡ same_list same_argument us vs
same_arguments [] [] e h g m = same_list_self eqb eqb_same (replicate m 255)
same_arguments [] (v ∷ vs) e h g m = absurd (omega arith)
same_arguments (u ∷ us) [] e h g m = absurd (omega arith)
same_arguments (bound u ∷ us) (bound v ∷ vs) e h g m =
    ap (λ (t : Bool). eqb u.0 v.0 && t)
    (same_arguments us vs (omega arith) (λ w i. h w (Memᴰ.tail i)) (λ w i. g w (Memᴰ.tail i)) m)
same_arguments (bound u ∷ us) (Every ∷ vs) e h g m = let k = h u (Memᴰ.head refl) in rw (ne_eqb u.0 255 (λ z. omega arith))
same_arguments (Every ∷ us) (bound v ∷ vs) e h g m = let k = g v (Memᴰ.head refl) in rw (ne_eqb 255 v.0 (λ z. omega arith))
same_arguments (Every ∷ us) (Every ∷ vs) e h g m = same_arguments us vs (omega arith) h g m

-- the number of an argument is FF only where the argument is
pub every_number : (vs : List Argument) → Small vs → (v : Argument) → In v vs → is_every (argument_of (argument_number v)) ≡ is_every v
every_number vs h (bound v) m = let k = h v (in_variables vs m) in rw (ne_eqb v.0 255 (λ z. omega arith))
every_number vs h Every m = refl

-- ---- whether they meet, by their numbers

pub meet_arguments : (us vs : List Argument) → length us ≡ length vs → Small us → Small vs → (m : ℕ)
    → same_list meet_byte (map argument_number us ++ replicate m 255) (map argument_number vs ++ replicate m 255) ≡ same_list meet_argument us vs
meet_arguments [] [] e h g m = same_list_self meet_byte (λ a. or_l (eqb a 255 || eqb a 255) (eqb_same a)) (replicate m 255)
meet_arguments [] (v ∷ vs) e h g m = absurd (omega arith)
meet_arguments (u ∷ us) [] e h g m = absurd (omega arith)
meet_arguments (bound u ∷ us) (bound v ∷ vs) e h g m =
    let j = h u (Memᴰ.head refl) in
    let k = g v (Memᴰ.head refl) in
    ap₂ ◌&&◌ (ap₂ (λ (s t : Bool). eqb u.0 v.0 || (s || t)) (ne_eqb u.0 255 (λ z. omega arith))
    (ne_eqb v.0 255 (λ z. omega arith))
    ∙ or_false (eqb u.0 v.0))
    (meet_arguments us vs (omega arith) (λ w i. h w (Memᴰ.tail i)) (λ w i. g w (Memᴰ.tail i)) m)
meet_arguments (bound u ∷ us) (Every ∷ vs) e h g m =
    ap₂ ◌&&◌ (ap (λ (t : Bool). eqb u.0 255 || t) (or_true (eqb u.0 255)) ∙ or_true (eqb u.0 255))
    (meet_arguments us vs (omega arith) (λ w i. h w (Memᴰ.tail i)) g m)
meet_arguments (Every ∷ us) (bound v ∷ vs) e h g m =
    ap₂ ◌&&◌ (or_true (eqb 255 v.0)) (meet_arguments us vs (omega arith) h (λ w i. g w (Memᴰ.tail i)) m)
meet_arguments (Every ∷ us) (Every ∷ vs) e h g m = meet_arguments us vs (omega arith) h g m

-- in either order
pub meet_comm : (us vs : List Argument) → same_list meet_argument us vs ≡ same_list meet_argument vs us
meet_comm [] [] = refl
meet_comm [] (v ∷ vs) = refl
meet_comm (u ∷ us) [] = refl
meet_comm (u ∷ us) (v ∷ vs) = ap₂ ◌&&◌ (go u v) (meet_comm us vs)
  where
    go : (u v : Argument) → meet_argument u v ≡ meet_argument v u
    go (bound u) (bound v) = eqb_comm u.0 v.0
    go (bound u) Every = refl
    go Every (bound v) = refl
    go Every Every = refl

pub meets_comm : (p q : Atom Argument) → meets p q ≡ meets q p
meets_comm p q = ap₂ ◌&&◌ (eqb_comm p.rel q.rel) (meet_comm p.args q.args)
