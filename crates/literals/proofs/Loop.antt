-- Reading a file goes record by record, each at least 4 bytes further on, so the fuel is never used up. Assumes nothing.
use mathlib.Core.Path.{◌≡◌, refl, sym, ap, subst, ◌∙◌}
use mathlib.Core.Bool.{Bool, true, false, cond}
use mathlib.Core.List.{List}
use Prim.Native.Nat.{ℕ, zero, suc, ◌+◌, ◌≤◌, ◌<◌}
use native.Mathlib.Nat.{add-suc}
use native.Mathlib.Omega.{arith}
use lib.Dec.{eqb, ltb}
use lib.ListN.{length, drop, length-drop}
use lib.Seq.{length-take-le}
use borrow.Author.Tests.{eqb-true}
use Rattle.records.specs.declared.Record.{Record}
use Rattle.records.specs.declared.Record.TheVariants.{Whole, Cut, End}
use Rattle.records.specs.Record.{record_at, payload}
use Rattle.records.proofs.Laws.{whole_within}
use Rattle.literals.specs.Domain.{Domain}
use Rattle.literals.specs.Decode.{RecordKind, kind_of, stop_of, extend, fault_of_record, Refusal, refuse, refuse_at, Decoded, refused}
use Rattle.literals.specs.Decode.{domain}
use Rattle.literals.specs.Decode.{Reading, ReadTurn, go_on, finish, read_record, read_found, read_step, read_from, no_domain}
use Rattle.literals.specs.Decode.{from_start, max_file, decode}

-- ---- one turn of the loop

pub read_more : (fuel : ℕ) (s : List ℕ) (r q : Reading) → read_step s r ≡ go_on q → read_from (suc fuel) s r ≡ read_from fuel s q
unfolding read_from
read_more fuel s r q e = rw (e, read_from)

pub read_done : (fuel : ℕ) (s : List ℕ) (r : Reading) (d : Decoded) → read_step s r ≡ finish d → read_from (suc fuel) s r ≡ d
unfolding read_from
read_done fuel s r d e = rw (e, read_from)

-- ---- what a turn leads to

go_on_inj : {x y : Reading} → go_on x ≡ go_on y → x ≡ y
go_on_inj e = cc

finish_go_on : {d : Decoded} {q : Reading} {P : Type 0} → finish d ≡ go_on q → P
finish_go_on e = let z : ◌≡◌ {A = ℕ} 0 1 = cc in absurd (omega arith)

-- a payload within the file is as long as its record says
pub payload_length : (s : List ℕ) (start len : ℕ) → start + len ≤ length s → length (payload s start len) ≡ len
unfolding payload
payload_length s start len h = length-take-le len (drop start s) (let d = length-drop start s in omega arith)

-- what a turn that goes on has read: a record that nothing stops, within the file
pub record GoesOn (s : List ℕ) (r q : Reading) : Type 0 where
  pub kind : RecordKind
  pub bytes : List ℕ
  pub passes : stop_of r.sofar kind bytes ≡ 0
  pub extends : extend r.sofar kind bytes ≡ q.sofar
  pub on : r.at + 4 + length bytes ≡ q.at
  pub within : q.at ≤ length s

pub go_on_at : (s : List ℕ) (r q : Reading) → read_step s r ≡ go_on q → GoesOn s r q
unfolding read_step read_found read_record stop_of
go_on_at s r q e = start r.closed (ltb r.at (length s)) e
  where
    found : (f : Record) → record_at s r.at ≡ f → read_found s r f ≡ go_on q → GoesOn s r q
    found (Whole k p n) g z = go (eqb stop 0) refl z
      where
        stop : ℕ
        stop = stop_of r.sofar (kind_of k) (payload s p n)

        after : Reading
        after = record { at = p + n; closed = eqb k 5; sofar = extend r.sofar (kind_of k) (payload s p n) }

        go : (b : Bool) → eqb stop 0 ≡ b → cond b (go_on after) (finish (refused (refuse_at (fault_of_record r.sofar (kind_of k) (payload s p n)) r.at))) ≡ go_on q → GoesOn s r q
        go true t z =
            let w = whole_within s r.at g in
            let x : p + n ≡ q.at = ap (λ (y : Reading). y.at) (go_on_inj z) in
            let l = payload_length s p n w.fits in
            record { kind = kind_of k; bytes = payload s p n; passes = eqb-true stop 0 t; extends = ap (λ (y : Reading). y.sofar) (go_on_inj z); on = omega arith; within = omega arith }
        go false t z = finish_go_on z
    found Cut g z = finish_go_on z
    found End g z = finish_go_on z

    start : (b c : Bool) → cond b (cond c (finish (refused (refuse 13 r.at))) (finish (domain r.sofar))) (read_found s r (record_at s r.at)) ≡ go_on q → GoesOn s r q
    start true true z = finish_go_on z
    start true false z = finish_go_on z
    start false c z = found (record_at s r.at) refl z

refused_domain : {f : Refusal} {D : Domain} {P : Type 0} → finish (refused f) ≡ finish (domain D) → P
refused_domain e = let z : ◌≡◌ {A = ℕ} 0 1 = cc in absurd (omega arith)

go_on_domain : {q : Reading} {D : Domain} {P : Type 0} → go_on q ≡ finish (domain D) → P
go_on_domain e = let z : ◌≡◌ {A = ℕ} 0 1 = cc in absurd (omega arith)

domain_inj : {C D : Domain} → finish (domain C) ≡ finish (domain D) → C ≡ D
domain_inj e = cc

-- a turn that finishes with a domain finishes with the domain so far
pub finish_sofar : (s : List ℕ) (r : Reading) (D : Domain) → read_step s r ≡ finish (domain D) → r.sofar ≡ D
unfolding read_step read_found read_record stop_of
finish_sofar s r D e = start r.closed (ltb r.at (length s)) e
  where
    found : (f : Record) → read_found s r f ≡ finish (domain D) → r.sofar ≡ D
    found (Whole k p n) z = go (eqb stop 0) z
      where
        stop : ℕ
        stop = stop_of r.sofar (kind_of k) (payload s p n)

        after : Reading
        after = record { at = p + n; closed = eqb k 5; sofar = extend r.sofar (kind_of k) (payload s p n) }

        go : (b : Bool) → cond b (go_on after) (finish (refused (refuse_at (fault_of_record r.sofar (kind_of k) (payload s p n)) r.at))) ≡ finish (domain D) → r.sofar ≡ D
        go true z = go_on_domain z
        go false z = refused_domain z
    found Cut z = refused_domain z
    found End z = refused_domain z

    start : (b c : Bool) → cond b (cond c (finish (refused (refuse 13 r.at))) (finish (domain r.sofar))) (read_found s r (record_at s r.at)) ≡ finish (domain D) → r.sofar ≡ D
    start true true z = refused_domain z
    start true false z = domain_inj z
    start false c z = found (record_at s r.at) z

-- ---- fuel

-- from any offset within the file: fuel above the number of bytes left is never used up
pub more_fuel_from : (k fuel : ℕ) (s : List ℕ) (r : Reading) → r.at ≤ length s → length s < r.at + fuel → read_from (k + fuel) s r ≡ read_from fuel s r
more_fuel_from k zero s r h l = absurd (omega arith)
more_fuel_from k (suc fuel) s r h l = rw add-suc (go (λ q. more_fuel_from k fuel s q) (read_step s r) refl)
  where
    go : ((q : Reading) → q.at ≤ length s → length s < q.at + fuel → read_from (k + fuel) s q ≡ read_from fuel s q)
        → (t : ReadTurn) → read_step s r ≡ t → read_from (suc (k + fuel)) s r ≡ read_from (suc fuel) s r
    go ih (go_on q) e =
        let f = go_on_at s r q e in
        read_more (k + fuel) s r q e ∙ ih q f.within (omega arith) ∙ sym (read_more fuel s r q e)
    go ih (finish d) e = read_done (k + fuel) s r d e ∙ sym (read_done fuel s r d e)

-- more fuel than `decode` takes changes nothing: the fuel is a device and nothing else
pub more_fuel : (k : ℕ) (s : List ℕ) → read_from (k + suc (length s)) s from_start ≡ read_from (suc (length s)) s from_start
more_fuel k s = more_fuel_from k (suc (length s)) s from_start (omega arith) (omega arith)

-- ---- what every record keeps, the domain of a file has

-- of an offset and the domain read until there
module _ (P : ℕ → Domain → Type 0)
    (keeps : (n : ℕ) (D : Domain) (k : RecordKind) (p : List ℕ) → P n D → stop_of D k p ≡ 0 → P (n + 4 + length p) (extend D k p)) where
  read_by : (fuel : ℕ) (s : List ℕ) (r : Reading) (D : Domain) → r.at ≤ length s → P r.at r.sofar → read_from fuel s r ≡ domain D
      → (n : ℕ) × (n ≤ length s) × P n D
  unfolding read_from
  read_by zero s r D w h e = let z : ◌≡◌ {A = ℕ} 0 1 = cc in absurd (omega arith)
  read_by (suc fuel) s r D w h e = go (λ q v k d. read_by fuel s q D v k d) (read_step s r) refl e
    where
      go : ((q : Reading) → q.at ≤ length s → P q.at q.sofar → read_from fuel s q ≡ domain D → (n : ℕ) × (n ≤ length s) × P n D)
          → (t : ReadTurn) → read_step s r ≡ t
          → elim t as (λ _. Decoded) [ go_on next ↦ read_from fuel s next | finish d ↦ d ] ≡ domain D
          → (n : ℕ) × (n ≤ length s) × P n D
      go ih (go_on q) t z =
          let g = go_on_at s r q t in
          let k = keeps r.at r.sofar g.kind g.bytes h g.passes in
          ih q g.within (subst (λ (n : ℕ). P n q.sofar) g.on (subst (P (r.at + 4 + length g.bytes)) g.extends k)) z
      go ih (finish d) t z = (r.at, w, rw (← (finish_sofar s r D (t ∙ ap finish z))) h)

  pub decoded_at : P 0 no_domain → (f : List ℕ) (D : Domain) → decode f ≡ domain D → (n : ℕ) × (n ≤ length f) × P n D
  unfolding decode
  decoded_at none f D e = go (ltb max_file (length f)) e
    where
      go : (b : Bool)
          → elim b as (λ _. Decoded) [ true ↦ refused (refuse 9 0) | false ↦ read_from (suc (length f)) f from_start ] ≡ domain D
          → (n : ℕ) × (n ≤ length f) × P n D
      go true z = let y : ◌≡◌ {A = ℕ} 0 1 = cc in absurd (omega arith)
      go false z = read_by (suc (length f)) f from_start D (omega arith) none z

-- of the domain alone
module _ (P : Domain → Type 0) (keeps : (D : Domain) (k : RecordKind) (p : List ℕ) → P D → stop_of D k p ≡ 0 → P (extend D k p)) where
  pub decoded_by : P no_domain → (f : List ℕ) (D : Domain) → decode f ≡ domain D → P D
  decoded_by none f D e = (decoded_at (λ n D. P D) (λ n D k p. keeps D k p) none f D e).2
