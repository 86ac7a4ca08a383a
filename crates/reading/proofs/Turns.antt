-- The code that reads a file against its definition: what one record leads to, the loop over the file, and the answer. Assumes nothing.
use mathlib.Core.Path.{◌≡◌, refl, sym, ap, ap₂, subst, ◌∙◌}
use mathlib.Core.Bool.{Bool, true, false}
use mathlib.Core.Logic.{inl, inr}
use mathlib.Core.List.{List, [], ◌∷◌, flat_map, append-nil}
use Prim.Native.Nat.{ℕ, zero, suc, ◌+◌, ◌-◌, ◌*◌, ◌≤◌, ◌<◌}
use native.Mathlib.Omega.{arith}
use lib.Dec.{eqb}
use lib.ListN.{length, take, drop, replicate, length-append}
use borrow.Author.Tests.{lt-ltb, le-ltb, eq-eqb, ne_eqb}
use Rattle.records.specs.declared.Record.{Record}
use Rattle.records.specs.declared.Record.TheVariants.{Whole, Cut, End}
use Rattle.records.specs.Record.{record_at, payload}
use Rattle.records.specs.Memory.{over}
use Rattle.records.proofs.Lists.{clash}
use Rattle.records.proofs.Laws.{whole_within}
use Rattle.records.proofs.Memory.{length_over}
use Rattle.literals.specs.Decode.{RecordStop}
use Rattle.literals.specs.Domain.{Action, Domain}
use Rattle.literals.specs.Decode.{max_file, max_literals, latest, RecordKind, relation_record, action_record, literal_record, component_record}
use Rattle.literals.specs.Decode.{closing_record, unknown_record, kind_of, literal_of, with_literal, action_of, field_stop, stop_of, stop_place}
use Rattle.literals.specs.Decode.{fault_of_record, extend, Refusal, refuse, refuse_at, Decoded, refused, domain, Reading, ReadTurn, go_on}
use Rattle.literals.specs.Decode.{finish, read_record, read_found, read_step, read_from, no_domain, from_start, decode}
use Rattle.literals.specs.Held.{all_literals, table_bytes, Bounded, head_bytes}
use Rattle.literals.proofs.Stops.{passes, literal_passes}
use Rattle.literals.proofs.Held.{literals_snoc, literals_more, rows_few, rows_fewer}
use Rattle.literals.proofs.Heads.{length_table}
use Rattle.literals.proofs.Fills.{filled_none}
use Rattle.literals.proofs.Loop.{read_more, read_done, payload_length, go_on_at}
use Rattle.reading.specs.declared.Progress.{Progress}
use Rattle.reading.specs.declared.Refusal.{Refusal as FileRefusal}
use Rattle.std.specs.Prelude.{Some, None, Ok, Err, ⊤}
use Rattle.literals.specs.Faults.{fault_number, at_start_of, told_stop}
use Rattle.literals.specs.declared.fault.Fault.{Fault}
use Rattle.literals.specs.declared.fault.RecordFault.{RecordFault}
use Rattle.reading.specs.Held.{domain_after, HeldOver, RecordReady, Standing, at_start, ReadLeadsTo, EnoughTable, StepReady, refusal_of}
use Rattle.reading.specs.Held.{read_until, read_of, table_after, ReadAs}
use Rattle.reading.proofs.Takes.{behind_stop, behind_done, held_over}

-- ---- one record

-- a literal takes at least 6 bytes of the file: 4 of its head, role and relation
rows_read : (D : Domain) (k : RecordKind) (p : List ℕ) → stop_of D k p ≡ 0 → 6 * length (all_literals (extend D k p).actions) ≤ 6 * length (all_literals D.actions) + 4 + length p
unfolding extend field_stop
rows_read D relation_record p e = omega arith
rows_read D action_record p e = let l = ap length (literals_snoc D.actions (action_of p) ∙ append-nil (all_literals D.actions)) in omega arith
rows_read D literal_record p e = let h = (literal_passes D p (passes D literal_record p e).fields).long in go D.actions h
  where
    go : (as' : List Action) → 2 ≤ length p → 6 * length (all_literals (with_literal (literal_of p) as')) ≤ 6 * length (all_literals as') + 4 + length p
    go [] h = omega arith
    go (a ∷ as') h =
        let l = ap length (literals_more (literal_of p) (a ∷ as') (omega arith)) ∙ length-append (all_literals (a ∷ as')) (literal_of p ∷ []) in
        omega arith
rows_read D component_record p e = omega arith
rows_read D closing_record p e = omega arith
rows_read D unknown_record p e = omega arith

-- a table that is enough for the file has room for the rows of what is read, as the file has their bytes
rows_fit : (s t : List ℕ) {D : Domain} → Bounded D → (n : ℕ) → 6 * length (all_literals D.actions) ≤ n → n ≤ length s → EnoughTable s t → 8 * length (all_literals D.actions) ≤ length t
rows_fit s t {D} B n r w (inl l) = let a = rows_few D.actions B.sizes in let b = B.actions in omega arith
rows_fit s t B n r w (inr l) = omega arith

-- and for the row of the literal that is read
row_fits : (s t : List ℕ) {D : Domain} → Bounded D → (n : ℕ) → 6 * length (all_literals D.actions) ≤ n → n + 6 ≤ length s → EnoughTable s t
    → length (latest D.actions).lits < max_literals → 8 * (length (all_literals D.actions) + 1) ≤ length t
row_fits s t {D} B n r w (inl l) g = go D.actions refl
  where
    go : (as' : List Action) → D.actions ≡ as' → 8 * (length (all_literals D.actions) + 1) ≤ length t
    go [] e = let a = rows_few D.actions B.sizes in let k = ap length e in omega arith
    go (a ∷ as') e = let k = ap length e in let f = rows_fewer D.actions (omega arith) B.sizes g in let b = B.actions in omega arith
row_fits s t B n r w (inr l) g = omega arith

pub record_ready : {p : Progress} {s head t : List ℕ} → StepReady p s head t → {k start len : ℕ} → record_at s p.at ≡ Whole k start len
    → RecordReady head t (take (start + len - start) (drop start s))
unfolding payload
record_ready {p} {s} {head} {t} r {k} {start} {len} e =
    let w = whole_within s p.at e in
    let n = payload_length s start len w.fits in
    let z : start + len - start ≡ len = omega arith in
    let m = ap (λ (n : ℕ). length (take n (drop start s))) z in
    let a = r.stands.at in
    record {
      sofar = r.reading.sofar;
      old = r.old;
      holds = r.stands.holds;
      room = λ l f. row_fits s t r.stands.holds.filled.says.bounded r.reading.at r.read (omega (arith, w.fits, w.start)) r.enough f;
    }

-- a record that is at fault itself
pub told_whole : (r : FileRefusal) (f : RecordFault) (at : ℕ) → refusal_of r ≡ refuse_at (told_stop f) at → (g : Fault) → f ≡ at_start_of g
    → refusal_of r ≡ refuse (fault_number g) at
told_whole r f at e g same =
    let z : at + 0 ≡ at = omega arith in
    e ∙ ap (λ (h : RecordFault). refuse_at (told_stop h) at) same
    ∙ (λ i. record { number = fault_number g; place = z i; start = at })

module _ (s : List ℕ) (p : Progress) {old : List ℕ} {q : Reading} {head t : List ℕ} (S : Standing old q p head t) where
  closed_is : {b : Bool} → p.closed ≡ b → q.closed ≡ b
  closed_is e = sym S.closed ∙ e

  -- what stands at the offset decides
  found : (r : Record) → p.closed ≡ false → record_at s p.at ≡ r → read_step s q ≡ read_found s q r
  unfolding read_step
  found r c e = let f : record_at s q.at ≡ r = ap (record_at s) (sym S.at) ∙ e in simp (closed_is c, f)

  -- what ends reading with a refusal
  here : (x : Refusal) (r : FileRefusal) → read_step s q ≡ finish (refused x) → refusal_of r ≡ x → ReadLeadsTo old q (read_step s q) (Err r) head t
  here x r e f = rw e (f, S.holds.rows)

  pub step_behind : p.closed ≡ true → p.at < length s → (r : FileRefusal) → refusal_of r ≡ refuse 13 p.at → ReadLeadsTo old q (read_step s q) (Err r) head t
  unfolding read_step
  step_behind c h r e = let a = S.at in let l : q.at < length s = omega arith in here (refuse 13 q.at) r (simp (closed_is c, lt-ltb q.at (length s) l)) (e ∙ ap (refuse 13) S.at)

  pub step_end : p.closed ≡ true → length s ≤ p.at → ReadLeadsTo old q (read_step s q) (Ok None) head t
  unfolding read_step
  step_end c h =
      let a = S.at in
      let l : length s ≤ q.at = omega arith in
      let e : read_step s q ≡ finish (domain q.sofar) = simp (closed_is c, le-ltb q.at (length s) l) in
      rw e (refl, held_over S.holds, S.holds.rows, S.holds.filled.room)

  -- no whole record stands there
  pub step_short : p.closed ≡ false → (x : Record) → record_at s p.at ≡ x → ((k start len : ℕ) → x ≡ Whole k start len → ⊥)
      → (r : FileRefusal) → refusal_of r ≡ refuse 10 p.at → ReadLeadsTo old q (read_step s q) (Err r) head t
  unfolding read_found
  step_short c (Whole k start len) e other r f = absurd (other k start len refl)
  step_short c Cut e other r f = here (refuse 10 q.at) r (found Cut c e) (f ∙ ap (refuse 10) S.at)
  step_short c End e other r f = here (refuse 10 q.at) r (found End c e) (f ∙ ap (refuse 10) S.at)

  -- of a whole record, what taking it leads to: the part of the file from `start` to its end is its payload
  module _ {k start len : ℕ} (c : p.closed ≡ false) (e : record_at s p.at ≡ Whole k start len) (o : RecordStop) {after rows : List ℕ}
      (taken : (o.number ≡ stop_of q.sofar (kind_of k) (take (start + len - start) (drop start s))) × HeldOver old (domain_after q.sofar (kind_of k) (take (start + len - start) (drop start s))) after rows)
      (placed : o.within ≡ stop_place q.sofar (kind_of k) (take (start + len - start) (drop start s))) where
    part_is : take (start + len - start) (drop start s) ≡ payload s start len
    unfolding payload
    part_is = let z : start + len - start ≡ len = omega arith in ap (λ (n : ℕ). take n (drop start s)) z

    record_is : read_step s q ≡ read_record q k (payload s start len) (start + len)
    unfolding read_found
    record_is = found (Whole k start len) c e

    number_is : stop_of q.sofar (kind_of k) (payload s start len) ≡ o.number
    number_is = sym (taken.0 ∙ ap (stop_of q.sofar (kind_of k)) part_is)

    within_is : stop_place q.sofar (kind_of k) (payload s start len) ≡ o.within
    within_is = sym (placed ∙ ap (stop_place q.sofar (kind_of k)) part_is)

    pub step_on : o.number ≡ 0 → (b : Bool) → b ≡ eqb k 5 → ReadLeadsTo old q (read_step s q) (Ok (Some (record { at = start + len; closed = b }))) after rows
    unfolding read_record stop_of
    step_on z b is = rw turn stands
      where
        ok : stop_of q.sofar (kind_of k) (payload s start len) ≡ 0
        ok = number_is ∙ z

        next : Reading
        next = record { at = start + len; closed = eqb k 5; sofar = extend q.sofar (kind_of k) (payload s start len) }

        holds : HeldOver old (extend q.sofar (kind_of k) (payload s start len)) after rows
        holds =
            subst (λ (D : Domain). HeldOver old D after rows)
            (ap (domain_after q.sofar (kind_of k)) part_is ∙ behind_done q.sofar (kind_of k) (payload s start len) ok) taken.1

        stands : Standing old next (record { at = start + len; closed = b }) after rows
        stands = record { at = refl; closed = is; holds = holds }

        turn : read_step s q ≡ go_on next
        turn = record_is ∙ simp (eq-eqb (stop_of q.sofar (kind_of k) (payload s start len)) 0 ok)

    pub step_stop_lem : (o.number ≡ 0 → ⊥) → (r : FileRefusal) → refusal_of r ≡ refuse_at o p.at → ReadLeadsTo old q (read_step s q) (Err r) after rows
    unfolding read_record stop_of stop_place
    step_stop_lem z r d = rw turn (d ∙ ap (refuse_at o) S.at, rows_are)
      where
        rows_are : rows ≡ over (table_bytes q.sofar) old
        rows_are =
            taken.1.rows
            ∙ ap (λ (D : Domain). over (table_bytes D) old) (ap (domain_after q.sofar (kind_of k)) part_is ∙ behind_stop q.sofar (kind_of k) (payload s start len) number_is z)

        refusal : ℕ → ℕ → Refusal
        refusal n w = record { number = n; place = q.at + w; start = q.at }

        turn : read_step s q ≡ finish (refused (refusal o.number o.within))
        turn =
            let b = ne_eqb (stop_of q.sofar (kind_of k) (payload s start len)) 0 (λ x. z (sym number_is ∙ x)) in
            let f = fault_of_record q.sofar (kind_of k) (payload s start len) in
            let r : read_record q k (payload s start len) (start + len) ≡ finish (refused (refuse_at f q.at)) = simp b in
            record_is ∙ r ∙ ap₂ (λ (n w : ℕ). finish (refused (refusal n w))) number_is within_is

-- ---- the loop

read_short : (s : List ℕ) → length s ≤ max_file → (read_from (suc (length s)) s from_start ≡ decode s)
    × (read_until (suc (length s)) s from_start ≡ read_of s)
unfolding decode read_of
read_short s h = (rw (le-ltb max_file (length s) h, decode), rw (le-ltb max_file (length s) h, read_of))

read_long : (s : List ℕ) → max_file < length s → (decode s ≡ refused (refuse 9 0)) × (read_of s ≡ no_domain)
unfolding decode read_of
read_long s h = (rw (lt-ltb max_file (length s) h, decode), rw (lt-ltb max_file (length s) h, read_of))

until_more : (fuel : ℕ) (s : List ℕ) (r q : Reading) → read_step s r ≡ go_on q → read_until (suc fuel) s r ≡ read_until fuel s q
unfolding read_until
until_more fuel s r q e = rw (e, read_until)

until_done : (fuel : ℕ) (s : List ℕ) (r : Reading) (d : Decoded) → read_step s r ≡ finish d → read_until (suc fuel) s r ≡ r.sofar
unfolding read_until
until_done fuel s r d e = rw (e, read_until)

table_none : (t : List ℕ) → t ≡ over (table_bytes no_domain) t
unfolding over table_bytes all_literals flat_map
table_none t = refl

-- a file that is too long: nothing is read
pub too_long : (s head t : List ℕ) → max_file < length s → (r : FileRefusal) → refusal_of r ≡ refuse 9 0 → ReadAs (decode s) (Err r) head t × (t ≡ table_after s t)
unfolding table_after
too_long s head t h r f =
    let e = read_long s h in
    let a : ReadAs (decode s) (Err r) head t = rw e.0 f in
    (a, table_none t ∙ ap (λ (D : Domain). over (table_bytes D) t) (sym e.1))

-- where the loop stands: it has read a part of the file as `decode` does, and the fuel that is left suffices
pub record Loop (s old : List ℕ) (p : Progress) (head t : List ℕ) : Type 0 where
  pub short : length s ≤ max_file
  pub reading : Reading
  pub stands : Standing old reading p head t
  pub rows : 6 * length (all_literals reading.sofar.actions) ≤ reading.at
  pub within : reading.at ≤ length s
  pub left : ℕ
  pub enough : length s < reading.at + left
  pub same : read_from left s reading ≡ decode s
  pub until : read_until left s reading ≡ read_of s

pub begins : (s head t : List ℕ) (p : Progress) → p ≡ at_start → head ≡ replicate head_bytes 0 → length s ≤ max_file → Loop s t p head t
unfolding over table_bytes all_literals flat_map
begins s head t p e z h =
    record {
      short = h;
      reading = from_start;
      stands = record { at = ap (λ (x : Progress). x.at) e; closed = ap (λ (x : Progress). x.closed) e; holds = record { filled = filled_none head z; rows = table_none t } };
      rows = omega arith;
      within = omega arith;
      left = suc (length s);
      enough = omega arith;
      same = (read_short s h).0;
      until = (read_short s h).1;
    }

-- the table is still as long, and a turn may come
module _ {s old : List ℕ} {p : Progress} {head t : List ℕ} (i : Loop s old p head t) (e : EnoughTable s old) where
  pub loop_table : length t ≡ length old
  loop_table =
      let B = i.stands.holds.filled.says.bounded in
      let n = length_table B in
      let f = rows_fit s old B i.reading.at i.rows i.within e in
      ap length i.stands.holds.rows ∙ length_over (table_bytes i.reading.sofar) old (omega arith)

  pub loop_ready : StepReady p s head t
  loop_ready = record { reading = i.reading; old = old; stands = i.stands; short = i.short; enough = go e; read = i.rows }
    where
      go : EnoughTable s old → EnoughTable s t
      go (inl l) = let n = loop_table in inl (omega arith)
      go (inr l) = let n = loop_table in inr (omega arith)

-- one turn, from what `step` ensures
module _ (s old : List ℕ) (p : Progress) (head t : List ℕ) (i : Loop s old p head t) (head' t' : List ℕ) where
  record Turned (o : Progress) : Type 0 where
    next : Loop s old o head' t'
    further : p.at < o.at

  -- the fuel is not used up
  fuel_left : (f : ℕ) × (i.left ≡ suc f)
  fuel_left = go i.left refl
    where
      go : (n : ℕ) → i.left ≡ n → (f : ℕ) × (i.left ≡ suc f)
      go zero e = let a = i.enough in let b = i.within in absurd (omega arith)
      go (suc f) e = (f, e)

  -- what a record finishes with, the file says
  finishes : (d : Decoded) → read_step s i.reading ≡ finish d → decode s ≡ d
  finishes d e =
      let f = fuel_left in
      sym (sym (read_done f.0 s i.reading d e) ∙ ap (λ (m : ℕ). read_from m s i.reading) (sym f.1) ∙ i.same)

  -- and the domain until then is what was read of it
  ends : (d : Decoded) → read_step s i.reading ≡ finish d → i.reading.sofar ≡ read_of s
  ends d e =
      let f = fuel_left in
      sym (until_done f.0 s i.reading d e) ∙ ap (λ (m : ℕ). read_until m s i.reading) (sym f.1) ∙ i.until

  after : (x : Decoded) → read_step s i.reading ≡ finish x → t' ≡ over (table_bytes i.reading.sofar) old → t' ≡ table_after s old
  unfolding table_after
  after x e f = f ∙ ap (λ (D : Domain). over (table_bytes D) old) (ends x e)

  -- it goes on
  module _ (o : Progress) (step : (q : Reading) (old : List ℕ) → Standing old q p head t → ReadLeadsTo old q (read_step s q) (Ok (Some o)) head' t') where
    turned : Turned o
    turned = go (read_step s i.reading) refl (step i.reading old i.stands)
      where
        q : Reading
        q = i.reading

        go : (r : ReadTurn) → read_step s q ≡ r → ReadLeadsTo old q r (Ok (Some o)) head' t' → Turned o
        go (go_on n) e h =
            let g = go_on_at s q n e in
            let f = fuel_left in
            let a = i.stands.at in
            let b = h.at in
            let l = i.enough in
            let k = f.1 in
            let y = g.on in
            let w = i.rows in
            let m = rows_read q.sofar g.kind g.bytes g.passes in
            let x = ap (λ (D : Domain). length (all_literals D.actions)) g.extends in
            record {
              next =
                  record {
                    short = i.short;
                    reading = n;
                    stands = h;
                    rows = omega arith;
                    within = g.within;
                    left = f.0;
                    enough = omega arith;
                    same = sym (read_more f.0 s q n e) ∙ ap (λ (m : ℕ). read_from m s q) (sym f.1) ∙ i.same;
                    until = sym (until_more f.0 s q n e) ∙ ap (λ (m : ℕ). read_until m s q) (sym f.1) ∙ i.until;
                  };
              further = omega arith;
            }
        go (finish (refused x)) e h = absurd h.0
        go (finish (domain D)) e h = absurd (clash refl h.0)

    pub loop_on : Loop s old o head' t'
    loop_on = turned.next

    pub loop_falls : length s - o.at < length s - p.at
    loop_falls =
        let f = turned.further in
        let n = turned.next in
        let a = n.stands.at in
        let w = n.within in
        omega arith

  -- the file is read
  pub loop_done : {u : ⊤} → ((q : Reading) (old : List ℕ) → Standing old q p head t → ReadLeadsTo old q (read_step s q) (Ok None) head' t')
      → ReadAs (decode s) (Ok u) head' t' × (t' ≡ table_after s old)
  loop_done {u} step = go (read_step s i.reading) refl (step i.reading old i.stands)
    where
      go : (n : ReadTurn) → read_step s i.reading ≡ n → ReadLeadsTo old i.reading n (Ok None) head' t'
          → ReadAs (decode s) (Ok u) head' t' × (t' ≡ table_after s old)
      go (go_on n) e h = absurd h
      go (finish (refused x)) e h = absurd h.0
      go (finish (domain D)) e h =
          let a : ReadAs (decode s) (Ok u) head' t' = rw (finishes (domain D) e) (h.1, h.3) in
          (a, after (domain D) e h.2)

  -- it is refused
  pub loop_refused : (r : FileRefusal) → ((q : Reading) (old : List ℕ) → Standing old q p head t → ReadLeadsTo old q (read_step s q) (Err r) head' t')
      → ReadAs (decode s) (Err r) head' t' × (t' ≡ table_after s old)
  loop_refused r step = go (read_step s i.reading) refl (step i.reading old i.stands)
    where
      go : (n : ReadTurn) → read_step s i.reading ≡ n → ReadLeadsTo old i.reading n (Err r) head' t'
          → ReadAs (decode s) (Err r) head' t' × (t' ≡ table_after s old)
      go (go_on n) e h = absurd h
      go (finish (refused x)) e h =
          let a : ReadAs (decode s) (Err r) head' t' = rw (finishes (refused x) e) h.0 in
          (a, after (refused x) e h.1)
      go (finish (domain D)) e h = absurd h.0
