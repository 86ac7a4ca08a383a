-- Laws of the reader of the run file: the records before an offset, and what one more record adds. Assumes nothing.
use mathlib.Core.Path.{◌≡◌, refl, ap, ◌∙◌}
use mathlib.Core.Bool.{Bool, true, false, ◌||◌, true≢false}
use mathlib.Core.Logic.{◌⊎◌, inl, inr}
use mathlib.Core.List.Memᴰ
use mathlib.Core.List.{List, [], ◌∷◌, ◌++◌, append-nil}
use Prim.Native.Nat.{ℕ, zero, suc, ◌+◌, ◌-◌, ◌≤◌, ◌<◌}
use native.Mathlib.Omega.{arith}
use lib.Dec.{ltb, leb}
use lib.ListN.{length, take, drop, length-drop}
use lib.Seq.{length-take-le}
use borrow.Author.Tests.{lt-ltb, le-ltb, le-leb, lt-leb}
use Rattle.records.specs.Lists.{In, filter_by}
use Rattle.records.specs.declared.Record.{Record}
use Rattle.records.specs.declared.Record.TheVariants.{Whole, Cut, End}
use Rattle.records.specs.Record.{record_at, payload}
use Rattle.records.proofs.Laws.{whole_within}
use Rattle.records.proofs.Lists.{or_r, all_of, any_append, filter_all, filter_append, filter_none}
use Rattle.literals.specs.Domain.{Fact}
use Rattle.verdict.specs.Machine.{Event}
use Rattle.run_semantics.specs.RunFile.{RunKind, objects_record, fact_record, event_record, step_record, end_record, other_record, run_kind_of, fact_of, event_of, Entry, entries_from, entries, entries_before, entries_up_to, behind_from, objects_by, count_from, objects_in, is_end, closed_in, facts_by, start_facts_in, waiting_by, waiting_from, waiting_in, closed_by, steps_from, steps_in, begins, begun_in}

-- ---- the records of a file

-- the record of this kind, payload start and length, as an entry
abbrev pub entry_at : List ℕ → ℕ → ℕ → ℕ → ℕ → Entry
entry_at r at k start len = record { at = at; kind = run_kind_of k; bytes = payload r start len }

-- these are whole records of the file, each behind the one before it, from one offset to another
pub data Chain (r : List ℕ) : ℕ → List Entry → ℕ → Type 0 where
  here : {at : ℕ} → Chain r at [] at
  link : {at k start len to : ℕ} {es : List Entry} → record_at r at ≡ Whole k start len → Chain r (start + len) es to
      → Chain r at (entry_at r at k start len ∷ es) to

module _ (r : List ℕ) where
  -- one record more
  pub snoc : {from at k start len : ℕ} {es : List Entry} → Chain r from es at → record_at r at ≡ Whole k start len
      → Chain r from (es ++ (entry_at r at k start len ∷ [])) (start + len)
  snoc here w = link w here
  snoc (link v c) w = link v (snoc c w)

  -- a record takes 4 bytes or more, within the file
  pub chain_size : {from to : ℕ} {es : List Entry} → Chain r from es to → length es + from ≤ to
  chain_size here = omega arith
  chain_size (link {at} v c) = let w = whole_within r at v in let ih = chain_size c in omega arith

  pub chain_within : {from to : ℕ} {es : List Entry} → Chain r from es to → from ≤ length r → to ≤ length r
  chain_within here h = h
  chain_within (link {at} v c) h = let w = whole_within r at v in chain_within c (omega arith)

  -- it ends behind its last record
  pub chain_behind : {from to : ℕ} {es : List Entry} → Chain r from es to → to ≡ behind_from from es
  unfolding payload
  chain_behind here = refl
  chain_behind (link {at} {k} {start} {len} {to} {es} v c) =
      let w = whole_within r at v in
      let n : length (take len (drop start r)) ≡ len = length-take-le len (drop start r) (let d = length-drop start r in omega arith) in
      let z : start + len ≡ at + 4 + length (payload r start len) = omega arith in
      chain_behind c ∙ ap (λ (m : ℕ). behind_from m es) z

  -- every record of it stands before its end
  chain_before : {from to : ℕ} {es : List Entry} → Chain r from es to → (e : Entry) → In e es → e.at < to
  chain_before here e m = absurd (Memᴰ.not-nil m)
  chain_before (link {at} v c) e (Memᴰ.head q) = let w = whole_within r at v in let s = chain_size c in let p : e.at ≡ at = ap (λ (x : Entry). x.at) q in omega arith
  chain_before (link v c) e (Memᴰ.tail m) = chain_before c e m

  -- what the reader reads
  read_whole : (fuel at : ℕ) {k start len : ℕ} → record_at r at ≡ Whole k start len → entries_from (suc fuel) r at ≡ entry_at r at k start len ∷ entries_from fuel r (start + len)
  unfolding entries_from
  read_whole fuel at e = rw (e, entries_from)

  read_chain : (n fuel : ℕ) {from to : ℕ} {es : List Entry} → Chain r from es to → n ≡ length es + fuel → entries_from n r from ≡ es ++ entries_from fuel r to
  read_chain n fuel (here {at}) h = let e : n ≡ fuel = omega arith in ap (λ (m : ℕ). entries_from m r at) e
  read_chain zero fuel (link v c) h = absurd (omega arith)
  read_chain (suc n) fuel (link {at} {k} {start} {len} v c) h =
      read_whole n at v ∙ ap {B = List Entry} (λ es. entry_at r at k start len ∷ es) (read_chain n fuel c (omega arith))

  -- every record that it reads stands at the offset or behind it, within the file
  read_place : (fuel at : ℕ) (e : Entry) → In e (entries_from fuel r at) → (at ≤ e.at) × (e.at < length r)
  unfolding entries_from
  read_place zero at e m = absurd (Memᴰ.not-nil m)
  read_place (suc fuel) at e m = go (record_at r at) refl (λ n. read_place fuel n e) m
    where
      go : (f : Record) → record_at r at ≡ f → ((n : ℕ) → In e (entries_from fuel r n) → (n ≤ e.at) × (e.at < length r))
          → In e (elim f as (λ _. List Entry) [ Whole k start len ↦ entry_at r at k start len ∷ entries_from fuel r (start + len) | Cut ↦ [] | End ↦ [] ])
          → (at ≤ e.at) × (e.at < length r)
      go (Whole k start len) q ih (Memᴰ.head p) = let w = whole_within r at q in let z : e.at ≡ at = ap (λ (x : Entry). x.at) p in (omega arith, omega arith)
      go (Whole k start len) q ih (Memᴰ.tail p) = let w = whole_within r at q in let z = ih (start + len) p in (omega arith, z.1)
      go Cut q ih m = absurd (Memᴰ.not-nil m)
      go End q ih m = absurd (Memᴰ.not-nil m)

  -- no whole record
  abbrev pub NotWhole : ℕ → Type 0
  NotWhole at = (record_at r at ≡ Cut) ⊎ (record_at r at ≡ End)

  read_none : (fuel at : ℕ) → NotWhole at → entries_from fuel r at ≡ []
  unfolding entries_from
  read_none zero at h = refl
  read_none (suc fuel) at (inl e) = rw (e, entries_from)
  read_none (suc fuel) at (inr e) = rw (e, entries_from)

  -- ---- the records up to an offset are these
  module _ {es : List Entry} {at : ℕ} (c : Chain r 0 es at) where
    abbrev left : ℕ
    left = length r - length es

    split : entries r ≡ es ++ entries_from (suc left) r at
    unfolding entries
    split = let s = chain_size c in let w = chain_within c (omega arith) in read_chain (suc (length r)) (suc left) c (omega arith)

    pub before_chain : entries_before r at ≡ es
    unfolding entries_before
    before_chain =
        rw split
        (filter_append before es (entries_from (suc left) r at)
        ∙ rw (
          filter_all before es (all_of before es (λ e m. lt-ltb e.at at (chain_before c e m))),
          filter_none before (entries_from (suc left) r at) (λ e m. le-ltb e.at at (read_place (suc left) at e m).0),
        )
        (append-nil es))
      where
        before : Entry → Bool
        before e = ltb e.at at

    abbrev up_to : Entry → Bool
    up_to e = leb e.at at

    kept : filter_by up_to es ≡ es
    kept = filter_all up_to es (all_of up_to es (λ e m. let h = chain_before c e m in le-leb e.at at (omega arith)))

    pub up_to_whole : {k start len : ℕ} → record_at r at ≡ Whole k start len → entries_up_to r at ≡ es ++ (entry_at r at k start len ∷ [])
    unfolding entries_up_to
    up_to_whole {k} {start} {len} w =
        rw (split, read_whole left at w)
        (filter_append up_to es (entry_at r at k start len ∷ entries_from left r (start + len))
        ∙ rw (
          kept,
          le-leb at at (omega arith),
          filter_none up_to (entries_from left r (start + len)) (λ e m. let h = read_place left (start + len) e m in let g = whole_within r at w in lt-leb e.at at (omega arith)),
        ))

    pub up_to_none : NotWhole at → entries_up_to r at ≡ es
    unfolding entries_up_to
    up_to_none h = rw (split, read_none (suc left) at h) (rw append-nil kept)

    pub all_read : NotWhole at → entries r ≡ es
    all_read h = split ∙ rw (read_none (suc left) at h) (append-nil es)

-- ---- one record more

pub facts_snoc : (es : List Entry) (e : Entry) → start_facts_in (es ++ (e ∷ [])) ≡ start_facts_in es ++ facts_by e.kind e.bytes []
facts_snoc [] e = refl
facts_snoc (x ∷ xs) e = go x.kind (facts_snoc xs e)
  where
    go : (k : RunKind) → start_facts_in (xs ++ (e ∷ [])) ≡ start_facts_in xs ++ facts_by e.kind e.bytes []
        → facts_by k x.bytes (start_facts_in (xs ++ (e ∷ []))) ≡ facts_by k x.bytes (start_facts_in xs) ++ facts_by e.kind e.bytes []
    go objects_record h = h
    go fact_record h = ap {B = List Fact} (λ fs. fact_of x.bytes ∷ fs) h
    go event_record h = h
    go step_record h = h
    go end_record h = h
    go other_record h = h

waiting_from_snoc : (ws : List Event) (es : List Entry) (e : Entry) → waiting_from ws (es ++ (e ∷ [])) ≡ waiting_by e.kind e.bytes (waiting_from ws es)
waiting_from_snoc ws [] e = refl
waiting_from_snoc ws (x ∷ xs) e = waiting_from_snoc (waiting_by x.kind x.bytes ws) xs e

pub waiting_snoc : (es : List Entry) (e : Entry) → waiting_in (es ++ (e ∷ [])) ≡ waiting_by e.kind e.bytes (waiting_in es)
waiting_snoc = waiting_from_snoc []

steps_from_snoc : (ws : List Event) (es : List Entry) (e : Entry) → steps_from ws (es ++ (e ∷ [])) ≡ steps_from ws es ++ closed_by e.kind (waiting_from ws es) []
steps_from_snoc ws [] e = refl
steps_from_snoc ws (x ∷ xs) e = go x.kind (λ vs. steps_from_snoc vs xs e)
  where
    go : (k : RunKind) → ((vs : List Event) → steps_from vs (xs ++ (e ∷ [])) ≡ steps_from vs xs ++ closed_by e.kind (waiting_from vs xs) [])
        → closed_by k ws (steps_from (waiting_by k x.bytes ws) (xs ++ (e ∷ [])))
        ≡ closed_by k ws (steps_from (waiting_by k x.bytes ws) xs) ++ closed_by e.kind (waiting_from (waiting_by k x.bytes ws) xs) []
    go objects_record h = h ws
    go fact_record h = h ws
    go event_record h = h (ws ++ (event_of x.bytes ∷ []))
    go step_record h = ap {B = List (List Event)} (λ ess. ws ∷ ess) (h [])
    go end_record h = h ws
    go other_record h = h ws

pub steps_snoc : (es : List Entry) (e : Entry) → steps_in (es ++ (e ∷ [])) ≡ steps_in es ++ closed_by e.kind (waiting_in es) []
steps_snoc = steps_from_snoc []

objects_from_snoc : (n : ℕ) (es : List Entry) (e : Entry) → count_from n (es ++ (e ∷ [])) ≡ objects_by e.kind e.bytes (count_from n es)
objects_from_snoc n [] e = refl
objects_from_snoc n (x ∷ xs) e = objects_from_snoc (objects_by x.kind x.bytes n) xs e

pub objects_snoc : (es : List Entry) (e : Entry) → objects_in (es ++ (e ∷ [])) ≡ objects_by e.kind e.bytes (objects_in es)
objects_snoc = objects_from_snoc 0

pub closed_snoc : (es : List Entry) (e : Entry) → closed_in es ≡ false → closed_in (es ++ (e ∷ [])) ≡ is_end e.kind
closed_snoc es e h = any_append (λ (e : Entry). is_end e.kind) es (e ∷ []) ∙ rw h (go (is_end e.kind))
  where
    go : (b : Bool) → b || false ≡ b
    go true = refl
    go false = refl

begun_snoc : (es : List Entry) (e : Entry) → begun_in (es ++ (e ∷ [])) ≡ begun_in es || (begins e.kind || false)
begun_snoc es e = any_append (λ (e : Entry). begins e.kind) es (e ∷ [])

-- ---- a record that adds nothing of a sort

module _ (es : List Entry) (e : Entry) where
  pub facts_keep : facts_by e.kind e.bytes [] ≡ [] → start_facts_in (es ++ (e ∷ [])) ≡ start_facts_in es
  facts_keep h = facts_snoc es e ∙ rw h (append-nil (start_facts_in es))

  pub steps_keep : closed_by e.kind (waiting_in es) [] ≡ [] → steps_in (es ++ (e ∷ [])) ≡ steps_in es
  steps_keep h = steps_snoc es e ∙ rw h (append-nil (steps_in es))

  pub begun_keep : begins e.kind ≡ false → begun_in (es ++ (e ∷ [])) ≡ begun_in es
  begun_keep h = begun_snoc es e ∙ rw h (go (begun_in es))
    where
      go : (b : Bool) → b || false ≡ b
      go true = refl
      go false = refl

  -- where the run has begun, or begins with this record
  pub begun_here : begins e.kind ≡ true → begun_in (es ++ (e ∷ [])) ≡ true
  begun_here h = begun_snoc es e ∙ rw h (or_r (begun_in es) refl)

  pub begun_before : begun_in es ≡ true → begun_in (es ++ (e ∷ [])) ≡ true
  begun_before h = begun_snoc es e ∙ rw h

-- before the first record of kind 18 to 20 there is no step, and no event waits
pub nothing_early : (es : List Entry) → begun_in es ≡ false → (steps_in es ≡ []) × (waiting_in es ≡ [])
nothing_early [] h = (refl, refl)
nothing_early (x ∷ xs) h = go x.kind h (λ k. nothing_early xs k)
  where
    go : (k : RunKind) → begins k || begun_in xs ≡ false → (begun_in xs ≡ false → (steps_in xs ≡ []) × (waiting_in xs ≡ []))
        → (closed_by k [] (steps_from (waiting_by k x.bytes []) xs) ≡ []) × (waiting_from (waiting_by k x.bytes []) xs ≡ [])
    go objects_record h ih = ih h
    go fact_record h ih = ih h
    go event_record h ih = absurd (true≢false h)
    go step_record h ih = absurd (true≢false h)
    go end_record h ih = absurd (true≢false h)
    go other_record h ih = ih h
