-- Demand 3 of what judging answers, and of the witness that it leaves. Assumes nothing.
use mathlib.Core.Path.{◌≡◌, refl, sym, ap, ap₂, ◌∙◌}
use mathlib.Core.Bool.{Bool, true, false, ◌&&◌, cond, false≢true}
use mathlib.Core.Logic.{◌⊎◌, inl, inr}
use mathlib.Core.List.Memᴰ
use mathlib.Core.List.{List, [], ◌∷◌, ◌++◌, map, append_assoc}
use Prim.Native.Nat.{ℕ, ◌-◌, ◌*◌, ◌≤◌}
use native.Mathlib.Omega.{arith}
use lib.Dec.{ltb, leb}
use lib.ListN.{length, take, drop, replicate, length-append, length-map, length-replicate}
use lib.Seq.{take_at, drop_at}
use borrow.Author.Tests.{leb-true, ltb-false, le-leb, eqb-true}
use Rattle.records.specs.Lists.{In, all}
use Rattle.records.specs.Memory.{over}
use Rattle.records.proofs.Lists.{and_l, and_r, and_i, all_in, map_back}
use Rattle.records.proofs.Memory.{length_over}
use Rattle.literals.specs.declared.Object.{Object}
use Rattle.literals.specs.Domain.{object, Fact, Domain, arity}
use Rattle.literals.specs.Decode.{Decoded, domain, decode}
use Rattle.literals.proofs.Bounds.{arity_six, decoded_bounded}
use Rattle.verdict.specs.Decision.{rows, witness}
use Rattle.verdict.specs.Judged.{object_numbers, fact_bytes, Answer, answer_at, decided, decided_file, writes_witness, judged_domain, judged_by, judged, witness_memory_by, witness_after}
use Rattle.verdict.specs.Claims.{has_arity, is_fact, plain_objects, none_lasts, Shown, read_facts, AcceptedSafe, RefusedHarmful, ShownBy, WitnessHarms}
use Rattle.verdict.proofs.Answers.{judging_decides}
use Rattle.verdict.proofs.Demand.{always_shown}
use Rattle.verdict.proofs.Files.{decided_file_lem, file_safe, file_exact, file_witness}

-- an answer that is neither 30 nor 31 is the file's decision
decides : (f report wit : List ℕ) → ((judged f report wit).number ≡ 30 → ⊥) → ((judged f report wit).number ≡ 31 → ⊥) → judged f report wit ≡ decided_file f
decides f report wit a b = go (judging_decides f report wit)
  where
    go : (judged f report wit ≡ decided_file f) ⊎ ((judged f report wit ≡ answer_at 30 0) ⊎ (judged f report wit ≡ answer_at 31 0)) → judged f report wit ≡ decided_file f
    go (inl e) = e
    go (inr (inl e)) = absurd (a (ap (λ (x : Answer). x.number) e))
    go (inr (inr e)) = absurd (b (ap (λ (x : Answer). x.number) e))

pub judged_safe : (f report wit : List ℕ) → AcceptedSafe f (judged f report wit).number
judged_safe f report wit D e a = file_safe f D e (rw (ap (λ (x : Answer). x.number) (decides f report wit (not_thirty a) (not_more a))) at a)
  where
    not_thirty : ((judged f report wit).number ≡ 0) ⊎ ((judged f report wit).number ≡ 1) → (judged f report wit).number ≡ 30 → ⊥
    not_thirty (inl z) q = omega arith
    not_thirty (inr z) q = omega arith

    not_more : ((judged f report wit).number ≡ 0) ⊎ ((judged f report wit).number ≡ 1) → (judged f report wit).number ≡ 31 → ⊥
    not_more (inl z) q = omega arith
    not_more (inr z) q = omega arith

pub judged_exact : (f report wit : List ℕ) → RefusedHarmful f (judged f report wit).number
judged_exact f report wit D e nl a b = rw (ap (λ (x : Answer). x.number) (decides f report wit a b)) (file_exact f D e nl)

-- ---- the witness's bytes

-- a fact of at most 6 objects takes 8 bytes, and they say it
read_back : (fs : List Fact) (rest : List ℕ) → ((g : Fact) → In g fs → length g.args ≤ 6) → read_facts (length fs) (fact_bytes fs ++ rest) ≡ fs
unfolding read_facts fact_bytes
read_back [] rest h = refl
read_back (f ∷ fs) rest h = ap₂ ◌∷◌ this (ap (read_facts (length fs)) behind ∙ read_back fs rest (λ g m. h g (Memᴰ.tail m)))
  where
    k : ℕ
    k = length f.args

    fill : List ℕ
    fill = replicate (6 - k) 255

    tail : List ℕ
    tail = (object_numbers f.args ++ (fill ++ fact_bytes fs)) ++ rest

    this : record { rel = f.rel; args = map object (take k tail) } ≡ f
    this =
        let e : take k tail ≡ object_numbers f.args = ap (take k) (append_assoc (object_numbers f.args) (fill ++ fact_bytes fs) rest) ∙ take_at (object_numbers f.args) ((fill ++ fact_bytes fs) ++ rest) k (length-map f.args (λ (o : Object). o.0)) in
        let a : map object (take k tail) ≡ f.args = ap (map object) e ∙ map_back object (λ (o : Object). o.0) (λ o. refl) f.args in
        λ i. record { rel = f.rel; args = a i }

    behind : drop 8 (f.rel ∷ k ∷ tail) ≡ fact_bytes fs ++ rest
    behind = six (object_numbers f.args) (length-map f.args (λ (o : Object). o.0)) (h f (Memᴰ.head refl))
      where
        six : (ns : List ℕ) → length ns ≡ k → k ≤ 6 → drop 6 ((ns ++ (replicate (6 - k) 255 ++ fact_bytes fs)) ++ rest) ≡ fact_bytes fs ++ rest
        six ns e l =
            ap (drop 6) (append_assoc ns (replicate (6 - k) 255 ++ fact_bytes fs) rest ∙ ap (λ (r : List ℕ). ns ++ r) (append_assoc (replicate (6 - k) 255) (fact_bytes fs) rest) ∙ sym (append_assoc ns (replicate (6 - k) 255) (fact_bytes fs ++ rest)))
            ∙ drop_at (ns ++ replicate (6 - k) 255) (fact_bytes fs ++ rest) 6 (let a = length-append ns (replicate (6 - k) 255) in let b : length (replicate {A = ℕ} (6 - k) 255) ≡ 6 - k = length-replicate (6 - k) 255 in omega arith)

-- the bytes of facts of at most 6 objects
bytes_length : (fs : List Fact) → ((g : Fact) → In g fs → length g.args ≤ 6) → length (fact_bytes fs) ≡ 8 * length fs
unfolding fact_bytes
bytes_length [] h = refl
bytes_length (f ∷ fs) h =
    let l = h f (Memᴰ.head refl) in
    let r = bytes_length fs (λ g m. h g (Memᴰ.tail m)) in
    let a = length-append (object_numbers f.args) (replicate (6 - length f.args) 255 ++ fact_bytes fs) in
    let b = length-append (replicate {A = ℕ} (6 - length f.args) 255) (fact_bytes fs) in
    let c : length (replicate {A = ℕ} (6 - length f.args) 255) ≡ 6 - length f.args = length-replicate (6 - length f.args) 255 in
    let d = length-map f.args (λ (o : Object). o.0) in
    omega arith

-- facts of a file's domain have at most 6 objects
few_objects : (f : List ℕ) (D : Domain) → decode f ≡ domain D → (objs : List Object) (fs : List Fact) → all (is_fact D objs) fs ≡ true → (g : Fact) → In g fs → length g.args ≤ 6
few_objects f D e objs fs t g m =
    let a = and_l (has_arity D g.rel g.args) _ (all_in (is_fact D objs) fs t m) in
    let l : length g.args ≡ arity D g.rel = eqb-true _ _ (and_r (ltb g.rel (length D.arities)) _ a) in
    let s = arity_six D (decoded_bounded f D e).arities g.rel in
    omega arith

-- where no action lasts, 40 to 42 write one
writes : (D : Domain) (n : ℕ) → none_lasts D ≡ true → 40 ≤ n → n ≤ 42 → writes_witness D n ≡ true
unfolding writes_witness
writes D n nl lo hi = and_i (and_i (le-leb 40 n lo) (le-leb n 42 hi)) (always_shown D nl)

-- a witness that judging writes fits, and is what the definition says
written : (D : Domain) (report wit : List ℕ) → leb 40 (judged_domain D report wit).number ≡ true → writes_witness D (decided D).number ≡ true
    → (witness_memory_by (domain D) report wit ≡ over (fact_bytes (witness D)) wit) × (8 * length (witness D) ≤ length wit)
unfolding judged_domain
written D report wit = go (ltb (length report) (4 * length (rows D))) (ltb (length wit) (8 * length (witness D))) refl
  where
    go : (b c : Bool) → ltb (length wit) (8 * length (witness D)) ≡ c
        → leb 40 (cond b (answer_at 30 0) (cond (writes_witness D (decided D).number && c) (answer_at 31 0) (decided D))).number ≡ true → writes_witness D (decided D).number ≡ true
        → (cond (writes_witness D (cond b (answer_at 30 0) (cond (writes_witness D (decided D).number && c) (answer_at 31 0) (decided D))).number) (over (fact_bytes (witness D)) wit) wit ≡ over (fact_bytes (witness D)) wit)
        × (8 * length (witness D) ≤ length wit)
    go true c q t w = absurd (false≢true t)
    go false true q t w = let z : leb 40 31 ≡ true = rw w at t in absurd (false≢true z)
    go false false q t w = rw (w, w) (refl, ltb-false (length wit) (8 * length (witness D)) q)

judged_of : (f : List ℕ) (D : Domain) → decode f ≡ domain D → (report wit : List ℕ) → judged f report wit ≡ judged_domain D report wit
unfolding judged
judged_of f D e report wit = ap (λ (d : Decoded). judged_by d report wit) e

witness_of_lem : (f : List ℕ) (D : Domain) → decode f ≡ domain D → (report wit : List ℕ) → witness_after f report wit ≡ witness_memory_by (domain D) report wit
unfolding witness_after
witness_of_lem f D e report wit = ap (λ (d : Decoded). witness_memory_by d report wit) e

pub judged_shown : (f report wit : List ℕ)
    → WitnessHarms f (judged f report wit).number (witness_after f report wit) (judged f report wit).first (judged f report wit).second (judged f report wit).third
unfolding over
judged_shown f report wit D e nl t =
    let n = leb-true 40 (judged f report wit).number (and_l _ _ t) in
    let is = decides f report wit (λ z. omega arith) (λ z. omega arith) in
    rw (is, witness_of_lem f D e report wit) (shown is (file_witness f D e nl (rw is at t)))
  where
    shown : judged f report wit ≡ decided_file f → Shown D (decided_file f) → ShownBy D (decided_file f).number (witness_memory_by (domain D) report wit) (decided_file f).first (decided_file f).second (decided_file f).third
    shown is s =
        let d = ap (λ (x : Answer). x.number) (decided_file_lem f D e) in
        let lo = s.numbered.0 in
        let hi = s.numbered.1 in
        let w = written D report wit
        (ap (λ (x : Answer). leb 40 x.number) (sym (judged_of f D e report wit) ∙ is) ∙ le-leb 40 (decided_file f).number lo)
        (writes D (decided D).number nl (omega arith) (omega arith)) in
        let few = few_objects f D e (plain_objects D (decided_file f).first) (witness D) s.harm.facts_over in
        let l = bytes_length (witness D) few in
        let r = w.1 in
        record {
          numbered = s.numbered;
          action_listed = s.action_listed;
          class_listed = s.class_listed;
          room = rw w.0 (rw (length_over (fact_bytes (witness D)) wit (omega arith)) r);
          at_start_lem = s.at_start_lem;
          harm = rw (w.0, read_over few) s.harm;
        }
      where
        read_over : ((g : Fact) → In g (witness D) → length g.args ≤ 6) → read_facts (length (witness D)) (over (fact_bytes (witness D)) wit) ≡ witness D
        read_over few = read_back (witness D) (drop (length (fact_bytes (witness D))) wit) few
