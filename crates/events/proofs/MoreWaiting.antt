-- One more event that waits. Assumes nothing.
use mathlib.Core.Path.{◌≡◌, refl, sym, ap, ap₂, ◌∙◌}
use mathlib.Core.List.{List, [], ◌∷◌, ◌++◌, map, flat_map, map-append}
use Prim.Native.Nat.{ℕ, ◌+◌, ◌*◌, ◌<◌}
use native.Mathlib.Omega.{arith}
use lib.ListN.{length, set, length-append, length-map}
use lib.Seq.{paste}
use Rattle.records.proofs.Lists.{flat_map_snoc}
use Rattle.literals.specs.Domain.{Domain}
use Rattle.literals.specs.Held.{pad, Bounded}
use Rattle.literals.proofs.Tables.{length_flat, pad_more, pad_paste}
use Rattle.literals.specs.Matching.{moment_number}
use Rattle.verdict.specs.Machine.{Event}
use Rattle.events.specs.Held.{Waiting, ground_row, waiting_of, EventsFit}
use Rattle.events.proofs.FactRows.{waiting_count}
use Rattle.events.proofs.OpenRows.{length_ground}

-- what waits, with the byte of a moment and a row behind the others
pub waiting_more : {D : Domain} → Bounded D → (es : List Event) → EventsFit D es → (w : Waiting) → w ≡ waiting_of es → w.count < 16
    → (e : Event) (moment : ℕ) (act rows : List ℕ) → moment ≡ moment_number e.moment → act ≡ ground_row e.act
    → rows ≡ paste w.rows (17 * w.count) act (length act)
    → record { count = w.count + 1; moments = set w.moments w.count moment; rows = rows } ≡ waiting_of (es ++ (e ∷ []))
unfolding waiting_of
waiting_more {D} B es F w p l e moment act rows q r s = λ i. record { count = count i; moments = moments i; rows = all i }
  where
    moments_of_lem : List ℕ
    moments_of_lem = map (λ (e : Event). moment_number e.moment) es

    rows_of : List ℕ
    rows_of = flat_map (λ (e : Event). ground_row e.act) es

    size : w.count ≡ length es
    size = waiting_count es w p

    many : length moments_of_lem ≡ length es
    many = length-map es (λ (e : Event). moment_number e.moment)

    count : w.count + 1 ≡ length (es ++ (e ∷ []))
    count = let a = length-append es (e ∷ []) in let b = size in omega arith

    moments : set w.moments w.count moment ≡ pad 16 (map (λ (e : Event). moment_number e.moment) (es ++ (e ∷ [])))
    moments =
        let a = size in
        let b = many in
        ap₂ (λ (t : List ℕ) (n : ℕ). set t n moment) (ap (λ (x : Waiting). x.moments) p) (size ∙ sym many)
        ∙ pad_more 16 moments_of_lem moment (omega arith)
        ∙ ap (pad 16) (ap (λ (m : ℕ). moments_of_lem ++ (m ∷ [])) q ∙ sym (map-append (λ (e : Event). moment_number e.moment) es (e ∷ [])))

    all : rows ≡ pad 272 (flat_map (λ (e : Event). ground_row e.act) (es ++ (e ∷ [])))
    all =
        let k = length_flat (λ (e : Event). ground_row e.act) es (λ f m. length_ground B f.act (F f m)) in
        s
        ∙ ap₂ (λ (t : List ℕ) (n : ℕ). paste t (17 * n) act (length act)) (ap (λ (x : Waiting). x.rows) p) size
        ∙ pad_paste 272 rows_of act (17 * length es) (length act) k refl
        ∙ ap (pad 272) (ap (λ (g : List ℕ). rows_of ++ g) r ∙ sym (flat_map_snoc (λ (e : Event). ground_row e.act) es e))
