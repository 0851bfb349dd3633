-- A list of pieces of which one is turned down by 12 and a later one is taken, so that the stream is as long as a session's may be.
-- Not by computation: the number of full pieces is a variable until the end.
-- Assumes nothing.
use Prim.Native.Nat.{ℕ, zero, suc, ◌+◌, ◌*◌, ◌^◌, ◌≤◌, ◌<◌}
use mathlib.Core.Path.{◌≡◌, refl, ap, ◌∙◌}
use mathlib.Core.List.{List, [], ◌∷◌, ◌++◌}
use native.Mathlib.Nat.{suc-mul}
use native.Mathlib.Omega.{arith}
use lib.ListN.{length, length-append, replicate}
use Rattle.setup.specs.Setup.{ruling_on}
use Rattle.setup.specs.declared.Setup.{Setup}
use Rattle.scan.specs.Rules.{Limits}
use Rattle.scan.specs.Calls.{Report, taken_whole, turned_down}
use Rattle.scan.specs.Stream.{outcome, reports, stream}
use Rattle.scan.proofs.StreamLaws.{outcome_past, outcome_taken, stream_down, reports_down, stream_whole, reports_whole}
use Rattle.search.specs.Search.{limits_of}
use Rattle.session.specs.declared.Session.{Session}
use Rattle.feeding.specs.declared.Datagram.{Datagram}
use Rattle.feeding.specs.Promises.{stream_of, FedInTurn, CanBeFed}
use Rattle.feeding.proofs.Demands.{demand3}
use Rattle.std.specs.Prelude.{Ok}
use Rattle.refusals.specs.declared.Refusal.TheVariants.{StreamTooLong}

-- the report of a piece of n bytes that is taken whole
abbrev whole : ℕ → Report
whole n = record { outcome = taken_whole; taken = n }

-- k pieces alike that keep to the limits, before others
module _ (L : Limits) (p : List ℕ) (ps : List (List ℕ)) (small : length p ≤ L.piece) where
  reports_alike :
      (k n : ℕ) → n + k * length p ≤ L.session
      → reports L n (replicate k p ++ ps) ≡ replicate k (whole (length p)) ++ reports L (n + k * length p) ps
  reports_alike zero n h =
      let e : n ≡ n + 0 * length p = omega arith in
      ap (λ (m : ℕ). reports L m ps) e
  reports_alike (suc k) n h =
      let m = suc-mul k (length p) in
      let e : n + length p + k * length p ≡ n + suc k * length p = omega arith in
      reports_whole L n p (replicate k p ++ ps) (outcome_taken L n (length p) small (omega arith))
      ∙ ap (λ (rs : List Report). whole (length p) ∷ rs)
      (reports_alike k (n + length p) (omega arith) ∙ ap (λ (j : ℕ). replicate k (whole (length p)) ++ reports L j ps) e)

  length_alike :
      (k n : ℕ) → n + k * length p ≤ L.session
      → length (stream L n (replicate k p ++ ps)) ≡ k * length p + length (stream L (n + k * length p) ps)
  length_alike zero n h =
      let e : n ≡ n + 0 * length p = omega arith in
      ap (λ (m : ℕ). length (stream L m ps)) e ∙ omega arith
  length_alike (suc k) n h =
      let m = suc-mul k (length p) in
      let e : n + length p + k * length p ≡ n + suc k * length p = omega arith in
      let v = stream L (n + length p) (replicate k p ++ ps) in
      let a = ap length (stream_whole L n p (replicate k p ++ ps) (outcome_taken L n (length p) small (omega arith))) in
      let i = length_alike k (n + length p) (omega arith) in
      let g = ap (λ (j : ℕ). length (stream L j ps)) e in
      omega (arith, a, length-append p v, i, g, m)

-- a piece that is taken, n bytes being taken before it, one that is turned down by 12, and one that is taken after that
module _ (L : Limits) (n : ℕ) (p q r : List ℕ) (small : length p ≤ L.piece) (fits : n + length p + length r ≤ L.session)
    (smallToo : length q ≤ L.piece) (past : L.session < n + length p + length q) (smallLast : length r ≤ L.piece) where
  first_taken : outcome L n (length p) ≡ taken_whole
  first_taken = outcome_taken L n (length p) small (omega arith)

  turned_down_lem : outcome L (n + length p) (length q) ≡ turned_down StreamTooLong
  turned_down_lem = outcome_past L (n + length p) (length q) smallToo past

  last_taken : outcome L (n + length p) (length r) ≡ taken_whole
  last_taken = outcome_taken L (n + length p) (length r) smallLast fits

  reports_past : reports L n (p ∷ q ∷ r ∷ []) ≡ whole (length p) ∷ record { outcome = turned_down StreamTooLong; taken = 0 } ∷ whole (length r) ∷ []
  unfolding reports
  reports_past =
      reports_whole L n p (q ∷ r ∷ []) first_taken
      ∙ ap (λ (rs : List Report). whole (length p) ∷ rs)
      (reports_down L (n + length p) q (r ∷ []) turned_down_lem
      ∙ ap (λ (rs : List Report). record { outcome = turned_down StreamTooLong; taken = 0 } ∷ rs) (reports_whole L (n + length p) r [] last_taken))

  length_past : length (stream L n (p ∷ q ∷ r ∷ [])) ≡ length p + length r
  unfolding stream
  length_past =
      let e =
      stream_whole L n p (q ∷ r ∷ []) first_taken
      ∙ ap (λ (v : List ℕ). p ++ v) (stream_down L (n + length p) q (r ∷ []) turned_down_lem ∙ stream_whole L (n + length p) r [] last_taken)
      in
      omega (arith, ap length e, length-append p (r ++ []), length-append r [])

abbrev zeros : ℕ → List ℕ
zeros n = replicate n 0

-- k full pieces and one that leaves 10 bytes, if k + 1 full ones are a session's bytes; then one of 11 bytes, and one of 10
abbrev last_three : List (List ℕ)
last_three = zeros 4086 ∷ zeros 11 ∷ zeros 10 ∷ []

unfoldable pieces : ℕ → List (List ℕ)
pieces k = replicate k (zeros 4096) ++ last_three

-- all are taken whole but the one of 11 bytes
unfoldable all_but_one : ℕ → List Report
all_but_one k = replicate k (whole 4096) ++ whole 4086 ∷ record { outcome = turned_down StreamTooLong; taken = 0 } ∷ whole 10 ∷ []

module _ (u : Setup) (k : ℕ) (full : k * 4096 + 4096 ≡ (limits_of u).session) where
  reports_of : reports (limits_of u) 0 (pieces k) ≡ all_but_one k
  unfolding pieces all_but_one
  reports_of =
      reports_alike (limits_of u) (zeros 4096) last_three (omega arith) k 0 (omega arith)
      ∙ ap (λ (rs : List Report). replicate k (whole 4096) ++ rs)
      (reports_past (limits_of u) (0 + k * 4096) (zeros 4086) (zeros 11) (zeros 10) (omega arith) (omega arith) (omega arith) (omega arith)
      (omega arith))

  length_of_lem : length (stream_of u (pieces k)) ≡ (limits_of u).session
  unfolding pieces
  length_of_lem =
      omega (
        arith,
        length_alike (limits_of u) (zeros 4096) last_three (omega arith) k 0 (omega arith),
        length_past (limits_of u) (0 + k * 4096) (zeros 4086) (zeros 11) (zeros 10) (omega arith) (omega arith) (omega arith) (omega arith)
            (omega arith),
      )

-- 4,194,303 full pieces: a session takes 2 ^ 34 bytes, though a piece before the last is turned down by 12
module _ (u : Setup) (ok : ruling_on u ≡ Ok tt) where
  limit_reports : reports (limits_of u) 0 (pieces 4194303) ≡ all_but_one 4194303
  limit_reports = reports_of u 4194303 refl

  limit_length : length (stream_of u (pieces 4194303)) ≡ 2 ^ 34
  limit_length = length_of_lem u 4194303 refl

  -- they can be fed, and are in each run reported so
  limit_fed : CanBeFed u (pieces 4194303)
  limit_fed = (demand3 u ok).fed (pieces 4194303)

  limit_reported :
      {os : List Datagram} {rs : List Report} {t : Session} → FedInTurn u (pieces 4194303) os rs t
      → (rs ≡ all_but_one 4194303) × (t.fed ≡ 2 ^ 34)
  limit_reported c =
      let r = (demand3 u ok).reported c in
      (r.0 ∙ limit_reports, r.2 ∙ limit_length)
