-- True angles that meet the premise, by computation: a gyro at 480 °/s, with 100 fine units to an output step, an unfit run of 16 samples and one of 17.
-- Assumes nothing.
use Prim.Native.Nat.{ℕ, zero, suc, ◌<◌}
use mathlib.Core.Bool.{Bool, true, false}
use mathlib.Core.List.{List, [], ◌∷◌}
use mathlib.Core.Path.{◌≡◌, refl}
use native.Mathlib.Omega.{arith}
use lib.IntN.{ℤ, pos}
use lib.ListN.{get_or, take}
use Rattle.integers.specs.Bytes.{twos_complement}
use Rattle.integers.specs.Folding.{fold}
use Rattle.gaps.specs.Gaps.{elapsed}
use Rattle.motion.specs.Totals.{reading_of}
use Rattle.doubt.specs.Doubt.{added, sum_with, marks, no_doubt, fit_doubt, unfit_doubt, doubt_step}
use Rattle.doubt.specs.Slipped.{Counted, none, Turn, TrueAngles}
use Rattle.doubt.proofs.Sums.{doubt_after}

-- a datagram as the axis sees it
abbrev seen : Bool → ℤ → ℕ → Counted
seen fit reading counter = record { sighting = record { fit = fit; reading = reading }; counter = counter }

-- what the two unfit ones carry isn't the angle
abbrev datagrams : List Counted
datagrams = seen true (pos 0) 250 ∷ seen false (pos 5) 2 ∷ seen true (pos 8053063) 10 ∷ seen false (pos 5) 19 ∷ seen true (fold (pos 16609443)) 27 ∷ []

abbrev angles : List ℤ
angles = pos 0 ∷ pos 402653184 ∷ pos 805306368 ∷ pos 1258291200 ∷ pos 1660944384 ∷ []

angles_met : TrueAngles 100 datagrams angles
unfolding reading_of fold twos_complement
angles_met = record { one_each = refl; turns = turn; carried = carry }
  where
    turn : (i : ℕ) → suc i < 5
        → Turn 100 (get_or datagrams i none).counter (get_or datagrams (suc i) none).counter (get_or angles i (pos 0)) (get_or angles (suc i) (pos 0))
    turn zero h = record { samples = 8; some = omega arith; few = omega arith; counted = refl; bounded = omega arith }
    turn (suc zero) h = record { samples = 8; some = omega arith; few = omega arith; counted = refl; bounded = omega arith }
    turn (suc (suc zero)) h = record { samples = 9; some = omega arith; few = omega arith; counted = refl; bounded = omega arith }
    turn (suc (suc (suc zero))) h = record { samples = 8; some = omega arith; few = omega arith; counted = refl; bounded = omega arith }
    turn (suc (suc (suc (suc i)))) h = absurd (omega arith)

    carry : (i : ℕ) → i < 5 → (get_or datagrams i none).sighting.fit ≡ true
        → (get_or datagrams i none).sighting.reading ≡ reading_of 100 (get_or angles i (pos 0))
    carry zero h f = refl
    carry (suc zero) h f = absurd (let z : ◌≡◌ {A = ℕ} 0 1 = cc in omega arith)
    carry (suc (suc zero)) h f = refl
    carry (suc (suc (suc zero))) h f = absurd (let z : ◌≡◌ {A = ℕ} 0 1 = cc in omega arith)
    carry (suc (suc (suc (suc zero)))) h f = refl
    carry (suc (suc (suc (suc (suc i))))) h f = absurd (omega arith)

-- the total isn't marked behind the 16 samples, and is behind the 17
marks_met :
    ((doubt_after 2000 false true 0 no_doubt (take 3 datagrams)).marked ≡ false) × ((doubt_after 2000 false true 0 no_doubt datagrams).marked ≡ true)
unfolding doubt_after doubt_step fit_doubt unfit_doubt sum_with marks added elapsed
marks_met = (refl, refl)
