-- 13 lets pass exactly the values that it says. Assumes nothing.
use Prim.Native.Nat.{ℕ, zero, suc, ◌^◌}
use mathlib.Core.Path.{◌≡◌, refl}
use mathlib.Core.Bool.{true, false}
use mathlib.Core.List.{List, []}
use borrow.Author.Tests.{eqb-false}
use lib.Dec.{eqb, eqb-suc-zero}
use lib.IntN.{ℤ, pos}
use lib.ListN.{get_or}
use Rattle.integers.specs.Ranges.{in_reading}
use Rattle.integers.proofs.Booleans.{three_split, three_true}
use Rattle.integers.proofs.Ranges.{within_true, le_within}
use Rattle.motion.specs.Totals.{one_of, total_at}
use Rattle.motion.specs.Totals.{Totals}
use Rattle.shown_line.specs.ShownLine.{row_fits, readings_fit, total_within, group_within, totals_within, outside}
use Rattle.shown_line.specs.PassedLine.{PassesThirteen}
use Rattle.shown_line.proofs.Answers.{inside}

module _ (ordinal : ℕ) (readings : List (List ℤ)) (totals : Totals) where
  pub inside_passes : outside ordinal readings totals ≡ false → PassesThirteen ordinal readings totals
  unfolding readings_fit totals_within
  inside_passes e =
      let i = inside ordinal readings totals e in
      record {
        fit =
            λ group axis h l.
            three_split (λ (k : ℕ). in_reading (get_or (get_or readings group []) k (pos 0)))
            (three_split (λ (g : ℕ). row_fits (get_or readings g [])) i.0 group h) axis l;
        small =
            λ group axis h l.
            within_true (2 ^ 53) (total_at totals group axis).steps
            (three_split (λ (k : ℕ). total_within (total_at totals group k))
            (three_split (λ (g : ℕ). group_within (one_of totals.gyro totals.accelerometer totals.inclinometer g)) i.1 group h) axis l);
        counted = eqb-false ordinal 0 i.2;
      }

  not_zero : (n : ℕ) → (n ≡ 0 → ⊥) → eqb n 0 ≡ false
  not_zero zero h = absurd (h refl)
  not_zero (suc n) h = eqb-suc-zero n

  module _ (P : PassesThirteen ordinal readings totals) where
    readings_fit_lem : readings_fit readings ≡ true
    unfolding readings_fit
    readings_fit_lem =
        three_true (λ (g : ℕ). row_fits (get_or readings g []))
        (λ g h. three_true (λ (k : ℕ). in_reading (get_or (get_or readings g []) k (pos 0))) (λ k l. P.fit g k h l))

    totals_within_lem : totals_within totals ≡ true
    unfolding totals_within
    totals_within_lem =
        three_true (λ (g : ℕ). group_within (one_of totals.gyro totals.accelerometer totals.inclinometer g))
        (λ g h. three_true (λ (k : ℕ). total_within (total_at totals g k)) (λ k l. le_within (2 ^ 53) (total_at totals g k).steps (P.small g k h l)))

    pub passes_inside : outside ordinal readings totals ≡ false
    unfolding outside
    passes_inside = rw (readings_fit_lem, totals_within_lem, not_zero ordinal P.counted)
