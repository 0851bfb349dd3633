-- 02, 2.5, as facts: what a datagram does to the sum and to the mark of a gyro axis, and the numbers of the request.
use Rattle.std.specs.Prelude.{ℕ, ◌+◌, ◌-◌, ◌*◌, ◌^◌, ◌≤◌, ◌<◌, min, Bool, true, false, ◌≡◌, pos}
use Rattle.gaps.specs.Gaps.{samples, elapsed}
use Rattle.gaps.specs.declared.Samples.{Samples}
use Rattle.motion.specs.declared.Axis.{Axis}
use Rattle.doubt.specs.Doubt.{added, sum_with, no_doubt, doubt_step, gyro_step, marks_of}
use Rattle.doubt.specs.Slipped.{greatest_turn}
use Rattle.doubt.specs.declared.AxisDoubt.{AxisDoubt}
use Rattle.doubt.specs.Doubt.{GyroDoubt}

pub record DoubtRules : Type 0 where
  -- a datagram adds its d, the internal samples since the datagram before; a first one adds none
  pub later_adds : (previous counter : ℕ) → added false previous counter ≡ elapsed previous counter
  pub first_adds : (previous counter : ℕ) → (added true previous counter).0 ≡ 0
  -- at an unfit one, on an axis that has begun, the sum grows by d, stopping at 65,535; the mark is as it was
  pub unfit_adds : (rate : ℕ) (a : AxisDoubt) (d : Samples) → (doubt_step rate true false a d).samples.0 ≡ min (a.samples.0 + d.0) 65535
  pub unfit_keeps : (rate : ℕ) (begun : Bool) (a : AxisDoubt) (d : Samples) → (doubt_step rate begun false a d).marked ≡ a.marked
  -- at a fit one it goes to 0
  pub fit_ends : (rate : ℕ) (begun : Bool) (a : AxisDoubt) (d : Samples) → (doubt_step rate begun true a d).samples.0 ≡ 0
  -- a sum above 16 there, d included, marks the total, and under external trigger any does, from the second fit one on; else the mark is as it was
  pub far_marks : (rate : ℕ) (a : AxisDoubt) (d : Samples) → 16 < a.samples.0 + d.0 → (doubt_step rate true true a d).marked ≡ true
  pub trigger_marks : (a : AxisDoubt) (d : Samples) → (doubt_step 0 true true a d).marked ≡ true
  pub near_keeps :
      (rate : ℕ) (a : AxisDoubt) (d : Samples) → 0 < rate → a.samples.0 + d.0 ≤ 16 → (doubt_step rate true true a d).marked ≡ a.marked
  -- a mark stays for the rest of the session
  pub stays : (rate : ℕ) (begun fit : Bool) (a : AxisDoubt) (d : Samples) → a.marked ≡ true → (doubt_step rate begun fit a d).marked ≡ true
  -- before the first fit one nothing is kept, and that one marks nothing
  pub idle : (rate : ℕ) (fit : Bool) (d : Samples) → doubt_step rate false fit no_doubt d ≡ no_doubt
  -- the stop at 65,535 loses nothing: what is added to a sum that stopped gives the stopped sum of all, and that is above 16 exactly if the sum of all is
  pub stop_adds : (n d : ℕ) → sum_with (samples (min n 65535)) (samples d) ≡ samples (min (n + d) 65535)
  pub stop_far : (n : ℕ) → (16 < n → 16 < min n 65535) × (16 < min n 65535 → 16 < n)
  -- in numbers, by the names of the fields: a datagram that adds 1 sample, with overload of X and Y, at 250 datagrams a second
  pub each_axis :
      let going : Axis = record { begun = true; last = pos 0; total = pos 0 } in
      gyro_step 250 true (record { x = going; y = going; z = going })
      (record {
        x = record { samples = samples 3; marked = false };
        y = record { samples = samples 15; marked = false };
        z = record { samples = samples 16; marked = false };
      }) 0x13 (samples 1)
      ≡ record {
        x = record { samples = samples 4; marked = false };
        y = record { samples = samples 16; marked = false };
        z = record { samples = samples 0; marked = true };
      }
  pub each_mark : (g : GyroDoubt) → marks_of g ≡ record { x = g.x.marked; y = g.y.marked; z = g.z.marked }
  -- a gyro saturates at 480 °/s: with shift 21, in each of 2,000 samples a second, at so many hundredths of an output step
  pub full_rate : 2000 * greatest_turn ≡ 100 * (480 * 2 ^ 21)
  -- in 16 samples that is less than half the folding range, in 17 it may not be
  pub sixteen : 16 * greatest_turn < 100 * (2 ^ 23 - 1)
  pub seventeen : 100 * 2 ^ 23 < 17 * greatest_turn
