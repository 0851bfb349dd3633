-- 02, 2.5: what is kept of a gyro axis beside its total, and what a datagram does to it. Sums count internal samples.
use Rattle.std.specs.Prelude.{ℕ, ◌+◌, min, Bool, false, ◌&&◌, ◌||◌, cond, eqb, ltb}
use Rattle.groups.specs.declared.PerAxis.{PerAxis}
use Rattle.gaps.specs.Gaps.{samples, elapsed}
use Rattle.gaps.specs.declared.Samples.{Samples}
use Rattle.motion.specs.Status.{fit}
use Rattle.motion.specs.Totals.{GroupAxes, one_of}
use Rattle.doubt.specs.declared.AxisDoubt.{AxisDoubt}

-- ---- the sum

-- what a datagram adds: its d, the internal samples since the datagram before; a first one adds none
unfoldable pub added : Bool → ℕ → ℕ → Samples
added first previous counter = cond first (samples 0) (elapsed previous counter)

-- a sum stops at 65,535
abbrev pub greatest_sum : ℕ
greatest_sum = 65535

-- a sum with d more
unfoldable pub sum_with : Samples → Samples → Samples
sum_with sum d = samples (min (sum.0 + d.0) greatest_sum)

-- ---- the mark

-- in so many samples a gyro turns by less than half the folding range
abbrev pub most_samples : ℕ
most_samples = 16

-- whether a fit datagram behind an earlier one marks the total: a sum above 16, its own d included, does, and under external trigger, rate 0, any
unfoldable pub marks : ℕ → Samples → Bool
marks rate sum = ltb most_samples sum.0 || eqb rate 0

-- ---- one axis

-- an axis that has not begun, or keeps no total
abbrev pub no_doubt : AxisDoubt
no_doubt = record { samples = samples 0; marked = false }

-- at a fit datagram, which adds d, the sum goes to 0; a mark stays for the rest of the session; begun: whether a fit one came before it
unfoldable pub fit_doubt : ℕ → Bool → AxisDoubt → Samples → AxisDoubt
fit_doubt rate begun a d = record { samples = samples 0; marked = a.marked || (begun && marks rate (sum_with a.samples d)) }

-- an unfit one adds its d to the sum of an axis that has begun
unfoldable pub unfit_doubt : Bool → AxisDoubt → Samples → AxisDoubt
unfit_doubt begun a d = cond begun (record { samples = sum_with a.samples d; marked = a.marked }) a

unfoldable pub doubt_step : ℕ → Bool → Bool → AxisDoubt → Samples → AxisDoubt
doubt_step rate begun fit a d = cond fit (fit_doubt rate begun a d) (unfit_doubt begun a d)

-- of an axis that keeps a total; one that keeps none stays as it is
unfoldable pub kept_doubt : ℕ → Bool → Bool → Bool → AxisDoubt → Samples → AxisDoubt
kept_doubt rate kept begun fit a d = cond kept (doubt_step rate begun fit a d) a

-- ---- the gyro's axes, X 0, Y 1, Z 2

abbrev pub GyroDoubt : Type 0
GyroDoubt = PerAxis AxisDoubt

abbrev pub no_gyro_doubt : GyroDoubt
no_gyro_doubt = record { x = no_doubt; y = no_doubt; z = no_doubt }

abbrev pub doubt_at : GyroDoubt → ℕ → AxisDoubt
doubt_at g axis = one_of g.x g.y g.z axis

-- a datagram that adds d, of the gyro's status byte; kept: whether the gyro keeps totals; axes: those before the datagram
unfoldable pub gyro_step : ℕ → Bool → GroupAxes → GyroDoubt → ℕ → Samples → GyroDoubt
gyro_step rate kept axes g status d =
    record {
      x = kept_doubt rate kept axes.x.begun (fit status 0) g.x d;
      y = kept_doubt rate kept axes.y.begun (fit status 1) g.y d;
      z = kept_doubt rate kept axes.z.begun (fit status 2) g.z d;
    }

-- ---- what comes back: the mark of each

abbrev pub GyroMarks : Type 0
GyroMarks = PerAxis Bool

unfoldable pub marks_of : GyroDoubt → GyroMarks
marks_of g = record { x = g.x.marked; y = g.y.marked; z = g.z.marked }

abbrev pub mark_at : GyroMarks → ℕ → Bool
mark_at m axis = one_of m.x m.y m.z axis
