-- A helper of proofs, no rule of 01: what stands in a record of a call, by the places that src/main.rt gives. Numbers have their least
-- significant byte first; bytes behind the end of the record are 0.
use Rattle.std.specs.Prelude.{ℕ, ◌+◌, ◌*◌, Bool, cond, List, [], ◌∷◌, eqb, ℤ, get_or}
use Rattle.integers.specs.Bytes.{twos_complement}
use Rattle.setup.specs.declared.Setup.{Setup}
use Rattle.wire.specs.Fields.{window}
use Rattle.made_datagram.specs.declared.Values.{Values}
use Rattle.gaps.specs.Gaps.{samples, datagrams}
use Rattle.gaps.specs.declared.Gap.{Gap}
use Rattle.gaps.specs.declared.Gap.TheVariants.{Missed, OffStep}
use Rattle.motion.specs.declared.Axis.{Axis}
use Rattle.motion.specs.Totals.{GroupAxes}
use Rattle.motion.specs.Totals.{Axes}
use Rattle.motion.specs.declared.Total.{Total}
use Rattle.motion.specs.Totals.{GroupTotals}
use Rattle.motion.specs.Totals.{Totals}
use Rattle.doubt.specs.declared.AxisDoubt.{AxisDoubt}
use Rattle.doubt.specs.Doubt.{GyroDoubt}
use Rattle.history.specs.declared.History.{History}
use Rattle.session.specs.declared.Session.{Session}

-- ---- numbers at a place

-- of one, two, four and eight bytes
abbrev pub byte_at : List ℕ → ℕ → ℕ
byte_at s i = get_or s i 0

unfoldable pub short_at : List ℕ → ℕ → ℕ
short_at s i = byte_at s i + byte_at s (i + 1) * 256

unfoldable pub word_at : List ℕ → ℕ → ℕ
word_at s i = short_at s i + short_at s (i + 2) * 65536

unfoldable pub long_at : List ℕ → ℕ → ℕ
long_at s i = word_at s i + word_at s (i + 4) * 4294967296

-- signed ones, in two's complement
abbrev pub signed_word_at : List ℕ → ℕ → ℤ
signed_word_at s i = twos_complement 32 (word_at s i)

abbrev pub signed_long_at : List ℕ → ℕ → ℤ
signed_long_at s i = twos_complement 64 (long_at s i)

-- 1 is a mark
abbrev pub mark_at : List ℕ → ℕ → Bool
mark_at s i = eqb (byte_at s i) 1

-- ---- a setup

abbrev pub three_at : List ℕ → ℕ → List ℕ
three_at s i = short_at s i ∷ short_at s (i + 2) ∷ short_at s (i + 4) ∷ []

unfoldable pub setup_in : List ℕ → Setup
setup_in s = record { rate = short_at s 0; identifier = byte_at s 2; termination = short_at s 3; units = three_at s 5; shifts = three_at s 11 }

-- ---- a session

unfoldable pub axis_at : List ℕ → ℕ → Axis
axis_at s i = record { begun = mark_at s i; last = signed_word_at s (i + 1); total = signed_long_at s (i + 5) }

unfoldable pub group_axes_at : List ℕ → ℕ → GroupAxes
group_axes_at s i = record { x = axis_at s i; y = axis_at s (i + 13); z = axis_at s (i + 26) }

abbrev pub axes_in : List ℕ → Axes
axes_in s = record { gyro = group_axes_at s 114; accelerometer = group_axes_at s 153; inclinometer = group_axes_at s 192 }

unfoldable pub doubt_at : List ℕ → ℕ → AxisDoubt
doubt_at s i = record { samples = samples (word_at s i); marked = mark_at s (i + 4) }

unfoldable pub gyro_doubt_in : List ℕ → GyroDoubt
gyro_doubt_in s = record { x = doubt_at s 231; y = doubt_at s 236; z = doubt_at s 241 }

unfoldable pub history_in : List ℕ → History
history_in s = record { datagrams = datagrams (long_at s 89); previous = byte_at s 113; axes = axes_in s; doubt = gyro_doubt_in s }

unfoldable pub session_in : List ℕ → Session
session_in s =
    record {
      setup = setup_in s;
      held = window 64 17 s;
      count = long_at s 81;
      passed = long_at s 97;
      fed = long_at s 105;
      history = history_in s;
    }

-- ---- what a line is written from

unfoldable pub gap_in : List ℕ → Gap
gap_in s = cond (mark_at s 28) OffStep (Missed (datagrams (long_at s 29)))

abbrev pub row_at : List ℕ → ℕ → List ℤ
row_at s i = signed_word_at s i ∷ signed_word_at s (i + 4) ∷ signed_word_at s (i + 8) ∷ []

unfoldable pub grid_at : List ℕ → ℕ → List (List ℤ)
grid_at s i = row_at s i ∷ row_at s (i + 12) ∷ row_at s (i + 24) ∷ []

abbrev pub statuses_in : List ℕ → List ℕ
statuses_in s = byte_at s 73 ∷ byte_at s 74 ∷ byte_at s 75 ∷ []

unfoldable pub total_at : List ℕ → ℕ → Total
total_at s i = record { begun = mark_at s i; steps = signed_long_at s (i + 1) }

unfoldable pub group_totals_at : List ℕ → ℕ → GroupTotals
group_totals_at s i = record { x = total_at s i; y = total_at s (i + 9); z = total_at s (i + 18) }

unfoldable pub totals_in : List ℕ → Totals
totals_in s = record { gyro = group_totals_at s 76; accelerometer = group_totals_at s 103; inclinometer = group_totals_at s 130 }

-- ---- what a datagram is written from

unfoldable pub values_in : List ℕ → Values
values_in s =
    record {
      statuses = row_at s 53;
      gyro_temperatures = row_at s 65;
      accelerometer_temperatures = row_at s 77;
      inclinometer_temperatures = row_at s 89;
      temperature_statuses = row_at s 101;
      aux = signed_word_at s 113;
      aux_status = signed_word_at s 117;
      counter = signed_word_at s 121;
      latency = signed_word_at s 125;
    }
