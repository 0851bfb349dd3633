-- 01, What is turned down: 10 of feeding, clause by clause, with 02, 2.5's; 11 and 12, of a piece.
use Rattle.std.specs.Prelude.{ℕ, ◌+◌, ◌*◌, ◌^◌, Bool, true, false, not, ◌&&◌, ◌||◌, List, [], ◌∷◌, eqb, leb, ltb, length, take, drop, get_or, Result, Ok, Err}
use Rattle.std.proofs.Math.Option.{Option, none, some}
use Rattle.integers.specs.Ranges.{is_zero, within, in_reading}
use Rattle.setup.specs.Setup.{Rule, rule, first_refusal, first_number, first_of, ruling_on, length_of}
use Rattle.setup.specs.Sensor.{sensor_of}
use Rattle.setup.specs.declared.Setup.{Setup}
use Rattle.setup.specs.declared.Sensor.{Sensor}
use Rattle.motion.specs.Totals.{groups_kept}
use Rattle.motion.specs.declared.Axis.{Axis}
use Rattle.motion.specs.Totals.{GroupAxes}
use Rattle.motion.specs.Totals.{Axes}
use Rattle.doubt.specs.Doubt.{greatest_sum}
use Rattle.doubt.specs.declared.AxisDoubt.{AxisDoubt}
use Rattle.doubt.specs.Doubt.{GyroDoubt}
use Rattle.history.specs.History.{awaits_first}
use Rattle.history.specs.declared.History.{History}
use Rattle.scan.specs.Rules as rules
use Rattle.search.specs.Search.{limits_of, rules_of}
use Rattle.session.specs.Session.{is_accepted}
use Rattle.session.specs.declared.Session.{Session}
use Rattle.refusals.specs.Refusals.{number_of, Ruling, unless_refused}
use Rattle.refusals.specs.declared.Refusal.{Refusal}
use Rattle.refusals.specs.declared.Refusal.TheVariants.{SessionUnsound, StreamTooLong}

-- ---- what feeding asks of a session: refusal 10, in 01's order

-- its setup would not be refused
abbrev pub setup_right : Session → Bool
setup_right s = is_accepted (ruling_on s.setup)

-- its held bytes keep the scan's rule; as many as it counts are there
abbrev pub held_bytes : Session → List ℕ
held_bytes s = take s.count s.held

abbrev pub held_right : Session → Bool
held_right s = leb s.count (length s.held) && (rules_of s.setup).may_hold (held_bytes s)

-- they are zero beyond their count
unfoldable pub all_zero : List ℕ → Bool
all_zero [] = true
all_zero (b ∷ s) = eqb b 0 && all_zero s

abbrev pub rest_right : Session → Bool
rest_right s = all_zero (drop s.count s.held)

-- L × datagrams + passed over + held is bytes fed, which don't exceed the session's limit
abbrev pub sum_right : Session → Bool
sum_right s = eqb (length_of s.setup * s.history.datagrams.0 + s.passed + s.count) s.fed

abbrev pub fed_right : Session → Bool
fed_right s = leb s.fed (limits_of s.setup).session

-- of an axis, after n datagrams: its total is at most n × 2 ^ 23 in size
abbrev pub total_right : ℕ → Axis → Bool
total_right n a = within (n * 2 ^ 23) a.total

-- its kept reading is in 24 bits
abbrev pub last_right : Axis → Bool
last_right a = in_reading a.last

-- it has begun and keeps a total, or it is all zero
abbrev pub is_idle : Axis → Bool
is_idle a = not a.begun && (is_zero a.last && is_zero a.total)

abbrev pub idle_right : Bool → Axis → Bool
idle_right kept a = (kept && a.begun) || is_idle a

-- it has not begun while the next datagram counts as a first one (02, 2.5)
abbrev pub start_right : Bool → Axis → Bool
start_right first a = not (first && a.begun)

unfoldable pub axis_right : Bool → Bool → ℕ → Axis → Bool
axis_right kept first n a = total_right n a && (last_right a && (idle_right kept a && start_right first a))

-- of the three axes of a group, and of the nine
unfoldable pub group_right : Bool → Bool → ℕ → GroupAxes → Bool
group_right kept first n g = axis_right kept first n g.x && (axis_right kept first n g.y && axis_right kept first n g.z)

unfoldable pub axes_right : List Bool → Bool → ℕ → Axes → Bool
axes_right kept first n a =
    group_right (get_or kept 0 false) first n a.gyro &&
    (group_right (get_or kept 1 false) first n a.accelerometer && group_right (get_or kept 2 false) first n a.inclinometer)

-- what is kept of a gyro axis beside its total is as before any fit datagram: the sum 0, and no mark
abbrev pub is_fresh_doubt : AxisDoubt → Bool
is_fresh_doubt q = eqb q.samples.0 0 && not q.marked

-- its sum is at most 65,535, and unless the axis keeps a total and has begun (going), it is as before any fit datagram (02, 2.5)
unfoldable pub doubt_right : Bool → AxisDoubt → Bool
doubt_right going q = leb q.samples.0 greatest_sum && (going || is_fresh_doubt q)

unfoldable pub gyro_doubt_right : Bool → GroupAxes → GyroDoubt → Bool
gyro_doubt_right kept g q =
    doubt_right (kept && g.x.begun) q.x && (doubt_right (kept && g.y.begun) q.y && doubt_right (kept && g.z.begun) q.z)

-- of all that a session keeps of the datagrams handed out; kept: which groups keep totals
unfoldable pub kept_right_by : List Bool → History → Bool
kept_right_by kept h =
    axes_right kept (awaits_first h) h.datagrams.0 h.axes && gyro_doubt_right (get_or kept 0 false) h.axes.gyro h.doubt

abbrev pub kept_right : Setup → History → Bool
kept_right u h = kept_right_by (groups_kept u) h

-- feeding doesn't turn the session down by 10
unfoldable pub is_sound : Session → Bool
is_sound s =
    setup_right s &&
    (held_right s &&
    (rest_right s &&
    (sum_right s &&
    (fed_right s &&
    kept_right s.setup s.history))))

-- ---- what feeding turns down, of a piece of n bytes

abbrev pub piece_rules : Session → ℕ → List Rule
piece_rules s n =
    let l : rules.Limits = limits_of s.setup in
    rule SessionUnsound (not (is_sound s)) ∷ rule l.too_long (ltb l.piece n) ∷ rule StreamTooLong (ltb l.session (s.fed + n)) ∷ []

-- what refuses it, none for a piece that is admitted, and its number
unfoldable pub piece_refusal : Session → ℕ → Option Refusal
piece_refusal s n = first_refusal (piece_rules s n)

unfoldable pub piece_number : Session → ℕ → Option ℕ
piece_number s n = first_number (piece_rules s n)

unfoldable pub piece_ruling : Session → ℕ → Ruling
piece_ruling s n = first_of (piece_rules s n)

-- what refuses it, else the sensor of the session's setup
unfoldable pub admission_of : Session → ℕ → Result Sensor Refusal
admission_of s n = unless_refused (piece_ruling s n) (sensor_of s.setup)

-- what each case says: the sensor, or the number of what refuses the piece
abbrev pub admission_sensor : Result Sensor Refusal → Option Sensor
admission_sensor (Ok sensor) = some sensor
admission_sensor (Err e) = none

abbrev pub admission_number : Result Sensor Refusal → Option ℕ
admission_number (Ok sensor) = none
admission_number (Err e) = some (number_of e)
