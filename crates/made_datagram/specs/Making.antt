-- 02, 2.1: a datagram written from a setup and values, over the list of parts with their widths that reading goes by; and what is turned down of it:
-- 15, a value outside its field's width or not 0 in a part the identifier doesn't carry, after 4 to 9; then 16, a buffer shorter than L.
use Rattle.std.specs.Prelude.{ℕ, Bool, false, not, ◌||◌, cond, List, [], ◌∷◌, ◌++◌, map, ltb, ℤ, pos, length, get_or, Result, Ok, Err}
use Rattle.std.proofs.Math.Option.{Option, none, some}
use Rattle.integers.specs.Bytes.{Sign, signed, unsigned, value_bytes, joined}
use Rattle.integers.specs.Ranges.{is_zero, fits}
use Rattle.setup.specs.Layout.{Part, identifier, gyro, accelerometer, inclinometer, gyro_temperatures, accelerometer_temperatures}
use Rattle.setup.specs.Layout.{inclinometer_temperatures, aux, counter, latency, widths, Layout, layout_of, row_at, parts_at, carries}
use Rattle.setup.specs.Setup.{Rule, rule, first_of, buffer_by, setup_rules, terminated, length_of}
use Rattle.setup.specs.Sensor.{row_of}
use Rattle.setup.specs.declared.Setup.{Setup}
use Rattle.wire.specs.Fields.{Contents, besides_readings}
use Rattle.wire.specs.declared.Fields.{Fields}
use Rattle.acceptance.specs.Acceptable.{completed}
use Rattle.made_datagram.specs.declared.Values.{Values}
use Rattle.refusals.specs.Refusals.{number_of, Ruling, unless_refused}
use Rattle.refusals.specs.declared.Refusal.{Refusal}
use Rattle.refusals.specs.declared.Refusal.TheVariants.{DatagramOutside, DatagramRoom}

-- ---- the values

-- X, Y and Z of a group or a temperature set, and the status behind them
abbrev pub axes_and_status : List ℤ → ℤ → List ℤ
axes_and_status row status = get_or row 0 (pos 0) ∷ get_or row 1 (pos 0) ∷ get_or row 2 (pos 0) ∷ status ∷ []

-- the values given for each part, in the order of its fields; the identifier is the setup's
unfoldable pub given : ℕ → List (List ℤ) → Values → Part → List ℤ
given i readings v identifier = pos i ∷ []
given i readings v gyro = axes_and_status (get_or readings 0 []) (get_or v.statuses 0 (pos 0))
given i readings v accelerometer = axes_and_status (get_or readings 1 []) (get_or v.statuses 1 (pos 0))
given i readings v inclinometer = axes_and_status (get_or readings 2 []) (get_or v.statuses 2 (pos 0))
given i readings v gyro_temperatures = axes_and_status v.gyro_temperatures (get_or v.temperature_statuses 0 (pos 0))
given i readings v accelerometer_temperatures = axes_and_status v.accelerometer_temperatures (get_or v.temperature_statuses 1 (pos 0))
given i readings v inclinometer_temperatures = axes_and_status v.inclinometer_temperatures (get_or v.temperature_statuses 2 (pos 0))
given i readings v aux = v.aux ∷ v.aux_status ∷ []
given i readings v counter = v.counter ∷ []
given i readings v latency = v.latency ∷ []

-- the fields of a datagram beside its readings, as values that can be given
abbrev pub field_values : Fields → Values
field_values f =
    record {
      statuses = map pos f.statuses;
      gyro_temperatures = f.gyro_temperatures;
      accelerometer_temperatures = f.accelerometer_temperatures;
      inclinometer_temperatures = f.inclinometer_temperatures;
      temperature_statuses = map pos f.temperature_statuses;
      aux = f.aux;
      aux_status = pos f.aux_status;
      counter = pos f.counter;
      latency = pos f.latency;
    }

abbrev pub values_read : Contents → Values
values_read d = field_values (besides_readings d)

-- ---- the datagram

-- the fields of a part: each value in its width
abbrev pub fields_for : List ℕ → List ℤ → List (List ℕ)
fields_for [] zs = []
fields_for (w ∷ ws) [] = []
fields_for (w ∷ ws) (z ∷ zs) = value_bytes w z ∷ fields_for ws zs

-- the fields of parts, one behind the other
abbrev pub in_turn : (Part → List (List ℕ)) → List Part → List ℕ
in_turn fields [] = []
in_turn fields (p ∷ ps) = joined (fields p) ++ in_turn fields ps

-- the bytes of parts with these values
unfoldable pub parts_with : (Part → List ℤ) → List Part → List ℕ
parts_with values ps = in_turn (λ p. fields_for (widths p) (values p)) ps

-- the parts' bytes, the check over them, the ending
unfoldable pub datagram_in : Layout → (Part → List ℤ) → List ℕ
datagram_in l values = completed l (parts_with values l.parts)

-- of a setup; what stands here for an identifier that isn't in the table is never written, since 5 refuses it first
unfoldable pub made_datagram : Setup → List (List ℤ) → Values → List ℕ
made_datagram u readings v = datagram_in (layout_of (row_of (row_at u.identifier)) (terminated u)) (given u.identifier readings v)

-- ---- what is turned down

-- how each field of a part is read: readings, temperatures and AUX in two's complement, all others unsigned
abbrev pub signs : Part → List Sign
signs identifier = unsigned ∷ []
signs gyro = signed ∷ signed ∷ signed ∷ unsigned ∷ []
signs accelerometer = signed ∷ signed ∷ signed ∷ unsigned ∷ []
signs inclinometer = signed ∷ signed ∷ signed ∷ unsigned ∷ []
signs gyro_temperatures = signed ∷ signed ∷ signed ∷ unsigned ∷ []
signs accelerometer_temperatures = signed ∷ signed ∷ signed ∷ unsigned ∷ []
signs inclinometer_temperatures = signed ∷ signed ∷ signed ∷ unsigned ∷ []
signs aux = signed ∷ unsigned ∷ []
signs counter = unsigned ∷ []
signs latency = unsigned ∷ []

-- a value is outside its field's width
abbrev pub any_outside : List Sign → List ℕ → List ℤ → Bool
any_outside [] ws zs = false
any_outside (s ∷ ss) [] zs = false
any_outside (s ∷ ss) (w ∷ ws) [] = false
any_outside (s ∷ ss) (w ∷ ws) (z ∷ zs) = not (fits s w z) || any_outside ss ws zs

-- a value is not 0
abbrev pub any_not_zero : List ℤ → Bool
any_not_zero [] = false
any_not_zero (z ∷ zs) = not (is_zero z) || any_not_zero zs

-- 15, of a part: a value outside its field's width, or not 0 where the part isn't carried
unfoldable pub part_outside : Bool → Part → List ℤ → Bool
part_outside carried p zs = cond carried (any_outside (signs p) (widths p) zs) (any_not_zero zs)

-- the parts that values are given for
abbrev pub given_parts : List Part
given_parts =
    gyro ∷ accelerometer ∷ inclinometer ∷ gyro_temperatures ∷ accelerometer_temperatures ∷ inclinometer_temperatures ∷ aux ∷ counter ∷ latency ∷ []

abbrev pub any_of : (Part → Bool) → List Part → Bool
any_of test [] = false
any_of test (p ∷ ps) = test p || any_of test ps

-- 15, of parts that are carried and the values given
unfoldable pub outside_in : List Part → (Part → List ℤ) → Bool
outside_in ps values = any_of (λ p. part_outside (carries ps p) p (values p)) given_parts

unfoldable pub outside : Setup → List (List ℤ) → Values → Bool
outside u readings v = outside_in (parts_at u.identifier) (given u.identifier readings v)

-- 15, and then 16, a buffer of `room` bytes that is shorter than L
unfoldable pub own_rules : Setup → List (List ℤ) → Values → ℕ → List Rule
own_rules u readings v room = rule DatagramOutside (outside u readings v) ∷ rule DatagramRoom (ltb room (length_of u)) ∷ []

-- those of the setup come first
unfoldable pub making_rules : Setup → List (List ℤ) → Values → ℕ → List Rule
making_rules u readings v room = setup_rules u ++ own_rules u readings v room

-- ---- the answer and the buffer

-- the answer is the length L, or what refuses; what each case of it stands for: the number of what refused, and how many bytes were written
abbrev pub made_number : Result ℕ Refusal → Option ℕ
made_number (Ok long) = none
made_number (Err e) = some (number_of e)

abbrev pub made_bytes : Result ℕ Refusal → ℕ
made_bytes (Ok long) = long
made_bytes (Err e) = 0

module _ (b : List ℕ) (u : Setup) (readings : List (List ℤ)) (v : Values) where
  unfoldable pub making_ruling : Ruling
  making_ruling = first_of (making_rules u readings v (length b))

  unfoldable pub made_answer : Result ℕ Refusal
  made_answer = unless_refused making_ruling (length_of u)

  -- the datagram from the front and every later byte as it was, or all as it was
  unfoldable pub made_buffer : List ℕ
  made_buffer = buffer_by making_ruling (made_datagram u readings v) b
