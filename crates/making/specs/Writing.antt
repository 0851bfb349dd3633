-- A helper of proofs, no rule of 02: what the functions that judge and write parts of a datagram answer, by the row of the sensor.
use Rattle.std.specs.Prelude.{ℕ, Bool, true, ◌&&◌, ◌||◌, cond, List, [], ◌∷◌, ◌++◌, ltb, ℤ, pos, length, get_or, Result}
use Rattle.integers.specs.Bytes.{signed, unsigned, joined}
use Rattle.setup.specs.Layout.{Layout, length_in}
use Rattle.setup.specs.Setup.{Rule, rule, first_of, buffer_by}
use Rattle.setup.specs.declared.Row.{Row}
use Rattle.made_datagram.specs.Making.{axes_and_status, given, fields_for, datagram_in, any_outside, any_not_zero, outside_in}
use Rattle.made_datagram.specs.declared.Values.{Values}
use Rattle.making.specs.declared.Width.{Width}
use Rattle.making.specs.declared.Width.TheVariants.{Temperature, Reading}
use Rattle.refusals.specs.Refusals.{unless_refused}
use Rattle.refusals.specs.declared.Refusal.{Refusal}
use Rattle.refusals.specs.declared.Refusal.TheVariants.{DatagramOutside, DatagramRoom}

-- the bytes of an axis
abbrev pub size_of : Width → ℕ
size_of Temperature = 2
size_of Reading = 3

-- a group or a temperature set, of X, Y and Z of w bytes and a status
unfoldable pub axes_outside : Bool → ℕ → List ℤ → ℤ → Bool
axes_outside carried w row status =
    cond carried (any_outside (signed ∷ signed ∷ signed ∷ unsigned ∷ []) (w ∷ w ∷ w ∷ 1 ∷ []) (axes_and_status row status)) (any_not_zero (axes_and_status row status))

unfoldable pub axes_bytes : Bool → ℕ → List ℤ → ℤ → List ℕ
axes_bytes carried w row status = cond carried (joined (fields_for (w ∷ w ∷ w ∷ 1 ∷ []) (axes_and_status row status))) []

unfoldable pub aux_bytes : Bool → ℤ → ℤ → List ℕ
aux_bytes carried value status = cond carried (joined (fields_for (3 ∷ 1 ∷ []) (value ∷ status ∷ []))) []

-- the three groups
unfoldable pub groups_outside : Row → List (List ℤ) → List ℤ → Bool
groups_outside r readings statuses =
    axes_outside true 3 (get_or readings 0 []) (get_or statuses 0 (pos 0)) || axes_outside r.acceleration 3 (get_or readings 1 []) (get_or statuses 1 (pos 0)) ||
    axes_outside r.inclination 3 (get_or readings 2 []) (get_or statuses 2 (pos 0))

unfoldable pub groups_bytes : Row → List (List ℤ) → List ℤ → List ℕ
groups_bytes r readings statuses =
    axes_bytes true 3 (get_or readings 0 []) (get_or statuses 0 (pos 0)) ++ (axes_bytes r.acceleration 3 (get_or readings 1 []) (get_or statuses 1 (pos 0)) ++
    axes_bytes r.inclination 3 (get_or readings 2 []) (get_or statuses 2 (pos 0)))

-- the three temperature sets
unfoldable pub temperatures_outside : Row → Values → Bool
temperatures_outside r v =
    axes_outside r.temperatures 2 v.gyro_temperatures (get_or v.temperature_statuses 0 (pos 0)) ||
    axes_outside (r.temperatures && r.acceleration) 2 v.accelerometer_temperatures (get_or v.temperature_statuses 1 (pos 0)) ||
    axes_outside (r.temperatures && r.inclination) 2 v.inclinometer_temperatures (get_or v.temperature_statuses 2 (pos 0))

unfoldable pub temperatures_bytes : Row → Values → List ℕ
temperatures_bytes r v =
    axes_bytes r.temperatures 2 v.gyro_temperatures (get_or v.temperature_statuses 0 (pos 0)) ++
    (axes_bytes (r.temperatures && r.acceleration) 2 v.accelerometer_temperatures (get_or v.temperature_statuses 1 (pos 0)) ++
    axes_bytes (r.temperatures && r.inclination) 2 v.inclinometer_temperatures (get_or v.temperature_statuses 2 (pos 0)))

-- 0x0D 0x0A, or nothing
unfoldable pub ending_bytes : Bool → List ℕ
ending_bytes terminated = cond terminated (0x0D ∷ 0x0A ∷ []) []

-- a datagram that only 15 and 16 are left to refuse
module _ (b : List ℕ) (i : ℕ) (l : Layout) (readings : List (List ℤ)) (v : Values) where
  unfoldable pub last_rules : List Rule
  last_rules = rule DatagramOutside (outside_in l.parts (given i readings v)) ∷ rule DatagramRoom (ltb (length b) (length_in l)) ∷ []

  unfoldable pub answer_by : Result ℕ Refusal
  answer_by = unless_refused (first_of last_rules) (length_in l)

  unfoldable pub buffer_of : List ℕ
  buffer_of = buffer_by (first_of last_rules) (datagram_in l (given i readings v)) b
