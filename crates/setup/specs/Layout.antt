-- 01, Layout by identifier (001, 5.5.6 and Table 5-22). A layout is a row of data: the list of its parts in 01's order, the check, the ending;
-- where a part begins and how long a datagram is are functions of it.
use Rattle.std.specs.Prelude.{ℕ, ◌+◌, ◌/◌, ◌%◌, Bool, true, false, ◌||◌, cond, List, [], ◌∷◌, ◌++◌, eqb, length, Option, None, Some}
use Rattle.std.proofs.Math.Option as math
use Rattle.std.proofs.Math.Option.{none, some}
use Rattle.crc.specs.Check.{Parameters, stim300}
use Rattle.setup.specs.declared.Row.{Row}

-- the parts before the check
pub data Part : Type 0 where
  identifier gyro accelerometer inclinometer gyro_temperatures accelerometer_temperatures inclinometer_temperatures aux counter latency : Part

-- the widths in bytes of the fields of a part, in order: a group and a temperature set are X, Y, Z and a status, AUX is a value and a status
abbrev pub widths : Part → List ℕ
widths identifier = 1 ∷ []
widths gyro = 3 ∷ 3 ∷ 3 ∷ 1 ∷ []
widths accelerometer = 3 ∷ 3 ∷ 3 ∷ 1 ∷ []
widths inclinometer = 3 ∷ 3 ∷ 3 ∷ 1 ∷ []
widths gyro_temperatures = 2 ∷ 2 ∷ 2 ∷ 1 ∷ []
widths accelerometer_temperatures = 2 ∷ 2 ∷ 2 ∷ 1 ∷ []
widths inclinometer_temperatures = 2 ∷ 2 ∷ 2 ∷ 1 ∷ []
widths aux = 3 ∷ 1 ∷ []
widths counter = 1 ∷ []
widths latency = 2 ∷ []

abbrev pub sum : List ℕ → ℕ
sum [] = 0
sum (n ∷ ns) = n + sum ns

-- the bytes of a part, and of a list of parts
abbrev pub size : Part → ℕ
size p = sum (widths p)

abbrev pub bytes : List Part → ℕ
bytes [] = 0
bytes (p ∷ ps) = size p + bytes ps

-- parts that stand in a datagram only if they are carried
abbrev pub only : Bool → List Part → List Part
only carried ps = cond carried ps []

-- the groups of a row, and the temperatures of each carried group in that order
abbrev pub group_parts : Row → List Part
group_parts r = gyro ∷ only r.acceleration (accelerometer ∷ []) ++ only r.inclination (inclinometer ∷ [])

abbrev pub temperature_parts : Row → List Part
temperature_parts r =
    only r.temperatures (
    gyro_temperatures ∷ only r.acceleration (accelerometer_temperatures ∷ []) ++ only r.inclination (inclinometer_temperatures ∷ [])
    )

-- the parts of a row in order; the check follows
unfoldable pub parts_of : Row → List Part
parts_of r = identifier ∷ group_parts r ++ temperature_parts r ++ only r.aux (aux ∷ []) ++ counter ∷ latency ∷ []

-- a layout: the parts, the parameters of the check behind them, and the bytes of the ending behind that
pub record Layout : Type 0 where
  pub parts : List Part
  pub check : Parameters
  pub ending : List ℕ

-- with termination 1, the bytes 0x0D 0x0A
abbrev pub layout_of : Row → Bool → Layout
layout_of r terminated = record { parts = parts_of r; check = stim300; ending = cond terminated (0x0D ∷ 0x0A ∷ []) [] }

-- the bytes of the check
abbrev pub check_bytes : Parameters → ℕ
check_bytes c = c.width / 8

-- the length L
abbrev pub length_in : Layout → ℕ
length_in l = bytes l.parts + check_bytes l.check + length l.ending

-- what an identifier says that a datagram carries: R rate, A acceleration, I inclination, T temperature, U AUX
pub data Letter : Type 0 where
  R A I T U : Letter

abbrev pub letter_number : Letter → ℕ
letter_number R = 0
letter_number A = 1
letter_number I = 2
letter_number T = 3
letter_number U = 4

abbrev pub has : List Letter → Letter → Bool
has [] c = false
has (d ∷ ds) c = eqb (letter_number c) (letter_number d) || has ds c

-- a row by its letters; R is in each
abbrev pub carrying : List Letter → Row
carrying cs = record { acceleration = has cs A; inclination = has cs I; temperatures = has cs T; aux = has cs U }

-- a line of 01's table: the identifier, what it carries, the bytes before the check
pub record Entry : Type 0 where
  pub identifier : ℕ
  pub carries : List Letter
  pub before : ℕ

abbrev pub entry : ℕ → List Letter → ℕ → Entry
entry i cs n = record { identifier = i; carries = cs; before = n }

abbrev pub table : List Entry
table =
    entry 0x90 (R ∷ []) 14 ∷
    entry 0x91 (R ∷ A ∷ []) 24 ∷
    entry 0x92 (R ∷ I ∷ []) 24 ∷
    entry 0x93 (R ∷ A ∷ I ∷ []) 34 ∷
    entry 0x94 (R ∷ T ∷ []) 21 ∷
    entry 0xA5 (R ∷ A ∷ T ∷ []) 38 ∷
    entry 0xA6 (R ∷ I ∷ T ∷ []) 38 ∷
    entry 0xA7 (R ∷ A ∷ I ∷ T ∷ []) 55 ∷
    entry 0x98 (R ∷ U ∷ []) 18 ∷
    entry 0x99 (R ∷ A ∷ U ∷ []) 28 ∷
    entry 0x9A (R ∷ I ∷ U ∷ []) 28 ∷
    entry 0x9B (R ∷ A ∷ I ∷ U ∷ []) 38 ∷
    entry 0x9C (R ∷ T ∷ U ∷ []) 25 ∷
    entry 0xAD (R ∷ A ∷ T ∷ U ∷ []) 42 ∷
    entry 0xAE (R ∷ I ∷ T ∷ U ∷ []) 42 ∷
    entry 0xAF (R ∷ A ∷ I ∷ T ∷ U ∷ []) 59 ∷
    []

-- what the table says of an identifier
abbrev pub row_in : List Entry → ℕ → Option Row
row_in [] i = None
row_in (e ∷ es) i = cond (eqb i e.identifier) (Some (carrying e.carries)) (row_in es i)

unfoldable pub row_at : ℕ → Option Row
row_at i = row_in table i

-- what each case says: the row, or 5, which refuses an identifier that isn't in the table
abbrev pub listing_row : Option Row → math.Option Row
listing_row (Some r) = some r
listing_row None = none

abbrev pub listing_number : Option Row → math.Option ℕ
listing_number (Some r) = none
listing_number None = some 5

-- the parts that the table gives an identifier, none where it isn't in the table
abbrev pub parts_in : Option Row → List Part
parts_in (Some r) = parts_of r
parts_in None = []

unfoldable pub parts_at : ℕ → List Part
parts_at i = parts_in (row_in table i)

-- a part's number in 01's order, by which two parts are told apart
abbrev pub place : Part → ℕ
place identifier = 0
place gyro = 1
place accelerometer = 2
place inclinometer = 3
place gyro_temperatures = 4
place accelerometer_temperatures = 5
place inclinometer_temperatures = 6
place aux = 7
place counter = 8
place latency = 9

abbrev pub carries : List Part → Part → Bool
carries [] p = false
carries (q ∷ qs) p = eqb (place p) (place q) || carries qs p

-- the bytes in front of a part
abbrev pub offset : List Part → Part → ℕ
offset [] p = 0
offset (q ∷ qs) p = cond (eqb (place p) (place q)) 0 (size q + offset qs p)

-- where a part begins; 0, where the identifier stands, if it isn't carried
abbrev pub placed : List Part → Part → ℕ
placed ps p = cond (carries ps p) (offset ps p) 0

-- the groups of a row: gyro, accelerometer, inclinometer
abbrev pub groups_of : Row → List Bool
groups_of r = true ∷ r.acceleration ∷ r.inclination ∷ []

-- which of the groups gyro, accelerometer and inclinometer an identifier carries
unfoldable pub groups_carried : ℕ → List Bool
groups_carried i = carries (parts_at i) gyro ∷ carries (parts_at i) accelerometer ∷ carries (parts_at i) inclinometer ∷ []

-- a row by the place of its identifier in a range of the table: 0 the gyro alone, 1 with acceleration, 2 with inclination, 3 with both
abbrev pub row_with : ℕ → Bool → Bool → Row
row_with groups warm voltage =
    record { acceleration = eqb (groups % 2) 1; inclination = eqb (groups / 2 % 2) 1; temperatures = warm; aux = voltage }
