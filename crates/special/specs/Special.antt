-- 02, 2.7: part number, serial number, configuration, bias trim and extended error datagrams, by the identifiers and lengths of 001, 5.5.1 to 5.5.5.
use Rattle.std.specs.Prelude.{ℕ, ◌+◌, max, Bool, true, false, ◌&&◌, cond, List, [], ◌∷◌, eqb, length, take, drop, get_or, Some, None}
use Rattle.std.specs.declared.option.Option as found
use Rattle.std.proofs.Math.Option.{Option, none, some}
use Rattle.integers.specs.Bytes.{big_endian}
use Rattle.crc.specs.Check.{stim300, check_of}
use Rattle.setup.specs.Layout.{sum, check_bytes}
use Rattle.acceptance.specs.Acceptable.{same}
use Rattle.special.specs.declared.Kind.{Kind}
use Rattle.special.specs.declared.Kind.TheVariants.{Normal, PartNumber, SerialNumber, Configuration, BiasTrim, ExtendedError}

-- the widths in bytes of the fields between the identifier and the check, in the order of 001's tables
abbrev pub fields_of : Kind → List ℕ
fields_of Normal = []
-- Table 5-13: digits 1 to 5, "-", digits 6 to 11, "-", digits 12 to 14, for future use, revision
fields_of PartNumber = 3 ∷ 1 ∷ 3 ∷ 1 ∷ 2 ∷ 4 ∷ 1 ∷ []
-- Table 5-15: "N", fourteen digits, for future use
fields_of SerialNumber = 1 ∷ 7 ∷ 7 ∷ []
-- Table 5-16: part number revision, firmware revision, sample frequency and content, transmission, gyro, accelerometer, inclinometer, AUX,
-- ranges of gyro, accelerometer and inclinometer, AUX range and more
fields_of Configuration = 1 ∷ 1 ∷ 1 ∷ 1 ∷ 3 ∷ 3 ∷ 3 ∷ 1 ∷ 2 ∷ 2 ∷ 2 ∷ 1 ∷ []
-- Table 5-17: X, Y, Z of gyro, accelerometer and inclinometer, reference, remaining saves, for future use
fields_of BiasTrim = 3 ∷ 3 ∷ 3 ∷ 3 ∷ 3 ∷ 3 ∷ 3 ∷ 3 ∷ 3 ∷ 4 ∷ 2 ∷ 2 ∷ []
-- Table 5-18: 128 bits
fields_of ExtendedError = 16 ∷ []

-- a special datagram: its identifier, its kind, and whether 0x0D 0x0A end it, which the identifier fixes; and its bytes as 001's tables count them
pub record Entry : Type 0 where
  pub identifier : ℕ
  pub kind : Kind
  pub terminated : Bool
  pub counted : ℕ

abbrev pub entry : ℕ → Kind → Bool → ℕ → Entry
entry i k t n = record { identifier = i; kind = k; terminated = t; counted = n }

abbrev pub table : List Entry
table =
    entry 0xB1 PartNumber false 20 ∷
    entry 0xB3 PartNumber true 22 ∷
    entry 0xB5 SerialNumber false 20 ∷
    entry 0xB7 SerialNumber true 22 ∷
    entry 0xBC Configuration false 26 ∷
    entry 0xBD Configuration true 28 ∷
    entry 0xD1 BiasTrim false 40 ∷
    entry 0xD2 BiasTrim true 42 ∷
    entry 0xBE ExtendedError false 21 ∷
    entry 0xBF ExtendedError true 23 ∷
    []

-- the bytes before the check: the identifier and the fields
abbrev pub before_check : Entry → ℕ
before_check e = 1 + sum (fields_of e.kind)

abbrev pub ending_of : Entry → List ℕ
ending_of e = cond e.terminated (0x0D ∷ 0x0A ∷ []) []

-- all of its bytes: those, the check and the ending
abbrev pub length_in : Entry → ℕ
length_in e = before_check e + check_bytes stim300 + length (ending_of e)

-- the greatest length in the table
abbrev pub longest_in : List Entry → ℕ
longest_in [] = 0
longest_in (e ∷ es) = max (length_in e) (longest_in es)

unfoldable pub longest_special : ℕ
longest_special = longest_in table

-- what the table says of a first byte
abbrev pub entry_in : List Entry → ℕ → Option Entry
entry_in [] i = none
entry_in (e ∷ es) i = cond (eqb i e.identifier) (some e) (entry_in es i)

unfoldable pub entry_at : ℕ → Option Entry
entry_at i = entry_in table i

-- the length of the special datagram that begins with a byte, 0 for a byte that begins none
abbrev pub length_by : Option Entry → ℕ
length_by none = 0
length_by (some e) = length_in e

unfoldable pub special_length : ℕ → ℕ
special_length i = length_by (entry_at i)

-- the same as the code answers it: none for a byte that begins none
unfoldable pub length_found : ℕ → found.Option ℕ
length_found i = cond (eqb (special_length i) 0) None (Some (special_length i))

-- its kind; a byte that begins no special datagram can begin a Normal Mode one only
abbrev pub kind_by : Option Entry → Kind
kind_by none = Normal
kind_by (some e) = e.kind

unfoldable pub kind_at : ℕ → Kind
kind_at i = kind_by (entry_at i)

-- bytes are one of an entry: as many as it has, begun by its identifier, with its ending, and the check that of the bytes before it, as in a Normal Mode
-- datagram (01, The check); nothing else is looked at
unfoldable pub is_of : Entry → List ℕ → Bool
is_of e s =
    eqb (length s) (length_in e) && eqb (get_or s 0 0) e.identifier && same (drop (before_check e + check_bytes stim300) s) (ending_of e) &&
    eqb (big_endian (take (check_bytes stim300) (drop (before_check e) s))) (check_of stim300 (take (before_check e) s))

-- a special datagram is one of the entry of its first byte
abbrev pub is_by : Option Entry → List ℕ → Bool
is_by none s = false
is_by (some e) s = is_of e s

unfoldable pub is_special : List ℕ → Bool
is_special s = is_by (entry_at (get_or s 0 0)) s

-- the kind of a datagram, by its first byte
abbrev pub kind_of : List ℕ → Kind
kind_of d = kind_at (get_or d 0 0)

-- whether a kind is Normal Mode
abbrev pub is_normal : Kind → Bool
is_normal Normal = true
is_normal PartNumber = false
is_normal SerialNumber = false
is_normal Configuration = false
is_normal BiasTrim = false
is_normal ExtendedError = false
