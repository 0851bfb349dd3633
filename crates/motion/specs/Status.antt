-- 01, Status, doubles, gaps; 02, 2.2: what the status byte of a group says (001, Table 5-23).
use Rattle.std.specs.Prelude.{ℕ, ◌+◌, ◌/◌, ◌%◌, ◌^◌, Bool, not, ◌&&◌, ◌||◌, List, [], ◌∷◌, ◌==◌}
use Rattle.groups.specs.declared.PerAxis.{PerAxis}

-- bit k of a status byte: 7 integrity, 6 start-up, 5 outside conditions, 4 overload, 3 measurement error, 2 Z, 1 Y, 0 X
abbrev pub bit : ℕ → ℕ → ℕ
bit status k = status / 2 ^ k % 2

abbrev pub is_set : ℕ → ℕ → Bool
is_set status k = bit status k == 1

-- bits 0 to 2 are all clear
abbrev pub none_flagged : ℕ → Bool
none_flagged status = not (is_set status 0 || is_set status 1 || is_set status 2)

-- whether bits 3 and 4, where they are set, name an axis (X 0, Y 1, Z 2): its own bit is set, or bits 0 to 2 are all clear (02, 2.2)
abbrev pub named : ℕ → ℕ → Bool
named status axis = is_set status axis || none_flagged status

-- of X, Y and Z
abbrev pub named_axes : ℕ → PerAxis Bool
named_axes status = record { x = named status 0; y = named status 1; z = named status 2 }

-- an axis is unfit if bit 7 or 6 is set, or if bit 3 or 4 is set and names it
unfoldable pub unfit : ℕ → ℕ → Bool
unfit status axis = (is_set status 7 || is_set status 6) || ((is_set status 3 || is_set status 4) && named status axis)

-- else fit
abbrev pub fit : ℕ → ℕ → Bool
fit status axis = not (unfit status axis)

-- of X, Y and Z
abbrev pub fit_axes : ℕ → List Bool
fit_axes status = fit status 0 ∷ fit status 1 ∷ fit status 2 ∷ []

-- the count of flagged channels: how many of bits 0 to 2 are one
unfoldable pub flagged : ℕ → ℕ
flagged status = bit status 0 + bit status 1 + bit status 2
