-- 01, The scan: L bytes are an acceptable datagram of a setup if identifier, check and termination are right.
use Rattle.std.specs.Prelude.{ℕ, ◌+◌, Bool, true, false, ◌&&◌, List, [], ◌∷◌, ◌++◌, eqb, leb, length, get_or, take, drop, Option, None, Some}
use Rattle.integers.specs.Bytes.{big_endian, in_bytes}
use Rattle.crc.specs.Check.{check_of}
use Rattle.setup.specs.Layout.{bytes, Layout, layout_of, check_bytes, length_in, row_at}
use Rattle.setup.specs.Setup.{terminated}
use Rattle.setup.specs.declared.Row.{Row}
use Rattle.setup.specs.declared.Setup.{Setup}

-- where the check stands, behind the parts; and where the ending stands, behind the check
abbrev pub check_place : Layout → ℕ
check_place l = bytes l.parts

abbrev pub ending_place : Layout → ℕ
ending_place l = check_place l + check_bytes l.check

-- the bytes of the check are the check of the bytes before them, most significant byte first
unfoldable pub check_right : Layout → List ℕ → Bool
check_right l s = eqb (big_endian (take (check_bytes l.check) (drop (check_place l) s))) (check_of l.check (take (check_place l) s))

abbrev pub same : List ℕ → List ℕ → Bool
same [] [] = true
same [] (y ∷ ys) = false
same (x ∷ xs) [] = false
same (x ∷ xs) (y ∷ ys) = eqb x y && same xs ys

-- the bytes behind the check are the ending
unfoldable pub ending_right : Layout → List ℕ → Bool
ending_right l s = same (drop (ending_place l) s) l.ending

-- an acceptable datagram of an identifier and a layout
unfoldable pub acceptable_in : ℕ → Layout → List ℕ → Bool
acceptable_in identifier l s = eqb (length s) (length_in l) && eqb (get_or s 0 0) identifier && ending_right l s && check_right l s

-- of a setup, whose rate, units and shifts don't matter here: none where the identifier isn't in the table or the termination isn't 0 or 1
abbrev pub acceptable_at : Option Row → Setup → List ℕ → Bool
acceptable_at (Some r) u s = leb u.termination 1 && acceptable_in u.identifier (layout_of r (terminated u)) s
acceptable_at None u s = false

unfoldable pub acceptable : Setup → List ℕ → Bool
acceptable u s = acceptable_at (row_at u.identifier) u s

-- the datagram of a layout with these bytes before the check: they, their check, most significant byte first, and the ending
unfoldable pub completed : Layout → List ℕ → List ℕ
completed l front = front ++ (in_bytes (check_bytes l.check) (check_of l.check front) ++ l.ending)
