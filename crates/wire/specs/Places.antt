-- A helper of proofs, no rule of 01: the places of the parts of a row, and the fields of a part by the place where it begins, as the code has them.
use Rattle.std.specs.Prelude.{ℕ, ◌+◌, cond, List, [], ◌∷◌, ◌++◌, ltb, get_or}
use Rattle.setup.specs.Layout.{identifier, bytes, group_parts, temperature_parts}
use Rattle.setup.specs.declared.Row.{Row}
use Rattle.wire.specs.Fields.{cut}
use Rattle.wire.specs.declared.Width.{Width}
use Rattle.wire.specs.declared.Width.TheVariants.{Temperature, Reading}

-- where the groups end, and where the temperature sets end
unfoldable pub groups_end : Row → ℕ
groups_end r = bytes (identifier ∷ group_parts r)

unfoldable pub temperatures_end : Row → ℕ
temperatures_end r = bytes (identifier ∷ group_parts r ++ temperature_parts r)

-- the bytes of a signed number
abbrev pub size_of : Width → ℕ
size_of Temperature = 2
size_of Reading = 3

-- the fields of a part; one that isn't carried has the place 0
unfoldable pub fields_at : List ℕ → ℕ → List ℕ → List (List ℕ)
fields_at ws place s = cond (ltb 0 place) (cut ws place s) []

-- the byte `skipped` bytes into the part
unfoldable pub byte_at : ℕ → ℕ → List ℕ → ℕ
byte_at skipped place s = cond (ltb 0 place) (get_or s (place + skipped) 0) 0

abbrev pub bytes_at : ℕ → List ℕ → List ℕ → List ℕ
bytes_at skipped places s = byte_at skipped (get_or places 0 0) s ∷ byte_at skipped (get_or places 1 0) s ∷ byte_at skipped (get_or places 2 0) s ∷ []
