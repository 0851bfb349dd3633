-- The fields of a line are its parts between commas.
use Prim.Native.Nat.{ℕ, ◌+◌}
use mathlib.Core.List.{List, [], ◌∷◌}
use mathlib.Core.Path.{◌≡◌, refl, ap, ◌∙◌}
use lib.Dec.{eqb}
use lib.ListN.{length}
use Rattle.std.specs.List.{slice_split, onto_first, slice_get, count_by, join_with_byte}
use Rattle.std.specs.Option.{unwrap_or}
use Rattle.std.proofs.lemmas.List.Splits.{length-slice_split, join_with_byte-slice_split}
use Rattle.std.proofs.lemmas.Option.{unwrap_or-slice_get}
use Rattle.setup_line.specs.SetupLine.{in_front, fields_of, field_at}

front : (b : ℕ) (fs : List (List ℕ)) → in_front b fs ≡ onto_first b fs
front b [] = refl
front b (f ∷ fs) = refl

pub fields_parts : (line : List ℕ) → fields_of line ≡ slice_split (λ b. eqb b 0x2C) line
unfolding fields_of
fields_parts [] = refl
fields_parts (b ∷ line) = rw (fields_parts line, front b (slice_split (λ b. eqb b 0x2C) line))

pub field_part : (line : List ℕ) (k : ℕ) → unwrap_or (slice_get (slice_split (λ b. eqb b 0x2C) line) k) [] ≡ field_at line k
unfolding field_at
field_part line k = rw (fields_parts line, unwrap_or-slice_get)

-- one more than its commas
pub count_parts : (line : List ℕ) → length (fields_of line) ≡ count_by (λ b. eqb b 0x2C) line + 1
count_parts line = ap length (fields_parts line) ∙ length-slice_split (λ b. eqb b 0x2C) line

-- joined by commas, they are the line
pub fields_joined : (line : List ℕ) → join_with_byte 0x2C (fields_of line) ≡ line
fields_joined line = ap (join_with_byte 0x2C) (fields_parts line) ∙ join_with_byte-slice_split 0x2C line
