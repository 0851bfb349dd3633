-- A helper of proofs, no rule of 01: the parts of a line as the functions that write it have them, and a line that only 14 is left to refuse.
use Rattle.std.specs.Prelude.{ℕ, List, [], ◌∷◌, ◌++◌, length, Result}
use Rattle.setup.specs.Setup.{first_of, buffer_by}
use Rattle.gaps.specs.declared.Gap.{Gap}
use Rattle.shown_line.specs.Decimal.{digits}
use Rattle.shown_line.specs.ShownLine.{missed_field, room_rules, written_by}
use Rattle.refusals.specs.declared.Refusal.{Refusal}

-- fields each behind its comma, as those after the first stand in a line
abbrev pub behind : List (List ℕ) → List ℕ
behind [] = []
behind (f ∷ fs) = (0x2C ∷ f) ++ behind fs

-- the heading of a line, before the groups
abbrev pub heading_text : ℕ → ℕ → ℕ → Gap → List ℕ
heading_text ordinal counter latency gap = digits ordinal ++ behind (digits counter ∷ digits latency ∷ missed_field gap ∷ [])

-- a text in a buffer where only 14 is left to refuse it
unfoldable pub room_answer : List ℕ → List ℕ → Result ℕ Refusal
room_answer b text = written_by (first_of (room_rules text (length b))) text

unfoldable pub room_buffer : List ℕ → List ℕ → List ℕ
room_buffer b text = buffer_by (first_of (room_rules text (length b))) text b
