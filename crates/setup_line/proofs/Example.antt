-- The example of 01, The setup line, `1000,90,0,3,0,0,21,0,0`, as the definitions compute it.
use Prim.Native.Nat.{ℕ}
use mathlib.Core.List.{List, [], ◌∷◌}
use mathlib.Core.Path.{◌≡◌, refl}
use Rattle.crc.specs.Check.{stim300}
use Rattle.setup.specs.Layout.{parts_of, groups_carried, row_at, parts_at}
use Rattle.setup.specs.Setup.{setup_rules, length_of}
use Rattle.setup_line.specs.SetupLine.{fields_of, field_at, all_digits, decimal_written, identifier_written, decimal_from, identifier_value, line_written, setup_written, line_rules, line_read}
use Rattle.setup.specs.declared.Setup.{Setup}
use Rattle.std.specs.Prelude.{Ok}

abbrev example : List ℕ
example =
    0x31 ∷ 0x30 ∷ 0x30 ∷ 0x30 ∷ 0x2C ∷ 0x39 ∷ 0x30 ∷ 0x2C ∷ 0x30 ∷ 0x2C ∷ 0x33 ∷ 0x2C ∷ 0x30 ∷ 0x2C ∷ 0x30 ∷ 0x2C ∷
    0x32 ∷ 0x31 ∷ 0x2C ∷ 0x30 ∷ 0x2C ∷ 0x30 ∷ []

abbrev example_setup : Setup
example_setup = record { rate = 1000; identifier = 0x90; termination = 0; units = 3 ∷ 0 ∷ 0 ∷ []; shifts = 21 ∷ 0 ∷ 0 ∷ [] }

pub example_read : line_read example ≡ record { answer = Ok tt; setup = example_setup }
unfolding
    line_read line_rules setup_written line_written identifier_value decimal_from identifier_written decimal_written all_digits field_at fields_of setup_rules groups_carried row_at
    parts_at parts_of
example_read = refl

pub example_length : length_of example_setup ≡ 18
unfolding length_of row_at parts_of stim300
example_length = refl
