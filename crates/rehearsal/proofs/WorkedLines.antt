-- The worked line, by computation.
use mathlib.Core.Path.{refl}
use Rattle.setup_line.specs.SetupLine.{fields_of, all_digits, decimal_from}
use Rattle.rehearsal.specs.RehearsalLine.{digits_written, number_written, field_written, number_value, nearest, value_at, readings_in, values_in, all_written, rehearsal_of}
use Rattle.rehearsal.specs.WorkedLine.{WorkedLine}

pub worked_line_lem : WorkedLine
unfolding rehearsal_of all_written readings_in values_in value_at nearest number_value field_written number_written digits_written fields_of all_digits decimal_from
worked_line_lem = record { written = refl; readings = refl; values = refl }
