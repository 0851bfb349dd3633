use native.Mathlib.Omega.{arith}
use mathlib.Core.Path.{◌≡◌, ap, ◌∙◌}
use Rattle.setup_line.specs.SetupLine.{field_at, decimal_value, identifier_value, three_values, setup_written}
use Rattle.setup_line.proofs.Written.{identifier_two, fields}
use Rattle.setup_line.proofs.setup_written.Goals as goal

pub number_at-requires : goal.number_at-requires
number_at-requires c = search (fields c.args.line.now c.requires)

pub identifier_value-requires : goal.identifier_value-requires
identifier_value-requires c = identifier_two c.field.result.now (rw c.field.ensures (fields c.args.line.now c.requires).identifier)

pub number_at-requires-2 : goal.number_at-requires-2
number_at-requires-2 c = search (fields c.args.line.now c.requires)

pub three_values-requires : goal.three_values-requires
three_values-requires c = (omega arith, search (fields c.args.line.now c.requires))

pub three_values-requires-2 : goal.three_values-requires-2
three_values-requires-2 c = (omega arith, search (fields c.args.line.now c.requires))

-- each value is that of its own field
pub returns : goal.returns
unfolding setup_written
returns c =
    let line = c.args.line.now in
    let rate : c.number_at.result ≡ decimal_value (field_at line 0) =
    c.number_at.ensures in
    let identifier : c.identifier_value.result ≡ identifier_value (field_at line 1) =
    c.identifier_value.ensures ∙ ap identifier_value c.field.ensures in
    let termination : c.number_at-2.result ≡ decimal_value (field_at line 2) = c.number_at-2.ensures in
    let units : c.three_values.result ≡ three_values line 3 = c.three_values.ensures in
    let shifts : c.three_values-2.result ≡ three_values line 6 = c.three_values-2.ensures in
    rw (rate, identifier, termination, units, shifts)
