use Rattle.setup_line.specs.SetupLine.{field_at}
use Rattle.integers.proofs.Signed.{kept}
use Rattle.rehearsal.specs.RehearsalLine.{number_value, nearest, value_at}
use mathlib.Core.Path.{ap, ◌∙◌}
use mir.Syntax.{w32}
use Rattle.rehearsal.proofs.value_at.Goals as goal

pub returns : goal.returns
unfolding value_at field_at
returns c = kept w32 c.value_of.type_inv c.value_of.ensures ∙ ap (λ t. nearest (number_value t)) c.field.ensures
