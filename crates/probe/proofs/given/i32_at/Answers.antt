-- `probe::given::i32_at` meets its contract. Assumes nothing.
use mathlib.Core.Path.{refl, ap, ◌∙◌}
use mir.Syntax.{w32}
use Rattle.integers.proofs.Signed.{kept}
use Rattle.integers.specs.Bytes.{twos_complement}
use Rattle.probe.proofs.Reading.{complement}
use Rattle.probe.proofs.given.i32_at.Goals as goal

pub returns : goal.returns
returns c =
    kept w32 c.cast_signed.type_inv
    (c.cast_signed.ensures ∙ complement w32 32 c.u32_at.result refl refl c.u32_at.type_inv ∙ ap (twos_complement 32) c.u32_at.ensures)
