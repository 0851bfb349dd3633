-- `probe::given::i64_at` meets its contract. Assumes nothing.
use mathlib.Core.Path.{refl, ap, ◌∙◌}
use mir.Syntax.{w64}
use Rattle.integers.proofs.Signed.{kept}
use Rattle.integers.specs.Bytes.{twos_complement}
use Rattle.probe.proofs.Reading.{complement}
use Rattle.probe.proofs.given.i64_at.Goals as goal

pub returns : goal.returns
returns c =
    kept w64 c.cast_signed.type_inv
    (c.cast_signed.ensures ∙ complement w64 64 c.u64_at.result refl refl c.u64_at.type_inv ∙ ap (twos_complement 64) c.u64_at.ensures)
