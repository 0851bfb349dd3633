-- Folding (01, Totals).
use Rattle.std.specs.Prelude.{◌^◌, ℤ}
use Rattle.integers.specs.Rounding.{residue}
use Rattle.integers.specs.Bytes.{twos_complement}

-- z modulo 2 ^ 24, brought into -8388608 .. 8388607
unfoldable pub fold : ℤ → ℤ
fold z = twos_complement 24 (residue z (2 ^ 24))
