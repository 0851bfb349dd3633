-- A helper of proofs, no rule of 01: the register of `crc32`, of width 64, whose polynomial is x^64 modulo the check's generator, so that it goes
-- round a multiple of that.
-- Assumes nothing.
use Rattle.std.specs.Prelude.{ℕ, ◌/◌, ◌%◌, ◌^◌}
use Rattle.std.specs.Int.Bits.{bit_xor}
use Rattle.crc.specs.Check.{shifts}

abbrev pub wide_polynomial : ℕ
wide_polynomial = 0x490D678D

-- the register of width 32 that a wide one stands for: its remainder by the check's generator
unfoldable pub remainder : ℕ → ℕ
remainder c = bit_xor (shifts 32 0x04C11DB7 32 (c / 2 ^ 32)) (c % 2 ^ 32)
