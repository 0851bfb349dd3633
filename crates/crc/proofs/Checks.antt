-- Laws of the check over its parameters.
-- Assumes nothing.
use mathlib.Core.List.{List}
use Prim.Native.Nat.{ℕ, ◌^◌, ◌≤◌, ◌<◌}
use lib.Dec.{lit<, lit≤}
use Rattle.integers.specs.Bytes.{AllBytes}
use Rattle.crc.specs.Check.{Parameters, stim300, covered, check_of, check32}
use Rattle.crc.proofs.Laws.{register_lt}
use Rattle.crc.proofs.Padding.{covered_bytes}

-- parameters of which the laws hold
pub record Sound (p : Parameters) : Type 0 where
  pub wide : 8 ≤ p.width
  pub polynomial_fits : p.polynomial < 2 ^ p.width
  pub start_fits : p.start < 2 ^ p.width

pub stim300_sound : Sound stim300
unfolding stim300
stim300_sound = record { wide = lit≤ tt; polynomial_fits = lit< tt; start_fits = lit< tt }

-- the check of bytes is a register
pub check_of_lt : (p : Parameters) (s : List ℕ) → Sound p → AllBytes s → check_of p s < 2 ^ p.width
unfolding check_of
check_of_lt p s ok h =
    register_lt p.width p.polynomial ok.wide ok.polynomial_fits (covered p.multiple s) p.start
    (covered_bytes p.multiple s h) ok.start_fits

pub check32_lt : (s : List ℕ) → AllBytes s → check32 s < 2 ^ 32
unfolding check32 stim300
check32_lt s h = check_of_lt stim300 s stim300_sound h
