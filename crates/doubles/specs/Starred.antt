-- The starred bench cases of 01 as one list of facts about the rules.
use Rattle.std.specs.Prelude.{true, false, [], ◌∷◌, ◌≡◌, pos, negsuc}
use Rattle.std.proofs.Math.Option.{none, some}
use Rattle.std.specs.Float.{binary64}
use Rattle.std.specs.Float.Ieee.{of_bits}
use Rattle.integers.specs.Bytes.{signed_bytes}
use Rattle.gaps.specs.Gaps.{datagrams, missed_at}
use Rattle.motion.specs.Status.{fit_axes}
use Rattle.motion.specs.Totals.{difference}
use Rattle.doubles.specs.Doubles.{quotient}

abbrev pub Starred : Type 0
Starred =
    -- 7F FF FF is 8388607; 80 00 00 is -8388608; FF FF FF is -1
    (signed_bytes (0x7F ∷ 0xFF ∷ 0xFF ∷ []) ≡ pos 8388607) ×
    (signed_bytes (0x80 ∷ 0x00 ∷ 0x00 ∷ []) ≡ negsuc 8388607) ×
    (signed_bytes (0xFF ∷ 0xFF ∷ 0xFF ∷ []) ≡ negsuc 0) ×
    -- 8388600 to -8388600 adds 16; 0 to -8388608 adds -8388608
    (difference (negsuc 8388599) (pos 8388600) ≡ pos 16) ×
    (difference (negsuc 8388607) (pos 0) ≡ negsuc 8388607) ×
    -- rate 500, counter 254 to 2: missed 0; rate 125, 2 to 2: missed 15; rate 1000, 0 to 3: off step
    (missed_at 500 false 254 2 ≡ some (datagrams 0)) ×
    (missed_at 125 false 2 2 ≡ some (datagrams 15)) ×
    (missed_at 1000 false 0 3 ≡ none) ×
    -- 16384 at shift 14 is 1.0; -8388608 at 21 is -4.0
    (quotient (pos 16384) 14 ≡ of_bits binary64 0x3FF0_0000_0000_0000) ×
    (quotient (negsuc 8388607) 21 ≡ of_bits binary64 0xC010_0000_0000_0000) ×
    -- status 0x0A: Y unfit only; 0x20: all fit
    (fit_axes 0x0A ≡ true ∷ false ∷ true ∷ []) ×
    (fit_axes 0x20 ≡ true ∷ true ∷ true ∷ [])
