-- A reading that is an element of an array, cast to the width of a total: it is still the same number.
use mathlib.Core.Path.{◌≡◌}
use Prim.Native.Nat.{◌<◌, ◌^◌}
use lib.IntN.{ℤ}
use lib.Signed.{mag}
use mir.Syntax.{w32, w64}
use mir.Val.{hbits, SFits, of_z, to_z}
use mir.ValLaws.{to_z-of_z}
use Rattle.integers.proofs.Signed.{sfits_by, widen, widened}

module _ (z : ℤ) (h : mag z < 2 ^ hbits w32) where
  pub element_fits : SFits w32 z
  element_fits = record { sfits = h }

  pub element_casts : SFits w64 (to_z w32 (of_z w32 z))
  element_casts = sfits_by (to_z-of_z w32 z element_fits) (widen element_fits tt)

  pub element_same : to_z w64 (of_z w64 (to_z w32 (of_z w32 z))) ≡ z
  element_same = widened w32 w64 element_fits tt
