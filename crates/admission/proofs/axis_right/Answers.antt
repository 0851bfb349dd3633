-- `admission::axis_right` meets its contract. Assumes nothing.
use Prim.Native.Nat.{ℕ, ◌-◌, ◌*◌, ◌^◌, ◌≤◌, min}
use mathlib.Core.Path.{◌≡◌, sym, ap, ◌∙◌}
use native.Mathlib.Decide.{dec_le}
use native.Mathlib.Omega.{arith}
use borrow.Author.Tests.{le-leb}
use lib.IntN.{ℤ, nat_abs}
use lib.Signed.{nat_abs-le}
use mir.Syntax.{w32, w64}
use mir.Val.{SFits}
use Rattle.integers.specs.Ranges.{is_zero, within, in_reading}
use Rattle.integers.proofs.Signed.{widened, passed}
use Rattle.admission.specs.Admission.{axis_right}
use Rattle.admission.proofs.axis_right.Goals as goal

-- a limit that 64 bits don't hold is above every total, as the greatest that they hold is
saturated : (most : ℕ) {limit : ℕ} (total : ℤ) → SFits w64 total → limit ≡ min most (2 ^ 64 - 1) → within limit total ≡ within most total
saturated most {limit} total f e = by (dec_le most (2 ^ 64 - 1))
  where
    by : Dec (most ≤ 2 ^ 64 - 1) → within limit total ≡ within most total
    by (yes h) = let same : limit ≡ most = omega arith in rw same
    by (no h) =
        let small = nat_abs-le total f.sfits in
        le-leb (nat_abs total) limit (omega arith) ∙ sym (le-leb (nat_abs total) most (omega arith))

-- what the four tests tell of the axis
pub returns : goal.returns
unfolding axis_right
returns c =
    let axis = c.args.axis in
    let most = c.saturating_mul.result in
    let last_fits : SFits w32 axis.last = record { sfits = omega arith } in
    let total_fits : SFits w64 axis.total = record { sfits = omega arith } in
    let small : c.is_within-small.result ≡ within (c.args.datagrams.0 * 2 ^ 23) axis.total =
    passed w64 (λ z. within most z) axis.total total_fits c.is_within-small.ensures
    ∙ saturated (c.args.datagrams.0 * 2 ^ 23) axis.total total_fits c.saturating_mul.ensures in
    let fits : c.fits_reading-fits.result ≡ in_reading axis.last = passed w32 in_reading axis.last last_fits c.fits_reading-fits.ensures in
    let unread : c.is_zero-unread.result ≡ is_zero axis.last =
    c.is_zero-unread.ensures ∙ ap is_zero (widened w32 w64 last_fits tt) in
    let unmoved : c.is_zero-unmoved.result ≡ is_zero axis.total = passed w64 is_zero axis.total total_fits c.is_zero-unmoved.ensures in
    rw (small, fits, unread, unmoved)
