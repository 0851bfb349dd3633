use Prim.Native.Nat.{ℕ, zero, suc, ◌^◌, ◌<◌, max}
use mathlib.Core.Path.{◌≡◌, sym, ap, ◌∙◌}
use native.Mathlib.Nat.{pow-suc}
use native.Mathlib.Omega.{arith}
use lib.ListN.{length}
use Rattle.shown_line.specs.Decimal.{digits}
use Rattle.shown_line.proofs.Digits.{digits_small, digits_at_most, digits_at_least}
use Rattle.printing.proofs.digit_count.Goals as goal

-- 0 has as many digits as 1
of_one : (n : ℕ) → length (digits (max n 1)) ≡ length (digits n)
of_one zero = ap length (digits_small 1 (omega arith)) ∙ sym (ap length (digits_small 0 (omega arith)))
of_one (suc n) = ap (λ (m : ℕ). length (digits m)) (omega arith)

pub returns : goal.returns
returns c =
    let n = c.args.n in
    let k = c.ilog10.result in
    let log = c.ilog10.ensures in
    let below : max n 1 < 10 ^ suc k = omega (arith, pow-suc 10 k) in
    omega (arith, of_one n, digits_at_most k (max n 1) below, digits_at_least k (max n 1) (omega arith))
