-- The printed number in two parts that fit 64 bits: its whole part and its fraction.
use Prim.Native.Nat.{ℕ, ◌+◌, ◌*◌, ◌/◌, ◌%◌, ◌^◌, ◌≤◌, ◌<◌}
use mathlib.Core.Path.{◌≡◌, sym, ap, ◌∙◌}
use native.Mathlib.Nat.{add-mul, mul_assoc, mul_comm, mul_right_comm, mul-le-mul, one-le-pow, pow-le-pow_right, mod-lt, div-add-mod', mul-add-div_right, mul-add-mod_self_right}
use native.Mathlib.Omega.{arith}
use Rattle.printed_value.specs.PrintedValue.{nearest_even}
use Rattle.printed_value.proofs.Nearest.{nearest_pairs}

-- ---- the powers

pub unit_range : (shift : ℕ) → shift ≤ 31 → (0 < 2 ^ shift) × (2 ^ shift ≤ 2 ^ 31)
unit_range shift h = (one-le-pow shift 2 (omega arith), pow-le-pow_right (omega arith) h)

pub scale_range : (places : ℕ) → places ≤ 9 → (0 < 10 ^ places) × (10 ^ places ≤ 10 ^ 9)
scale_range places h = (one-le-pow places 10 (omega arith), pow-le-pow_right (omega arith) h)

-- ---- the parts

-- what is rounded is below 2^62
pub rest_small : (size unit scale : ℕ) → 0 < unit → unit ≤ 2 ^ 31 → scale ≤ 10 ^ 9 → size % (unit * 2) * scale < 2 ^ 62
rest_small size unit scale u l s =
    let r : size % (unit * 2) < unit * 2 = mod-lt size (omega arith) in
    let few : size % (unit * 2) ≤ 2 ^ 32 = omega arith in
    omega (arith, mul-le-mul few s)

module _ (size unit scale : ℕ) (u : 0 < unit) (s : 0 < scale) where
  abbrev pairs : ℕ
  pairs = size / (unit * 2)

  abbrev last : ℕ
  last = nearest_even (size % (unit * 2) * scale) unit

  -- the number rounded from all of it is that rounded from the rest, and 2 × scale more for each pair of units
  split : nearest_even (size * scale) unit ≡ pairs * 2 * scale + last
  split =
      let rest = size % (unit * 2) in
      let turned : pairs * (unit * 2) * scale ≡ pairs * scale * 2 * unit =
      mul_right_comm pairs (unit * 2) scale ∙ ap (λ (k : ℕ). pairs * scale * k) (mul_comm unit 2) ∙ sym (mul_assoc (pairs * scale) 2 unit)
      in
      let parted : size * scale ≡ pairs * scale * 2 * unit + rest * scale =
      ap (λ (n : ℕ). n * scale) (sym (div-add-mod' size (unit * 2))) ∙ add-mul (pairs * (unit * 2)) rest scale ∙ ap (λ (n : ℕ). n + rest * scale) turned
      in
      ap (λ (n : ℕ). nearest_even n unit) parted ∙ nearest_pairs (pairs * scale) (rest * scale) unit u
      ∙ ap (λ (n : ℕ). n + last) (mul_right_comm pairs scale 2)

  pub whole_part : nearest_even (size * scale) unit / scale ≡ pairs * 2 + last / scale
  whole_part = ap (λ (m : ℕ). m / scale) split ∙ mul-add-div_right s (pairs * 2) last

  pub fraction_part : nearest_even (size * scale) unit % scale ≡ last % scale
  fraction_part = ap (λ (m : ℕ). m % scale) split ∙ mul-add-mod_self_right (pairs * 2) scale last
