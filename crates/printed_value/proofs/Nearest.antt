-- The nearest whole number, a half to the even one: that it is, that there is no other, and how large it is. Assumes nothing.
use Prim.Native.Nat.{ℕ, ◌+◌, ◌-◌, ◌*◌, ◌/◌, ◌%◌, ◌≤◌, ◌<◌}
use mathlib.Core.Bool.{Bool, true, false, ◌&&◌, ◌||◌, cond}
use mathlib.Core.Path.{◌≡◌, refl, sym, ap}
use native.Mathlib.Nat.{add-mul, one-mul, mul-one, mul_comm, mod-lt, div-add-mod', mul-le-mul_left, mul-le-mul_right}
use native.Mathlib.Decide.{dec_le}
use native.Mathlib.Omega.{arith}
use borrow.Author.Tests.{ltb-true, ltb-false, eqb-true, eqb-false, eq-eqb}
use lib.Dec.{eqb, ltb}
use Rattle.integers.proofs.Booleans.{and_split}
use Rattle.printed_value.specs.PrintedValue.{nearest_even}

-- how far two numbers are apart
abbrev pub apart : ℕ → ℕ → ℕ
apart x y = (x - y) + (y - x)

-- q is the whole number nearest to a / b, and even if it is just half of b away
pub record Nearest (a b q : ℕ) : Type 0 where
  pub near : apart (q * b) a * 2 ≤ b
  pub even : apart (q * b) a * 2 ≡ b → q % 2 ≡ 0

abbrev odd_half : ℕ → ℕ → Bool
odd_half a b = eqb (a % b * 2) b && eqb (a / b % 2) 1

module _ (a b : ℕ) (h : 0 < b) where
  -- just a half is left, and not behind an odd number
  even_half : odd_half a b ≡ false → a % b * 2 ≡ b → a / b % 2 ≡ 0
  even_half o e = let n = eqb-false (a / b % 2) 1 (rw (eq-eqb (a % b * 2) b e) at o) in omega (arith, n)

  -- by the two tests of the definition
  by_tests : (more odd : Bool) → ltb b (a % b * 2) ≡ more → odd_half a b ≡ odd → Nearest a b (cond (more || odd) (a / b + 1) (a / b))
  by_tests true odd m o =
      let l = ltb-true b (a % b * 2) m in
      let e = div-add-mod' a b in
      let r = mod-lt a h in
      let s = add-mul (a / b) 1 b in
      let i = one-mul b in
      record { near = omega arith; even = λ z. absurd (omega arith) }
  by_tests false true m o =
      let t = and_split (eqb (a % b * 2) b) (eqb (a / b % 2) 1) o in
      let l = eqb-true (a % b * 2) b t.0 in
      let p = eqb-true (a / b % 2) 1 t.1 in
      let e = div-add-mod' a b in
      let s = add-mul (a / b) 1 b in
      let i = one-mul b in
      record { near = omega arith; even = λ z. omega arith }
  by_tests false false m o =
      let l = ltb-false b (a % b * 2) m in
      let e = div-add-mod' a b in
      record { near = omega arith; even = λ z. even_half o (omega arith) }

  pub nearest_is : Nearest a b (nearest_even a b)
  unfolding nearest_even
  nearest_is = by_tests (ltb b (a % b * 2)) (odd_half a b) refl refl

  -- of two such numbers none is above the other
  not_less : {p q : ℕ} → Nearest a b p → Nearest a b q → p < q → ⊥
  not_less {p} {q} x y l = by (dec_le q (p + 1))
    where
      by : Dec (q ≤ p + 1) → ⊥
      by (yes u) =
          let e : q ≡ p + 1 = omega arith in
          let s : q * b ≡ p * b + b = rw e (omega (arith, add-mul p 1 b, one-mul b)) in
          let v = x.even (omega (arith, x.near, y.near)) in
          let w = y.even (omega (arith, x.near, y.near)) in
          omega arith
      by (no u) =
          let m : (p + 2) * b ≤ q * b = mul-le-mul_right b (omega arith) in
          omega (arith, add-mul p 2 b, x.near, y.near, mul_comm 2 b)

  -- so there is one only
  pub nearest_only : {p q : ℕ} → Nearest a b p → Nearest a b q → p ≡ q
  nearest_only x y = omega (arith, not_less x y, not_less y x)

  -- a quotient of whole numbers is no larger than what is divided, so rounded neither
  pub nearest_at_most : nearest_even a b ≤ a
  nearest_at_most = by (dec_le (nearest_even a b) a)
    where
      by : Dec (nearest_even a b ≤ a) → nearest_even a b ≤ a
      by (yes l) = l
      by (no l) =
          let n = nearest_is.near in
          let more : (a + 1) * b ≤ nearest_even a b * b = mul-le-mul_right b (omega arith) in
          let one : a * 1 ≤ a * b = mul-le-mul_left a h in
          absurd (omega (arith, add-mul a 1 b, one-mul b, mul-one a))

-- an even number of times b more makes it as much more
pub nearest_pairs : (k a b : ℕ) → 0 < b → nearest_even (k * 2 * b + a) b ≡ k * 2 + nearest_even a b
nearest_pairs k a b h =
    let q = nearest_even a b in
    let n = nearest_is a b h in
    let e = add-mul (k * 2) q b in
    nearest_only (k * 2 * b + a) b h (nearest_is (k * 2 * b + a) b h)
    record { near = omega (arith, n.near); even = λ z. omega (arith, n.even (omega arith)) }

-- by the test of the definition
module _ (a b : ℕ) where
  pub nearest_up : (ltb b (a % b * 2) || odd_half a b) ≡ true → a / b + 1 ≡ nearest_even a b
  unfolding nearest_even
  nearest_up e = sym (ap (λ (t : Bool). cond t (a / b + 1) (a / b)) e)

  pub nearest_stays : (ltb b (a % b * 2) || odd_half a b) ≡ false → a / b ≡ nearest_even a b
  unfolding nearest_even
  nearest_stays e = sym (ap (λ (t : Bool). cond t (a / b + 1) (a / b)) e)
