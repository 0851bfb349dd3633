-- Laws of digits, and of the number that they write, by the byte that stands at a place of a text.
use Prim.Native.Nat.{ℕ, ◌+◌, ◌*◌, ◌-◌, ◌^◌, ◌≤◌, ◌<◌}
use native.Mathlib.Nat.{pow-suc, pow-le-pow_right}
use native.Mathlib.Numerals.{add-one}
use native.Mathlib.Omega.{arith}
use mathlib.Core.Bool.{Bool, true, false, ◌&&◌, ◌||◌, cond}
use mathlib.Core.List.{List, [], ◌∷◌}
use mathlib.Core.Path.{◌≡◌, refl, ap, ◌∙◌}
use lib.Dec.{leb}
use lib.ListN.{length, get_or, drop, drop_of_length-le}
use lib.Seq.{drop-cons}
use Rattle.std.specs.List.{list_all}
use borrow.Author.Tests.{leb-true}
use Rattle.integers.proofs.Booleans.{and_split}
use Rattle.setup_line.specs.SetupLine.{is_digit, is_hex_digit, digit_value, all_digits, decimal_from}

second : (a b : Bool) → a ≡ false → (a || b) ≡ true → b ≡ true
second true b f e = let z : ◌≡◌ {A = ℕ} 0 1 = cc in absurd (omega arith)
second false b f e = e

between : (low high b : ℕ) → (leb low b && leb b high) ≡ true → (low ≤ b) × (b ≤ high)
between low high b e = let t = and_split (leb low b) (leb b high) e in (leb-true low b t.0, leb-true b high t.1)

pub digit_range : (b : ℕ) → is_digit b ≡ true → (0x30 ≤ b) × (b ≤ 0x39)
digit_range b e = between 0x30 0x39 b e

pub letter_range : (b : ℕ) → is_digit b ≡ false → is_hex_digit b ≡ true → (0x41 ≤ b) × (b ≤ 0x46)
letter_range b f e = between 0x41 0x46 b (second (is_digit b) (leb 0x41 b && leb b 0x46) f e)

value_by : (b : ℕ) (d h : Bool) → is_digit b ≡ d → is_hex_digit b ≡ h → cond d (b - 0x30) (cond h (b - 0x37) 0) ≤ 15
value_by b true h d e = let r = digit_range b d in omega arith
value_by b false true d e = let r = letter_range b d e in omega arith
value_by b false false d e = omega arith

pub value_small : (b : ℕ) → digit_value b ≤ 15
value_small b = value_by b (is_digit b) (is_hex_digit b) refl refl

pub digits_each : (s : List ℕ) → all_digits s ≡ list_all is_digit s
unfolding all_digits
digits_each [] = refl
digits_each (b ∷ s) = ap (λ (t : Bool). is_digit b && t) (digits_each s)

module _ (s : List ℕ) (i : ℕ) where
  pub decimal_next : (n : ℕ) → i < length s → decimal_from n (drop i s) ≡ decimal_from (n * 10 + digit_value (get_or s i 0)) (drop (i + 1) s)
  unfolding decimal_from
  decimal_next n h = rw (add-one, drop-cons s i 0)

  pub decimal_end : (n : ℕ) → length s ≤ i → decimal_from n (drop i s) ≡ n
  unfolding decimal_from
  decimal_end n h = rw (drop_of_length-le s h)

-- a number of i digits, each at most 15, with one digit more
pub decimal_small : (i n v : ℕ) → i < 4 → n + 2 ≤ 2 * 10 ^ i → v ≤ 15 → (n * 10 + v + 2 ≤ 2 * 10 ^ (i + 1)) × (n * 10 + v < 65536)
decimal_small i n v h b d =
    let more : 10 ^ (i + 1) ≡ 10 ^ i * 10 = ap (λ k. 10 ^ k) (add-one i) ∙ pow-suc 10 i in
    let few : i ≤ 3 = omega arith in
    let most : 10 ^ i ≤ 1000 = pow-le-pow_right {n = 10} (omega arith) few in
    omega arith
