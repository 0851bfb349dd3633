-- Which bytes begin a special datagram, as arithmetic: 0xBC to 0xBF, the odd ones of 0xB0 to 0xB7, 0xD1 and 0xD2.
use Prim.Native.Nat.{ℕ, zero, suc, ◌/◌, ◌%◌, ◌<◌}
use native.Mathlib.Omega.{arith}
use native.Mathlib.Decide.{dec_lt}
use mathlib.Core.Bool.{Bool, true, false, ◌&&◌, ◌||◌, not}
use mathlib.Core.Path.{◌≡◌, refl, sym, subst}
use lib.Dec.{eqb, ltb}
use Rattle.integers.proofs.Booleans.{and_split}
use Rattle.crc.specs.Check.{stim300}
use Rattle.special.specs.Special.{entry_at, special_length}

-- two tests give the same
abbrev agree : Bool → Bool → Bool
agree true t = t
agree false t = not t

agree_same : (s t : Bool) → agree s t ≡ true → s ≡ t
agree_same true t e = sym e
agree_same false true e = e
agree_same false false e = refl

-- a test passes at each number below n
abbrev below : (ℕ → Bool) → ℕ → Bool
below f zero = true
below f (suc n) = f n && below f n

below_at : (f : ℕ → Bool) (n : ℕ) → below f n ≡ true → (k : ℕ) → k < n → f k ≡ true
below_at f zero e k h = absurd (omega arith)
below_at f (suc n) e k h = by (dec_lt k n) (λ l. below_at f n (and_split (f n) (below f n) e).1 k l)
  where
    by : Dec (k < n) → (k < n → f k ≡ true) → f k ≡ true
    by (yes l) r = r l
    by (no l) r = let s : n ≡ k = omega arith in subst (λ m. f m ≡ true) s (and_split (f n) (below f n) e).0

abbrev pub begins_special : ℕ → Bool
begins_special b = eqb (b / 4) 47 || ((eqb (b / 8) 22 && eqb (b % 2) 1) || (eqb b 0xD1 || eqb b 0xD2))

agrees : ℕ → Bool
agrees b = agree (ltb 0 (special_length b)) (begins_special b)

all_agree : below agrees 256 ≡ true
unfolding agrees special_length entry_at stim300
all_agree = refl

pub begins_special_lem : (b : ℕ) → b < 256 → ltb 0 (special_length b) ≡ begins_special b
unfolding agrees
begins_special_lem b h = agree_same (ltb 0 (special_length b)) (begins_special b) (below_at agrees 256 all_agree b h)
