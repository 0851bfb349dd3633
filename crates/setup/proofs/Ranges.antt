-- The table by the ranges of its identifiers, as the code has it.
use Prim.Native.Nat.{ℕ, zero, suc, ◌+◌, ◌-◌, ◌<◌, ◌≤◌}
use mathlib.Core.Bool.{Bool, true, false}
use mathlib.Core.Path.{◌≡◌, refl, subst}
use native.Mathlib.Omega.{arith}
use native.Mathlib.Decide.{dec_le}
use borrow.Author.Tests.{ne_eqb}
use Rattle.setup.specs.Layout.{row_with, row_at}
use Rattle.std.specs.Prelude.{None, Some}

-- P at each of the n numbers from lo on
abbrev All : (ℕ → Type 0) → ℕ → ℕ → Type 0
All P lo zero = Unit {0}
All P lo (suc n) = P lo × All P (suc lo) n

same : (lo i : ℕ) → lo ≤ i → i ≤ lo → lo ≡ i
same lo i a b = omega arith

split : (P : ℕ → Type 0) (lo i : ℕ) → lo ≤ i → P lo → (suc lo ≤ i → P i) → Dec (i ≤ lo) → P i
split P lo i a h r (yes e) = subst P (same lo i a e) h
split P lo i a h r (no k) = r (omega arith)

between : (P : ℕ → Type 0) (lo n : ℕ) → All P lo n → (i : ℕ) → lo ≤ i → i < lo + n → P i
between P lo zero h i a b = absurd (omega arith)
between P lo (suc n) h i a b = split P lo i a h.0 (λ k. between P (suc lo) n h.1 i k (omega arith)) (dec_le i lo)

-- the row of an identifier by its place in a range that begins at, or stands for one that would begin at, `base`
abbrev InPlace : ℕ → Bool → Bool → ℕ → Type 0
InPlace base warm voltage id = row_at id ≡ Some (row_with (id - base) warm voltage)

pub groups : (id : ℕ) → 0x90 ≤ id → id < 0x94 → InPlace 0x90 false false id
unfolding row_at
groups = between (InPlace 0x90 false false) 0x90 4 (refl, (refl, (refl, (refl, tt))))

pub groups_aux : (id : ℕ) → 0x98 ≤ id → id < 0x9C → InPlace 0x98 false true id
unfolding row_at
groups_aux = between (InPlace 0x98 false true) 0x98 4 (refl, (refl, (refl, (refl, tt))))

pub warm : (id : ℕ) → 0xA5 ≤ id → id < 0xA8 → InPlace 0xA4 true false id
unfolding row_at
warm = between (InPlace 0xA4 true false) 0xA5 3 (refl, (refl, (refl, tt)))

pub warm_aux : (id : ℕ) → 0xAD ≤ id → id < 0xB0 → InPlace 0xAC true true id
unfolding row_at
warm_aux = between (InPlace 0xAC true true) 0xAD 3 (refl, (refl, (refl, tt)))

-- an identifier outside the ranges 0x90 to 0x94, 0x98 to 0x9C, 0xA5 to 0xA7 and 0xAD to 0xAF is none of the table's
module _
    (id : ℕ) (a : 0x90 ≤ id → id < 0x95 → ⊥) (b : 0x98 ≤ id → id < 0x9D → ⊥) (c : 0xA5 ≤ id → id < 0xA8 → ⊥) (d : 0xAD ≤ id → id < 0xB0 → ⊥)
  where
    other : (lo hi k : ℕ) → (lo ≤ id → id < hi → ⊥) → lo ≤ k → k < hi → id ≡ k → ⊥
    other lo hi k f p q e = f (omega arith) (omega arith)

    pub unlisted : row_at id ≡ None
    unfolding row_at
    unlisted =
        simp (
          ne_eqb id 0x90 (other 0x90 0x95 0x90 a (omega arith) (omega arith)),
          ne_eqb id 0x91 (other 0x90 0x95 0x91 a (omega arith) (omega arith)),
          ne_eqb id 0x92 (other 0x90 0x95 0x92 a (omega arith) (omega arith)),
          ne_eqb id 0x93 (other 0x90 0x95 0x93 a (omega arith) (omega arith)),
          ne_eqb id 0x94 (other 0x90 0x95 0x94 a (omega arith) (omega arith)),
          ne_eqb id 0x98 (other 0x98 0x9D 0x98 b (omega arith) (omega arith)),
          ne_eqb id 0x99 (other 0x98 0x9D 0x99 b (omega arith) (omega arith)),
          ne_eqb id 0x9A (other 0x98 0x9D 0x9A b (omega arith) (omega arith)),
          ne_eqb id 0x9B (other 0x98 0x9D 0x9B b (omega arith) (omega arith)),
          ne_eqb id 0x9C (other 0x98 0x9D 0x9C b (omega arith) (omega arith)),
          ne_eqb id 0xA5 (other 0xA5 0xA8 0xA5 c (omega arith) (omega arith)),
          ne_eqb id 0xA6 (other 0xA5 0xA8 0xA6 c (omega arith) (omega arith)),
          ne_eqb id 0xA7 (other 0xA5 0xA8 0xA7 c (omega arith) (omega arith)),
          ne_eqb id 0xAD (other 0xAD 0xB0 0xAD d (omega arith) (omega arith)),
          ne_eqb id 0xAE (other 0xAD 0xB0 0xAE d (omega arith) (omega arith)),
          ne_eqb id 0xAF (other 0xAD 0xB0 0xAF d (omega arith) (omega arith)),
        )
