-- Laws of the answers to a setup: the numbers that can come out, and what is known of an accepted setup.
use Prim.Native.Nat.{ℕ, zero, suc, ◌≤◌, ◌<◌}
use native.Mathlib.Omega.{arith}
use mathlib.Core.Bool.{Bool, true, false, not, ◌||◌}
use mathlib.Core.List.{List}
use mathlib.Core.Path.{◌≡◌, refl, ap}
use lib.Dec.{eqb, ltb}
use lib.ListN.{get_or}
use borrow.Author.Tests.{eqb-true, ltb-false, not-false}
use Rattle.integers.proofs.Booleans.{or_split}
use Rattle.setup.specs.Layout.{layout_of, length_in, row_at, groups_carried}
use Rattle.setup.specs.Setup.{rate_listed, is_listed, any_above, stray_group, stray, setup_rules, ruling_on}
use Rattle.setup.specs.Setup.{zero_setup, terminated, length_at, length_of}
use Rattle.setup.specs.declared.Row.{Row}
use Rattle.std.specs.Prelude.{Option, None, Some, Ok, Err}
use Rattle.setup.specs.declared.Setup.{Setup}
use Rattle.refusals.specs.Refusals.{number_of}
use Rattle.refusals.specs.declared.Refusal.{Refusal}
use Rattle.refusals.specs.declared.Refusal.TheVariants.{IdentifierUnknown}
use Rattle.setup.proofs.Layouts.{length_range}
use Rattle.setup.proofs.Rules.{first_within, none_applies}

-- a setup given as values is refused by 4 to 9 only
pub judge_numbers : (s : Setup) {e : Refusal} → ruling_on s ≡ Err e → (4 ≤ number_of e) × (number_of e ≤ 9)
unfolding ruling_on setup_rules
judge_numbers s e = first_within 4 9 (setup_rules s) (omega arith) e

-- a setup of zeros is itself refused
pub zeros_refused : ruling_on zero_setup ≡ Err IdentifierUnknown
unfolding ruling_on setup_rules row_at
zeros_refused = refl

-- what is known of an accepted setup
pub record Known (s : Setup) : Type 0 where
  pub rate : rate_listed s.rate ≡ true
  pub row : Row
  pub listed : row_at s.identifier ≡ Some row
  pub termination : s.termination ≤ 1
  pub units : any_above 3 s.units ≡ false
  pub shifts : any_above 31 s.shifts ≡ false
  pub plain : stray (groups_carried s.identifier) s.units s.shifts ≡ false

is_listed_lem : (f : Option Row) → is_listed f ≡ true → (r : Row) × (f ≡ Some r)
is_listed_lem (Some r) e = (r, refl)
is_listed_lem None e = let z : ◌≡◌ {A = ℕ} 0 1 = cc in absurd (omega arith)

pub accepted : (s : Setup) → ruling_on s ≡ Ok tt → Known s
unfolding ruling_on setup_rules
accepted s e =
    let none = none_applies (setup_rules s) e in
    let found = is_listed_lem (row_at s.identifier) (not-false (is_listed (row_at s.identifier)) none.1.0) in
    record {
      rate = not-false (rate_listed s.rate) none.0;
      row = found.0;
      listed = found.1;
      termination = ltb-false 1 s.termination none.1.1.0;
      units = none.1.1.1.0;
      shifts = none.1.1.1.1.0;
      plain = none.1.1.1.1.1.0;
    }

-- the length of its datagrams, which are 18 to 65 bytes long
pub listed_length : (s : Setup) {r : Row} → row_at s.identifier ≡ Some r → length_of s ≡ length_in (layout_of r (terminated s))
unfolding length_of
listed_length s e = ap (λ l. length_at l (terminated s)) e

pub accepted_length : (s : Setup) → ruling_on s ≡ Ok tt → (18 ≤ length_of s) × (length_of s ≤ 65)
accepted_length s e = let k = accepted s e in rw (listed_length s k.listed) (length_range k.row (terminated s))

-- ---- group by group, counted from 0 in the order gyro, accelerometer, inclinometer

pub each : (P : ℕ → Type 0) → P 0 → P 1 → P 2 → (g : ℕ) → g < 3 → P g
each P a b c zero h = a
each P a b c (suc zero) h = b
each P a b c (suc (suc zero)) h = c
each P a b c (suc (suc (suc g))) h = absurd (omega arith)

-- 7, 8: what is left of the numbers that none is above the limit
pub none_above : (limit : ℕ) (l : List ℕ) → any_above limit l ≡ false → (g : ℕ) → g < 3 → get_or l g 0 ≤ limit
none_above limit l e =
    let two = or_split (ltb limit (get_or l 0 0) || ltb limit (get_or l 1 0)) (ltb limit (get_or l 2 0)) e in
    let one = or_split (ltb limit (get_or l 0 0)) (ltb limit (get_or l 1 0)) two.0 in
    each (λ g. get_or l g 0 ≤ limit) (ltb-false limit (get_or l 0 0) one.0) (ltb-false limit (get_or l 1 0) one.1)
    (ltb-false limit (get_or l 2 0) two.1)

-- 9: a group that isn't carried has unit and shift 0
plain : (unit shift : ℕ) → stray_group false unit shift ≡ false → (unit ≡ 0) × (shift ≡ 0)
plain unit shift e =
    let both = or_split (not (eqb unit 0)) (not (eqb shift 0)) e in
    (eqb-true unit 0 (not-false (eqb unit 0) both.0), eqb-true shift 0 (not-false (eqb shift 0) both.1))

pub absent_plain : (s : Setup) → ruling_on s ≡ Ok tt → (g : ℕ) → g < 3 → get_or (groups_carried s.identifier) g false ≡ false
    → (get_or s.units g 0 ≡ 0) × (get_or s.shifts g 0 ≡ 0)
absent_plain s e g h absent =
    let at : ℕ → Bool = λ n. stray_group (get_or (groups_carried s.identifier) n false) (get_or s.units n 0) (get_or s.shifts n 0) in
    let two = or_split (at 0 || at 1) (at 2) (accepted s e).plain in
    let one = or_split (at 0) (at 1) two.0 in
    let none : at g ≡ false = each (λ n. at n ≡ false) one.0 one.1 two.1 g h in
    plain (get_or s.units g 0) (get_or s.shifts g 0) (rw absent at none)
