-- What opening gives: a fresh session, or a refusal by 4 to 9 with a session of zeros (01, The scan; What is turned down). Assumes nothing.
use mathlib.Core.Path.{◌≡◌, refl}
use mathlib.Core.Bool.{true, false}
use Prim.Native.Nat.{ℕ, ◌≤◌}
use native.Mathlib.Omega.{arith}
use Rattle.setup.specs.Setup.{ruling_on, zero_setup}
use Rattle.setup.specs.declared.Setup.{Setup}
use Rattle.setup.proofs.Refusals.{judge_numbers}
use Rattle.session.specs.Session.{fresh_of, is_accepted, opened_by, opening}
use Rattle.std.specs.Prelude.{Ok, Err}
use Rattle.refusals.specs.Refusals.{number_of, Ruling}
use Rattle.refusals.specs.declared.Refusal.{Refusal}

-- ---- the session that opening gives, by the ruling

pub accepted_by : (j : Ruling) (u : Setup) → is_accepted j ≡ true → opened_by j u ≡ fresh_of u
accepted_by (Ok tt) u e = refl
accepted_by (Err n) u e = let z : ◌≡◌ {A = ℕ} 0 1 = cc in absurd (omega arith)

pub refused_by : (j : Ruling) (u : Setup) → is_accepted j ≡ false → opened_by j u ≡ fresh_of zero_setup
refused_by (Ok tt) u e = let z : ◌≡◌ {A = ℕ} 0 1 = cc in absurd (omega arith)
refused_by (Err n) u e = refl

pub opening_ruling : (u : Setup) → (opening u).answer ≡ ruling_on u
unfolding opening
opening_ruling u = refl

-- ---- an accepted setup gives a fresh session of it

pub opened : (u : Setup) → ruling_on u ≡ Ok tt → opening u ≡ record { answer = (Ok tt); session = fresh_of u }
unfolding opening
opened u e = rw e

-- ---- a refused one gives its number, 4 to 9, and a session of zeros

pub refused_opening : (u : Setup) {e : Refusal} → ruling_on u ≡ Err e → opening u ≡ record { answer = Err e; session = fresh_of zero_setup }
unfolding opening
refused_opening u e = rw e

pub opening_numbers : (u : Setup) {e : Refusal} → (opening u).answer ≡ Err e → (4 ≤ number_of e) × (number_of e ≤ 9)
unfolding opening
opening_numbers u e = judge_numbers u e
