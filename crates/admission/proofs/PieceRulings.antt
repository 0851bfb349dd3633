-- What the ruling on a piece and the admission tell: the number that refuses it, or that nothing does (01, What is turned down, 10 to 12).
-- Assumes nothing.
use Prim.Native.Nat.{ℕ, ◌+◌, ◌≤◌}
use mathlib.Core.Option.{Option, none, some}
use mathlib.Core.Path.{◌≡◌, refl, ap, ◌∙◌}
use mathlib.Core.Bool.{true}
use native.Mathlib.Omega.{arith}
use borrow.Author.Tests.{le-ltb, ltb-false, not-false}
use Rattle.setup.specs.Setup.{first_of, ruling_number, ruling_with, ruling_on}
use Rattle.setup.specs.Sensor.{sensor_of, description_of}
use Rattle.setup.specs.declared.Sensor.{Sensor}
use Rattle.setup.proofs.Rules.{first_number_lem, some_refused, none_refusal, first_within, none_applies}
use Rattle.search.specs.Search.{limits_of}
use Rattle.session.specs.declared.Session.{Session}
use Rattle.admission.specs.Admission.{is_sound, piece_rules, piece_refusal, piece_number, piece_ruling, admission_of, admission_sensor, admission_number}
use Rattle.std.specs.Prelude.{Result, Ok, Err}
use Rattle.refusals.specs.Refusals.{number_of, Ruling, unless_refused, and_then}
use Rattle.refusals.specs.declared.Refusal.{Refusal}
use Rattle.refusals.specs.declared.Refusal.TheVariants.{SessionUnsound}
use Rattle.admission.proofs.Soundness.{refused_unsound}

-- nothing refuses a piece of n bytes
pub record Admitted (s : Session) (n : ℕ) : Type 0 where
  pub sound : is_sound s ≡ true
  pub piece : n ≤ (limits_of s.setup).piece
  pub session : s.fed + n ≤ (limits_of s.setup).session

-- a setup that is refused makes its session unsound
abbrev pub described_sound : Result Sensor Refusal → Result Sensor Refusal
described_sound (Ok sensor) = Ok sensor
described_sound (Err e) = Err SessionUnsound

module _ (s : Session) (n : ℕ) where
  pub admitted : piece_ruling s n ≡ Ok tt → Admitted s n
  unfolding piece_ruling
  admitted e =
      let k = none_applies (piece_rules s n) e in
      let l = limits_of s.setup in
      record {
        sound = not-false (is_sound s) k.0;
        piece = ltb-false l.piece n k.1.0;
        session = ltb-false l.session (s.fed + n) k.1.1.0;
      }

  pub admits : Admitted s n → piece_ruling s n ≡ Ok tt
  unfolding piece_ruling
  admits a = rw (a.sound, le-ltb _ _ a.piece, le-ltb _ _ a.session)

  -- it is admitted with the sensor of the session's setup, or refused as the ruling says
  pub admission_sensor_lem : {sensor : Sensor} → admission_of s n ≡ Ok sensor → Admitted s n × (sensor ≡ sensor_of s.setup)
  unfolding admission_of
  admission_sensor_lem {sensor} = by (piece_ruling s n) refl
    where
      by : (r : Ruling) → piece_ruling s n ≡ r → unless_refused r (sensor_of s.setup) ≡ Ok sensor → Admitted s n × (sensor ≡ sensor_of s.setup)
      by (Ok tt) h q = (admitted h, cc)
      by (Err e) h q = let z : ◌≡◌ {A = ℕ} 0 1 = cc in absurd (omega arith)

  pub admission_number_lem : {e : Refusal} → admission_of s n ≡ Err e → piece_ruling s n ≡ Err e
  unfolding admission_of
  admission_number_lem {e} = by (piece_ruling s n)
    where
      by : (r : Ruling) → unless_refused r (sensor_of s.setup) ≡ Err e → r ≡ Err e
      by (Ok tt) q = let z : ◌≡◌ {A = ℕ} 0 1 = cc in absurd (omega arith)
      by (Err f) q = cc

  -- an unsound session comes first, as one of a refused setup is; then the piece
  pub admitted_in_turn : admission_of s n ≡ and_then (described_sound (description_of s.setup)) (λ (w : Sensor). unless_refused (piece_ruling s n) (sensor_of s.setup))
  unfolding admission_of piece_ruling description_of
  admitted_in_turn = by (ruling_on s.setup) refl
    where
      by :
          (j : Ruling) → ruling_on s.setup ≡ j
          → unless_refused (piece_ruling s n) (sensor_of s.setup)
          ≡ and_then (described_sound (unless_refused j (sensor_of s.setup))) (λ (w : Sensor). unless_refused (piece_ruling s n) (sensor_of s.setup))
      by (Ok tt) q = refl
      by (Err e) q = rw (refused_unsound s q)

  -- the number that refuses it
  pub piece_numbers : {e : Refusal} → piece_ruling s n ≡ Err e → (10 ≤ number_of e) × (number_of e ≤ 12)
  unfolding piece_ruling
  piece_numbers e = first_within 10 12 (piece_rules s n) (omega arith) e

  -- what the admission says, by the piece's number
  pub number_told : ruling_number (piece_ruling s n) ≡ piece_number s n
  unfolding piece_ruling piece_number
  number_told = first_number_lem (piece_rules s n)

  pub admitted_number : admission_number (admission_of s n) ≡ piece_number s n
  unfolding admission_of
  admitted_number = by (piece_ruling s n) ∙ number_told
    where
      by : (r : Ruling) → admission_number (unless_refused r (sensor_of s.setup)) ≡ ruling_number r
      by (Ok tt) = refl
      by (Err e) = refl

  pub admitted_sensor : piece_number s n ≡ none → admission_sensor (admission_of s n) ≡ some (sensor_of s.setup)
  unfolding admission_of piece_ruling piece_number
  admitted_sensor q =
      ap (λ (o : Option Refusal). admission_sensor (unless_refused (ruling_with o) (sensor_of s.setup))) (none_refusal (piece_rules s n) q)

  pub refusal_refused : {e : Refusal} → piece_refusal s n ≡ some e → piece_ruling s n ≡ Err e
  unfolding piece_ruling piece_refusal
  refusal_refused q = ap ruling_with q

  pub number_refused : {m : ℕ} → piece_number s n ≡ some m → (e : Refusal) × (piece_ruling s n ≡ Err e) × (number_of e ≡ m)
  unfolding piece_ruling piece_number
  number_refused q = some_refused (first_of (piece_rules s n)) (first_number_lem (piece_rules s n) ∙ q)

  pub number_admits : piece_number s n ≡ none → piece_ruling s n ≡ Ok tt
  unfolding piece_ruling piece_number
  number_admits q = ap ruling_with (none_refusal (piece_rules s n) q)
