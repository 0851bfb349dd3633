-- Laws of the sensor that a setup describes: its cases have the setup's numbers.
use Prim.Native.Nat.{ℕ, zero, suc, ◌≤◌, ◌<◌}
use native.Mathlib.Omega.{arith}
use mathlib.Core.Bool.{Bool, true, false, not, ◌||◌, cond}
use mathlib.Core.List.{List}
use mathlib.Core.Option.{none, some}
use mathlib.Core.Path.{◌≡◌, refl, sym, ap, ◌∙◌}
use lib.Dec.{eqb, ltb}
use lib.ListN.{get_or}
use borrow.Author.Tests.{eqb-true}
use Rattle.setup.specs.Layout.{layout_of, length_in, row_at, groups_of, groups_carried}
use Rattle.setup.specs.Setup.{hertz, unit_number, ruling_number, ruling_with, rate_listed, is_listed, any_above, stray}
use Rattle.setup.specs.Setup.{setup_rules, setup_number, ruling_on, length_of}
use Rattle.setup.specs.Sensor.{rate_of, unit_of, units_in, units_of, shifts_in, shifts_of, row_of, sensor_of, description_of}
use Rattle.setup.specs.Sensor.{Units, Shifts, unless, rate_by, units_by, shifts_by, terminated_by}
use Rattle.setup.specs.declared.Row.{Row}
use Rattle.setup.specs.Sensor.{described_sensor, described_number}
use Rattle.setup.specs.declared.Setup.{Setup}
use Rattle.std.specs.Prelude.{Option, None, Some, Result, Ok, Err}
use Rattle.std.specs.Option.{ok_or}
use Rattle.refusals.specs.Refusals.{Ruling, unless_refused, and_then}
use Rattle.refusals.specs.declared.Refusal.{Refusal}
use Rattle.refusals.specs.declared.Refusal.TheVariants.{RateUnknown, IdentifierUnknown, TerminationUnknown, UnitTooGreat, ShiftTooGreat, GroupNotCarried}
use Rattle.setup.specs.declared.Unit.TheVariants.{Instantaneous}
use Rattle.setup.specs.declared.Rate.{Rate}
use Rattle.setup.specs.declared.Rate.TheVariants.{ExternalTrigger, Hertz125, Hertz250, Hertz500, Hertz1000, Hertz2000}
use Rattle.setup.specs.declared.Sensor.{Sensor}
use Rattle.setup.proofs.Rows.{listed_groups}
use Rattle.setup.proofs.Rules.{number_accepted, ruling_number_lem}
use Rattle.setup.proofs.Refusals.{each, none_above, accepted, listed_length, absent_plain}

-- the rate and the unit of a number have that number
pub rate_number : (n : ℕ) → rate_listed n ≡ true → hertz (rate_of n) ≡ n
unfolding rate_of
rate_number n = by (eqb n 0) refl (eqb n 125) refl (eqb n 250) refl (eqb n 500) refl (eqb n 1000) refl (eqb n 2000) refl
  where
    by : (z : Bool) → eqb n 0 ≡ z → (a : Bool) → eqb n 125 ≡ a → (b : Bool) → eqb n 250 ≡ b → (c : Bool) → eqb n 500 ≡ c → (d : Bool)
        → eqb n 1000 ≡ d → (e : Bool) → eqb n 2000 ≡ e → (z || a || b || c || d || e) ≡ true
        → hertz (cond a Hertz125 (cond b Hertz250 (cond c Hertz500 (cond d Hertz1000 (cond e Hertz2000 ExternalTrigger))))) ≡ n
    by z hz true h b hb c hc d hd e he l = sym (eqb-true n 125 h)
    by z hz false ha true h c hc d hd e he l = sym (eqb-true n 250 h)
    by z hz false ha false hb true h d hd e he l = sym (eqb-true n 500 h)
    by z hz false ha false hb false hc true h e he l = sym (eqb-true n 1000 h)
    by z hz false ha false hb false hc false hd true h l = sym (eqb-true n 2000 h)
    by true h false ha false hb false hc false hd false he l = sym (eqb-true n 0 h)
    by false h false ha false hb false hc false hd false he l = let x : ◌≡◌ {A = ℕ} 0 1 = cc in absurd (omega arith)

pub unit_number_lem : (n : ℕ) → n ≤ 3 → unit_number (unit_of n) ≡ n
unfolding unit_of
unit_number_lem zero h = refl
unit_number_lem (suc zero) h = refl
unit_number_lem (suc (suc zero)) h = refl
unit_number_lem (suc (suc (suc zero))) h = refl
unit_number_lem (suc (suc (suc (suc n)))) h = absurd (omega arith)

-- ---- the sensor of an accepted setup

-- group g, counted from 0, in the order gyro, accelerometer, inclinometer
shift_at : (ns : List ℕ) (g : ℕ) → g < 3 → get_or (shifts_in (shifts_of ns)) g 0 ≡ get_or ns g 0
shift_at ns = each (λ g. get_or (shifts_in (shifts_of ns)) g 0 ≡ get_or ns g 0) refl refl refl

unit_at : (ns : List ℕ) (g : ℕ) → g < 3 → get_or (units_in (units_of ns)) g Instantaneous ≡ unit_of (get_or ns g 0)
unit_at ns = each (λ g. get_or (units_in (units_of ns)) g Instantaneous ≡ unit_of (get_or ns g 0)) refl refl refl

pub sensor_shift : (u : Setup) (g : ℕ) → g < 3 → get_or (shifts_in (sensor_of u).shifts) g 0 ≡ get_or u.shifts g 0
unfolding sensor_of
sensor_shift u = shift_at u.shifts

module _ (u : Setup) (ok : ruling_on u ≡ Ok tt) where
  pub sensor_row : row_at u.identifier ≡ Some (sensor_of u).row
  unfolding sensor_of
  sensor_row = let k = accepted u ok in k.listed ∙ ap (λ l. Some (row_of l)) (sym k.listed)

  pub sensor_groups : groups_carried u.identifier ≡ groups_of (sensor_of u).row
  sensor_groups = listed_groups u.identifier sensor_row

  pub sensor_unit : (g : ℕ) → g < 3 → unit_number (get_or (units_in (sensor_of u).units) g Instantaneous) ≡ get_or u.units g 0
  unfolding sensor_of
  sensor_unit g h = ap unit_number (unit_at u.units g h) ∙ unit_number_lem (get_or u.units g 0) (none_above 3 u.units (accepted u ok).units g h)

  pub sensor_shift_limit : (g : ℕ) → g < 3 → get_or (shifts_in (sensor_of u).shifts) g 0 ≤ 31
  sensor_shift_limit g h = rw (sensor_shift u g h) (none_above 31 u.shifts (accepted u ok).shifts g h)

  -- a group that isn't carried is instantaneous, with shift 0
  pub absent_group : (g : ℕ) → g < 3 → get_or (groups_of (sensor_of u).row) g false ≡ false
      → (get_or (units_in (sensor_of u).units) g Instantaneous ≡ Instantaneous) × (get_or (shifts_in (sensor_of u).shifts) g 0 ≡ 0)
  unfolding sensor_of unit_of
  absent_group g h e =
      let p = absent_plain u ok g h (ap (λ l. get_or l g false) sensor_groups ∙ e) in
      (unit_at u.units g h ∙ ap unit_of p.0, sensor_shift u g h ∙ p.1)

  pub sensor_rate : hertz (sensor_of u).rate ≡ u.rate
  unfolding sensor_of
  sensor_rate = rate_number u.rate (accepted u ok).rate

  pub sensor_termination : u.termination ≡ cond (sensor_of u).terminated 1 0
  unfolding sensor_of
  sensor_termination = by u.termination (accepted u ok).termination
    where
      by : (t : ℕ) → t ≤ 1 → t ≡ cond (eqb t 1) 1 0
      by zero h = refl
      by (suc zero) h = refl
      by (suc (suc t)) h = absurd (omega arith)

  pub sensor_length : length_of u ≡ length_in (layout_of (sensor_of u).row (sensor_of u).terminated)
  unfolding sensor_of
  sensor_length = listed_length u sensor_row

  -- the description of an accepted setup is its sensor
  pub described : description_of u ≡ Ok (sensor_of u)
  unfolding description_of
  described = rw ok

-- and only an accepted one is described
pub described_accepted : (u : Setup) {s : Sensor} → description_of u ≡ Ok s → (ruling_on u ≡ Ok tt) × (s ≡ sensor_of u)
unfolding description_of
described_accepted u {s} = by (ruling_on u)
  where
    by : (r : Ruling) → unless_refused r (sensor_of u) ≡ Ok s → (r ≡ Ok tt) × (s ≡ sensor_of u)
    by (Ok tt) e = (refl, cc)
    by (Err f) e = let z : ◌≡◌ {A = ℕ} 0 1 = cc in absurd (omega arith)

pub described_refused : (u : Setup) {e : Refusal} → description_of u ≡ Err e → ruling_on u ≡ Err e
unfolding description_of
described_refused u {e} = by (ruling_on u)
  where
    by : (r : Ruling) → unless_refused r (sensor_of u) ≡ Err e → r ≡ Err e
    by (Ok tt) q = let z : ◌≡◌ {A = ℕ} 0 1 = cc in absurd (omega arith)
    by (Err f) q = cc

-- ---- what a description says, by the setup's number

pub described_number_lem : (u : Setup) → described_number (description_of u) ≡ setup_number u
unfolding description_of
described_number_lem u = by (ruling_on u) ∙ ruling_number_lem u
  where
    by : (r : Ruling) → described_number (unless_refused r (sensor_of u)) ≡ ruling_number r
    by (Ok tt) = refl
    by (Err e) = refl

pub described_sensor_lem : (u : Setup) → setup_number u ≡ none → described_sensor (description_of u) ≡ some (sensor_of u)
described_sensor_lem u e = ap described_sensor (described u (number_accepted u e))

-- ---- the sensor or what refuses it, one value of the setup after the other

abbrev pub sensor_with : Setup → Row → Bool → Rate → Units → Shifts → Sensor
sensor_with u row terminated rate units shifts =
    record { identifier = u.identifier; row = row; terminated = terminated; rate = rate; units = units; shifts = shifts }

abbrev pub in_turn : Setup → Result Sensor Refusal
in_turn u =
    and_then (rate_by u.rate)
    (λ rate. and_then (ok_or (row_at u.identifier) IdentifierUnknown)
    (λ row. and_then (terminated_by u.termination)
    (λ terminated. and_then (units_by u.units)
    (λ units. and_then (shifts_by u.shifts)
    (λ shifts. unless (stray (groups_of row) u.units u.shifts) GroupNotCarried
    (sensor_with u row terminated rate units shifts))))))

pub described_in_turn : (u : Setup) → description_of u ≡ in_turn u
unfolding description_of ruling_on setup_rules sensor_of
described_in_turn u =
    by (not (rate_listed u.rate)) (row_at u.identifier) refl (ltb 1 u.termination) (any_above 3 u.units) (any_above 31 u.shifts)
    (stray (groups_carried u.identifier) u.units u.shifts) refl
  where
    by :
        (four : Bool) (o : Option Row) → row_at u.identifier ≡ o → (six seven eight nine : Bool)
        → stray (groups_carried u.identifier) u.units u.shifts ≡ nine
        → unless_refused
        (ruling_with
        (cond four (some RateUnknown)
        (cond (not (is_listed o)) (some IdentifierUnknown)
        (cond six (some TerminationUnknown)
        (cond seven (some UnitTooGreat)
        (cond eight (some ShiftTooGreat)
        (cond nine (some GroupNotCarried)
        none))))))) (sensor_with u (row_of o) (eqb u.termination 1) (rate_of u.rate) (units_of u.units) (shifts_of u.shifts))
        ≡ and_then (unless four RateUnknown (rate_of u.rate))
        (λ rate. and_then (ok_or o IdentifierUnknown)
        (λ row. and_then (unless six TerminationUnknown (eqb u.termination 1))
        (λ terminated. and_then (unless seven UnitTooGreat (units_of u.units))
        (λ units. and_then (unless eight ShiftTooGreat (shifts_of u.shifts))
        (λ shifts. unless (stray (groups_of row) u.units u.shifts) GroupNotCarried
        (sensor_with u row terminated rate units shifts))))))
    by true o h six seven eight nine n = refl
    by false None h six seven eight nine n = refl
    by false (Some r) h true seven eight nine n = refl
    by false (Some r) h false true eight nine n = refl
    by false (Some r) h false false true nine n = refl
    by false (Some r) h false false false nine n =
        let same : stray (groups_of r) u.units u.shifts ≡ nine = ap (λ gs. stray gs u.units u.shifts) (sym (listed_groups u.identifier h)) ∙ n in
        rw same (last nine)
      where
        last : (b : Bool) → unless_refused (ruling_with (cond b (some GroupNotCarried) none))
            (sensor_with u r (eqb u.termination 1) (rate_of u.rate) (units_of u.units) (shifts_of u.shifts))
            ≡ unless b GroupNotCarried
            (sensor_with u r (eqb u.termination 1) (rate_of u.rate) (units_of u.units) (shifts_of u.shifts))
        last true = refl
        last false = refl

-- the ruling is what the description says without its sensor
abbrev pub without_sensor : Result Sensor Refusal → Ruling
without_sensor (Ok s) = Ok tt
without_sensor (Err e) = Err e

pub ruled_as_described : (u : Setup) → ruling_on u ≡ without_sensor (description_of u)
unfolding description_of
ruled_as_described u = by (ruling_on u)
  where
    by : (r : Ruling) → r ≡ without_sensor (unless_refused r (sensor_of u))
    by (Ok tt) = refl
    by (Err e) = refl
