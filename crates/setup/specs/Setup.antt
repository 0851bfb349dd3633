-- 01, The setup line: a setup's values; and 'What is turned down': 4 to 9 of a setup given as values.
use Rattle.std.specs.Prelude.{ℕ, Bool, true, false, not, ◌&&◌, ◌||◌, cond, List, [], ◌∷◌, ◌++◌, eqb, ltb, length, get_or, drop, replicate, Result, Ok, Err}
use Rattle.std.specs.Prelude as rust
use Rattle.std.proofs.Math.Option.{Option, none, some}
use Rattle.refusals.specs.Refusals.{number_of, number_in, Ruling}
use Rattle.refusals.specs.declared.Refusal.{Refusal}
use Rattle.refusals.specs.declared.Refusal.TheVariants.{RateUnknown, IdentifierUnknown, TerminationUnknown, UnitTooGreat, ShiftTooGreat, GroupNotCarried}
use Rattle.setup.specs.Layout.{layout_of, length_in, row_at, groups_carried}
use Rattle.setup.specs.declared.Row.{Row}
use Rattle.setup.specs.declared.Unit.{Unit}
use Rattle.setup.specs.declared.Unit.TheVariants.{Instantaneous, Incremental, Average, Integrated}
use Rattle.setup.specs.declared.Rate.{Rate}
use Rattle.setup.specs.declared.Rate.TheVariants.{ExternalTrigger, Hertz125, Hertz250, Hertz500, Hertz1000, Hertz2000}
use Rattle.setup.specs.declared.Setup.{Setup}

-- rate 0 is external trigger; the others are so many datagrams a second
abbrev pub hertz : Rate → ℕ
hertz ExternalTrigger = 0
hertz Hertz125 = 125
hertz Hertz250 = 250
hertz Hertz500 = 500
hertz Hertz1000 = 1000
hertz Hertz2000 = 2000

-- units are 0 instantaneous, 1 incremental, 2 average, 3 integrated
abbrev pub unit_number : Unit → ℕ
unit_number Instantaneous = 0
unit_number Incremental = 1
unit_number Average = 2
unit_number Integrated = 3

-- a reason to turn something down, whether it applies, and what refuses then
pub record Rule : Type 0 where
  pub applies : Bool
  pub refusal : Refusal

abbrev pub rule : Refusal → Bool → Rule
rule e b = record { applies = b; refusal = e }

-- what refuses by rules in checking order: the first that applies, none if none does
abbrev pub first_refusal : List Rule → Option Refusal
first_refusal [] = none
first_refusal (r ∷ rs) = cond r.applies (some r.refusal) (first_refusal rs)

-- its number
abbrev pub first_number : List Rule → Option ℕ
first_number rs = number_in (first_refusal rs)

-- what each case of a ruling says: no number, or that of what refuses
abbrev pub ruling_number : Ruling → Option ℕ
ruling_number (Ok accepted) = none
ruling_number (Err e) = some (number_of e)

-- the ruling with a refusal or none
abbrev pub ruling_with : Option Refusal → Ruling
ruling_with none = Ok tt
ruling_with (some e) = Err e

-- the ruling by rules in checking order
abbrev pub first_of : List Rule → Ruling
first_of rs = ruling_with (first_refusal rs)

-- a lent buffer at exit: what is written from the front and every later byte as it was; or, refused, all as it was
abbrev pub buffer_by : Ruling → List ℕ → List ℕ → List ℕ
buffer_by (Ok accepted) text b = text ++ drop (length text) b
buffer_by (Err e) text b = b

-- 4: the rate is one of the six
abbrev pub rate_listed : ℕ → Bool
rate_listed n =
    eqb n (hertz ExternalTrigger) || eqb n (hertz Hertz125) || eqb n (hertz Hertz250) || eqb n (hertz Hertz500) || eqb n (hertz Hertz1000) ||
    eqb n (hertz Hertz2000)

-- 5: the identifier is in the table
abbrev pub is_listed : rust.Option Row → Bool
is_listed (rust.Some r) = true
is_listed rust.None = false

-- 7, 8: one of the three groups' numbers is above the limit
abbrev pub any_above : ℕ → List ℕ → Bool
any_above limit l = ltb limit (get_or l 0 0) || ltb limit (get_or l 1 0) || ltb limit (get_or l 2 0)

-- 9: a group that isn't carried has a unit or a shift other than 0
abbrev pub stray_group : Bool → ℕ → ℕ → Bool
stray_group carried unit shift = not carried && (not (eqb unit 0) || not (eqb shift 0))

abbrev pub stray : List Bool → List ℕ → List ℕ → Bool
stray carried units shifts =
    stray_group (get_or carried 0 false) (get_or units 0 0) (get_or shifts 0 0) ||
    stray_group (get_or carried 1 false) (get_or units 1 0) (get_or shifts 1 0) ||
    stray_group (get_or carried 2 false) (get_or units 2 0) (get_or shifts 2 0)

-- the rules for a setup given as values
unfoldable pub setup_rules : Setup → List Rule
setup_rules s =
    rule RateUnknown (not (rate_listed s.rate)) ∷
    rule IdentifierUnknown (not (is_listed (row_at s.identifier))) ∷
    rule TerminationUnknown (ltb 1 s.termination) ∷
    rule UnitTooGreat (any_above 3 s.units) ∷
    rule ShiftTooGreat (any_above 31 s.shifts) ∷
    rule GroupNotCarried (stray (groups_carried s.identifier) s.units s.shifts) ∷
    []

-- what refuses a setup given as values, none for an accepted one, and its number
unfoldable pub setup_refusal : Setup → Option Refusal
setup_refusal s = first_refusal (setup_rules s)

unfoldable pub setup_number : Setup → Option ℕ
setup_number s = first_number (setup_rules s)

unfoldable pub ruling_on : Setup → Ruling
ruling_on s = first_of (setup_rules s)

-- a setup of zeros
abbrev pub zero_setup : Setup
zero_setup = record { rate = 0; identifier = 0; termination = 0; units = replicate 3 0; shifts = replicate 3 0 }

-- termination 1: the ending follows the check
abbrev pub terminated : Setup → Bool
terminated s = eqb s.termination 1

-- the length L of a datagram of a setup, 0 where the identifier isn't in the table
abbrev pub length_at : rust.Option Row → Bool → ℕ
length_at (rust.Some r) ending = length_in (layout_of r ending)
length_at rust.None ending = 0

unfoldable pub length_of : Setup → ℕ
length_of s = length_at (row_at s.identifier) (terminated s)
