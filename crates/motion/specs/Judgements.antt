-- 02, 2.3: the judgement of an axis by its group's status byte, and the nine that come back with a datagram.
use Rattle.std.specs.Prelude.{◌≡◌, ℕ, Bool, true, false, cond, ◌&&◌, List, [], ◌∷◌, slice_index}
use Rattle.groups.specs.declared.PerAxis.{PerAxis}
use Rattle.groups.specs.declared.PerGroup.{PerGroup}
use Rattle.motion.specs.Status.{is_set, named, fit}
use Rattle.motion.specs.declared.Judgement.{Judgement}
use Rattle.motion.specs.declared.Judgement.TheVariants.{Fit, Integrity, StartUp, Error, Overload}

-- ---- one axis (X 0, Y 1, Z 2)

-- which judgements apply to an axis: fit as 01 and 2.2 have it; integrity by bit 7 and start_up by bit 6, to every axis; error by bit 3 and overload by
-- bit 4, to the axes that these bits name
abbrev pub applies : ℕ → ℕ → Judgement → Bool
applies status axis Fit = fit status axis
applies status axis Integrity = is_set status 7
applies status axis StartUp = is_set status 6
applies status axis Error = is_set status 3 && named status axis
applies status axis Overload = is_set status 4 && named status axis

-- the order after fit
abbrev pub order : List Judgement
order = Integrity ∷ StartUp ∷ Error ∷ Overload ∷ []

-- the first of a list that applies, fit if none does
abbrev pub first_applying : (Judgement → Bool) → List Judgement → Judgement
first_applying holds [] = Fit
first_applying holds (j ∷ js) = cond (holds j) j (first_applying holds js)

-- if several apply, the first in this order after fit is named
unfoldable pub judgement_of : ℕ → ℕ → Judgement
judgement_of status axis = first_applying (applies status axis) order

-- whether a judgement is fit: exactly where the axis is fit, by which totals move (law judged-fit)
abbrev pub is_fit : Judgement → Bool
is_fit Fit = true
is_fit Integrity = false
is_fit StartUp = false
is_fit Error = false
is_fit Overload = false

-- ---- the nine axes

abbrev pub GroupJudgements : Type 0
GroupJudgements = PerAxis Judgement

abbrev pub Judgements : Type 0
Judgements = PerGroup GroupJudgements

-- X, Y and Z of a group by its status byte
abbrev pub group_judgements : ℕ → GroupJudgements
group_judgements status = record { x = judgement_of status 0; y = judgement_of status 1; z = judgement_of status 2 }

-- each group by its own status byte: gyro 0, accelerometer 1, inclinometer 2
unfoldable pub judgements_of : List ℕ → Judgements
judgements_of statuses =
    record {
      gyro = group_judgements (slice_index statuses 0);
      accelerometer = group_judgements (slice_index statuses 1);
      inclinometer = group_judgements (slice_index statuses 2);
    }

-- ---- what the promises say of these

-- a group's judgements are those of its axes by a status byte
pub record GroupJudgedBy (status : ℕ) (g : GroupJudgements) : Type 0 where
  pub x : g.x ≡ judgement_of status 0
  pub y : g.y ≡ judgement_of status 1
  pub z : g.z ≡ judgement_of status 2

-- and all judgements those of the groups, each by its own status byte
pub record JudgedBy (statuses : List ℕ) (j : Judgements) : Type 0 where
  pub gyro : GroupJudgedBy (slice_index statuses 0) j.gyro
  pub accelerometer : GroupJudgedBy (slice_index statuses 1) j.accelerometer
  pub inclinometer : GroupJudgedBy (slice_index statuses 2) j.inclinometer

-- cases in numbers, which tell every bit, every axis and every group from every other
pub record JudgedCases : Type 0 where
  pub integrity : group_judgements 0x80 ≡ record { x = Integrity; y = Integrity; z = Integrity }
  pub start_up : group_judgements 0x40 ≡ record { x = StartUp; y = StartUp; z = StartUp }
  pub outside_conditions : group_judgements 0x20 ≡ record { x = Fit; y = Fit; z = Fit }
  pub error_and_overload : group_judgements 0x18 ≡ record { x = Error; y = Error; z = Error }
  pub overload : group_judgements 0x10 ≡ record { x = Overload; y = Overload; z = Overload }
  pub overload_of_x : group_judgements 0x11 ≡ record { x = Overload; y = Fit; z = Fit }
  pub error_of_y : group_judgements 0x0A ≡ record { x = Fit; y = Error; z = Fit }
  pub error_of_z : group_judgements 0x0C ≡ record { x = Fit; y = Fit; z = Error }
  pub each_group :
      judgements_of (0x80 ∷ 0x40 ∷ 0x18 ∷ [])
      ≡ record {
        gyro = record { x = Integrity; y = Integrity; z = Integrity };
        accelerometer = record { x = StartUp; y = StartUp; z = StartUp };
        inclinometer = record { x = Error; y = Error; z = Error };
      }
