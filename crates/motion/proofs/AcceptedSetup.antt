-- The sensor that an accepted setup describes has the setup's numbers, so kept groups by the one are those by the other. Assumes nothing.
use Rattle.std.proofs.Common.{◌≡◌, ℕ, ◌<◌, Bool, true, false, ◌&&◌, eqb, List, get_or, sym, refl, ap, ◌∙◌, arith, eq-eqb, ne_eqb}
use Rattle.integers.proofs.Booleans.{and_true}
use Rattle.setup.specs.Layout.{groups_of, groups_carried}
use Rattle.setup.specs.Setup.{ruling_on}
use Rattle.setup.specs.Sensor.{sensor_of}
use Rattle.setup.specs.declared.Setup.{Setup}
use Rattle.setup.specs.declared.Sensor.{Sensor}
use Rattle.setup.proofs.Refusals.{absent_plain}
use Rattle.setup.proofs.Sensors.{sensor_groups, sensor_unit}
use Rattle.motion.specs.Totals.{keeps, groups_kept, kept_in, kept_by}
use Rattle.std.specs.Prelude.{Ok}

module _ (u : Setup) (a : ruling_on u ≡ Ok tt) where
  abbrev s : Sensor
  s = sensor_of u

  -- the groups that keep totals
  kept_in_lem : (group : ℕ) → group < 3 → kept_in s.row s.units group ≡ keeps u group
  kept_in_lem group h =
      ap (λ (n : ℕ). get_or (groups_of s.row) group false && eqb n 3) (sensor_unit u a group h)
      ∙ ap (λ (l : List Bool). get_or l group false && eqb (get_or u.units group 0) 3) (sym (sensor_groups u a))

  pub accepted_kept : kept_by s.row s.units ≡ groups_kept u
  unfolding kept_by groups_kept
  accepted_kept = rw (kept_in_lem 0 (omega arith), kept_in_lem 1 (omega arith), kept_in_lem 2 (omega arith))

  -- a group set to integrated is carried, and keeps totals; another keeps none
  pub integrated_kept : (group : ℕ) → group < 3 → get_or u.units group 0 ≡ 3 → keeps u group ≡ true
  integrated_kept group h e = by (get_or (groups_carried u.identifier) group false) refl
    where
      by : (b : Bool) → get_or (groups_carried u.identifier) group false ≡ b → keeps u group ≡ true
      by true q = and_true q (eq-eqb (get_or u.units group 0) 3 e)
      by false q = absurd (let z = (absent_plain u a group h q).0 in omega arith)

  pub other_not_kept : (group : ℕ) → (get_or u.units group 0 ≡ 3 → ⊥) → keeps u group ≡ false
  other_not_kept group n = by (get_or (groups_carried u.identifier) group false)
    where
      by : (b : Bool) → (b && eqb (get_or u.units group 0) 3) ≡ false
      by true = ne_eqb (get_or u.units group 0) 3 n
      by false = refl
