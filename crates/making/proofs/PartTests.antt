-- 15 of each part as the code tests it, and of all parts by the row of the sensor.
use Prim.Native.Nat.{ℕ}
use mathlib.Core.Bool.{Bool, true, false, not, ◌&&◌, ◌||◌}
use mathlib.Core.List.{List, [], ◌∷◌, map}
use mathlib.Core.Path.{◌≡◌, refl, ap}
use lib.IntN.{ℤ, pos}
use lib.ListN.{get_or}
use Rattle.integers.specs.Bytes.{signed, unsigned}
use Rattle.integers.specs.Ranges.{is_zero, fits}
use Rattle.setup.specs.Layout.{Part, gyro, accelerometer, inclinometer, gyro_temperatures, accelerometer_temperatures, inclinometer_temperatures}
use Rattle.setup.specs.Layout.{aux, parts_of, carries}
use Rattle.setup.specs.declared.Row.{Row}
use Rattle.setup.proofs.Rows.{every_row}
use Rattle.made_datagram.specs.Making.{given, part_outside, given_parts, outside_in}
use Rattle.making.specs.Writing.{axes_outside, groups_outside, temperatures_outside}
use Rattle.made_datagram.specs.declared.Values.{Values}

-- ---- a part

four_tests : (a b c d : Bool) → (a || b || c || d) ≡ (a || (b || (c || (d || false))))
four_tests true b c d = refl
four_tests false true c d = refl
four_tests false false true d = refl
four_tests false false false true = refl
four_tests false false false false = refl

two_tests : (a b : Bool) → (a || b) ≡ (a || (b || false))
two_tests true b = refl
two_tests false true = refl
two_tests false false = refl

module _ (w : ℕ) (row : List ℤ) (status : ℤ) {carried x y z s : Bool} where
  pub axes_fit :
      carried ≡ true → x ≡ fits signed w (get_or row 0 (pos 0)) → y ≡ fits signed w (get_or row 1 (pos 0)) → z ≡ fits signed w (get_or row 2 (pos 0))
      → s ≡ fits unsigned 1 status → (not x || not y || not z || not s) ≡ axes_outside carried w row status
  unfolding axes_outside
  axes_fit c a b d e = rw (c, ← a, ← b, ← d, ← e) (four_tests (not x) (not y) (not z) (not s))

  pub axes_zero :
      carried ≡ false → x ≡ is_zero (get_or row 0 (pos 0)) → y ≡ is_zero (get_or row 1 (pos 0)) → z ≡ is_zero (get_or row 2 (pos 0)) → s ≡ is_zero status
      → (not x || not y || not z || not s) ≡ axes_outside carried w row status
  unfolding axes_outside
  axes_zero c a b d e = rw (c, ← a, ← b, ← d, ← e) (four_tests (not x) (not y) (not z) (not s))

module _ (value status : ℤ) {carried x s : Bool} where
  pub aux_fit : carried ≡ true → x ≡ fits signed 3 value → s ≡ fits unsigned 1 status → (not x || not s) ≡ part_outside carried aux (value ∷ status ∷ [])
  unfolding part_outside
  aux_fit c a e = rw (c, ← a, ← e) (two_tests (not x) (not s))

  pub aux_zero : carried ≡ false → x ≡ is_zero value → s ≡ is_zero status → (not x || not s) ≡ part_outside carried aux (value ∷ status ∷ [])
  unfolding part_outside
  aux_zero c a e = rw (c, ← a, ← e) (two_tests (not x) (not s))

-- ---- which parts a row carries

abbrev carried_in : Row → List Bool
carried_in r = map (carries (parts_of r)) given_parts

abbrev carried_by : Row → List Bool
carried_by r =
    true ∷ r.acceleration ∷ r.inclination ∷ r.temperatures ∷ (r.temperatures && r.acceleration) ∷ (r.temperatures && r.inclination) ∷ r.aux ∷
    true ∷ true ∷ []

row_carries : (r : Row) → carried_in r ≡ carried_by r
unfolding parts_of
row_carries =
    every_row (λ (r : Row). carried_in r ≡ carried_by r)
    ((refl, refl, refl, refl), (refl, refl, refl, refl), (refl, refl, refl, refl), (refl, refl, refl, refl))

-- ---- all parts

nine_tests : (a b c d e f g h i : Bool) → ((a || b || c) || (d || e || f) || g || h || i)
    ≡ (a || (b || (c || (d || (e || (f || (g || ((h || false) || ((i || false) || false)))))))))
nine_tests true b c d e f g h i = refl
nine_tests false true c d e f g h i = refl
nine_tests false false true d e f g h i = refl
nine_tests false false false true e f g h i = refl
nine_tests false false false false true f g h i = refl
nine_tests false false false false false true g h i = refl
nine_tests false false false false false false true h i = refl
nine_tests false false false false false false false true i = refl
nine_tests false false false false false false false false true = refl
nine_tests false false false false false false false false false = refl

pub all_tests : (i : ℕ) (r : Row) (readings : List (List ℤ)) (v : Values)
    → (groups_outside r readings v.statuses || temperatures_outside r v || part_outside r.aux aux (v.aux ∷ v.aux_status ∷ [])
    || not (fits unsigned 1 v.counter) || not (fits unsigned 2 v.latency))
    ≡ outside_in (parts_of r) (given i readings v)
unfolding outside_in part_outside axes_outside groups_outside temperatures_outside given
all_tests i r readings v =
    let test : Part → Bool → Bool = λ p c. part_outside c p (given i readings v p) in
    let is : (k : ℕ) → get_or (carried_in r) k false ≡ get_or (carried_by r) k false = λ k. ap (λ (bs : List Bool). get_or bs k false) (row_carries r) in
    rw (is 0, is 1, is 2, is 3, is 4, is 5, is 6, is 7, is 8)
    (nine_tests (test gyro true) (test accelerometer r.acceleration) (test inclinometer r.inclination) (test gyro_temperatures r.temperatures)
    (test accelerometer_temperatures (r.temperatures && r.acceleration)) (test inclinometer_temperatures (r.temperatures && r.inclination))
    (test aux r.aux) (not (fits unsigned 1 v.counter)) (not (fits unsigned 2 v.latency)))
