-- 15 lets pass values of which no clause fails, and no others.
use Prim.Native.Nat.{ℕ, zero, suc, ◌<◌}
use native.Mathlib.Omega.{arith}
use mathlib.Core.Bool.{Bool, true, false, not, cond}
use mathlib.Core.List.{List, [], ◌∷◌}
use mathlib.Core.Path.{◌≡◌, refl, sym, ap, ◌∙◌}
use lib.Dec.{eqb}
use lib.IntN.{ℤ, pos, negsuc}
use lib.ListN.{length, get_or}
use lib.Signed.{le_z}
use borrow.Author.Tests.{not-false}
use Rattle.integers.specs.Bytes.{Sign, signed, unsigned}
use Rattle.integers.specs.Ranges.{is_zero, least, greatest, fits}
use Rattle.integers.proofs.Booleans.{or_split, and_split, and_true}
use Rattle.integers.proofs.Parts.{le_z_true, le_le_z, parts_le, le_parts}
use Rattle.integers.proofs.Ranges.{is_zero_true}
use Rattle.setup.specs.Layout.{Part, identifier, gyro, accelerometer, inclinometer, gyro_temperatures, accelerometer_temperatures, inclinometer_temperatures}
use Rattle.setup.specs.Layout.{aux, counter, latency, widths, place, parts_at, carries}
use Rattle.setup.specs.declared.Setup.{Setup}
use Rattle.setup.proofs.Refusals.{each}
use Rattle.wire.specs.Fields.{groups, temperature_sets}
use Rattle.made_datagram.specs.Making.{axes_and_status, given, signs, any_outside, any_not_zero, part_outside, outside}
use Rattle.made_datagram.specs.PassedValues.{From, Passes, temperatures_of, PassesFifteen}
use Rattle.made_datagram.specs.declared.Values.{Values}
use Rattle.made_datagram.proofs.RoundTrips.{each_inside, inside_each}

-- ---- one value

fits_from : (s : Sign) (w : ℕ) (z : ℤ) → fits s w z ≡ true → From (least s w) (greatest s w) z
unfolding fits
fits_from s w z e =
    let p = and_split (le_z (least s w) z) (le_z z (greatest s w)) e in
    (parts_le (least s w) z (le_z_true (least s w) z p.0), parts_le z (greatest s w) (le_z_true z (greatest s w) p.1))

from_fits : (s : Sign) (w : ℕ) (z : ℤ) → From (least s w) (greatest s w) z → fits s w z ≡ true
unfolding fits
from_fits s w z h = and_true (le_le_z (least s w) z (le_parts h.0)) (le_le_z z (greatest s w) (le_parts h.1))

-- the value k of a part
outside_at : (ss : List Sign) (ws : List ℕ) (zs : List ℤ) → length ss ≡ length zs → length ws ≡ length zs → any_outside ss ws zs ≡ false
    → (k : ℕ) → k < length zs → fits (get_or ss k unsigned) (get_or ws k 0) (get_or zs k (pos 0)) ≡ true
outside_at ss ws [] l m e k h = absurd (omega arith)
outside_at [] ws (z ∷ zs) l m e k h = absurd (omega arith)
outside_at (s ∷ ss) [] (z ∷ zs) l m e k h = absurd (omega arith)
outside_at (s ∷ ss) (w ∷ ws) (z ∷ zs) l m e zero h = not-false (fits s w z) (or_split (not (fits s w z)) (any_outside ss ws zs) e).0
outside_at (s ∷ ss) (w ∷ ws) (z ∷ zs) l m e (suc k) h =
    outside_at ss ws zs (omega arith) (omega arith) (or_split (not (fits s w z)) (any_outside ss ws zs) e).1 k (omega arith)

not_zero_at : (zs : List ℤ) → any_not_zero zs ≡ false → (k : ℕ) → k < length zs → get_or zs k (pos 0) ≡ pos 0
not_zero_at [] e k h = absurd (omega arith)
not_zero_at (z ∷ zs) e zero h = is_zero_true z (not-false (is_zero z) (or_split (not (is_zero z)) (any_not_zero zs) e).0)
not_zero_at (z ∷ zs) e (suc k) h = not_zero_at zs (or_split (not (is_zero z)) (any_not_zero zs) e).1 k (omega arith)

module _ (u : Setup) (p : Part) (zs : List ℤ) (l : length (signs p) ≡ length zs) (m : length (widths p) ≡ length zs) where
  value_passes : part_outside (carries (parts_at u.identifier) p) p zs ≡ false → (k : ℕ) → k < length zs
      → let s = get_or (signs p) k unsigned in let w = get_or (widths p) k 0 in Passes u p (least s w) (greatest s w) (get_or zs k (pos 0))
  unfolding part_outside
  value_passes e k h =
      record {
        carried = λ c. fits_from (get_or (signs p) k unsigned) (get_or (widths p) k 0) (get_or zs k (pos 0)) (outside_at (signs p) (widths p) zs l m (rw c at e) k h);
        absent = λ c. not_zero_at zs (rw c at e) k h;
      }

-- and back, by all values of a part
abbrev AllPass : Setup → Part → List Sign → List ℕ → List ℤ → Type 0
AllPass u p [] ws zs = Unit {0}
AllPass u p (s ∷ ss) [] zs = Unit {0}
AllPass u p (s ∷ ss) (w ∷ ws) [] = Unit {0}
AllPass u p (s ∷ ss) (w ∷ ws) (z ∷ zs) = Passes u p (least s w) (greatest s w) z × AllPass u p ss ws zs

module _ (u : Setup) (p : Part) where
  all_fit : (ss : List Sign) (ws : List ℕ) (zs : List ℤ) → AllPass u p ss ws zs → carries (parts_at u.identifier) p ≡ true → any_outside ss ws zs ≡ false
  all_fit [] ws zs h c = refl
  all_fit (s ∷ ss) [] zs h c = refl
  all_fit (s ∷ ss) (w ∷ ws) [] h c = refl
  all_fit (s ∷ ss) (w ∷ ws) (z ∷ zs) h c = rw (from_fits s w z (h.0.carried c)) (all_fit ss ws zs h.1 c)

  all_zero_lem : (ss : List Sign) (ws : List ℕ) (zs : List ℤ) → length ss ≡ length zs → length ws ≡ length zs → AllPass u p ss ws zs
      → carries (parts_at u.identifier) p ≡ false → any_not_zero zs ≡ false
  all_zero_lem ss ws [] l m h c = refl
  all_zero_lem [] ws (z ∷ zs) l m h c = absurd (omega arith)
  all_zero_lem (s ∷ ss) [] (z ∷ zs) l m h c = absurd (omega arith)
  all_zero_lem (s ∷ ss) (w ∷ ws) (z ∷ zs) l m h c = rw (h.0.absent c) (all_zero_lem ss ws zs (omega arith) (omega arith) h.1 c)

  part_inside : (zs : List ℤ) → length (signs p) ≡ length zs → length (widths p) ≡ length zs → AllPass u p (signs p) (widths p) zs
      → part_outside (carries (parts_at u.identifier) p) p zs ≡ false
  unfolding part_outside
  part_inside zs l m h = by (carries (parts_at u.identifier) p) refl
    where
      by : (b : Bool) → carries (parts_at u.identifier) p ≡ b → cond b (any_outside (signs p) (widths p) zs) (any_not_zero zs) ≡ false
      by true c = all_fit (signs p) (widths p) zs h c
      by false c = all_zero_lem (signs p) (widths p) zs l m h c

-- ---- all values

module _ (u : Setup) (readings : List (List ℤ)) (v : Values) where
  abbrev values : Part → List ℤ
  values = given u.identifier readings v

  module _ (e : outside u readings v ≡ false) where
    inside : (p : Part) → eqb (place p) 0 ≡ false → part_outside (carries (parts_at u.identifier) p) p (values p) ≡ false
    unfolding outside
    inside = each_inside (parts_at u.identifier) values e

    -- X, Y and Z of a part of w bytes each
    axes_pass : (p : Part) (row : List ℤ) (status : ℤ) (w : ℕ) → eqb (place p) 0 ≡ false → values p ≡ axes_and_status row status
        → signs p ≡ signed ∷ signed ∷ signed ∷ unsigned ∷ [] → widths p ≡ w ∷ w ∷ w ∷ 1 ∷ []
        → ((a : ℕ) → a < 3 → Passes u p (least signed w) (greatest signed w) (get_or row a (pos 0))) × Passes u p (pos 0) (pos 255) status
    axes_pass p row status w n f s m =
        let l : length (signs p) ≡ 4 = ap length s in
        let k : length (widths p) ≡ 4 = ap length m in
        let o : part_outside (carries (parts_at u.identifier) p) p (axes_and_status row status) ≡ false =
        ap (part_outside (carries (parts_at u.identifier) p) p) (sym f) ∙ inside p n in
        let at = value_passes u p (axes_and_status row status) l k o in (
          each (λ (a : ℕ). Passes u p (least signed w) (greatest signed w) (get_or row a (pos 0))) (rw (s, m) at (at 0 (omega arith)))
              (rw (s, m) at (at 1 (omega arith)))
              (rw (s, m) at (at 2 (omega arith))),
          rw (s, m) at (at 3 (omega arith)),
        )

    group_passes : (g : ℕ) → g < 3
        → ((a : ℕ) → a < 3 → Passes u (get_or groups g gyro) (negsuc 8388607) (pos 8388607) (get_or (get_or readings g []) a (pos 0)))
        × Passes u (get_or groups g gyro) (pos 0) (pos 255) (get_or v.statuses g (pos 0))
    unfolding given
    group_passes =
        each
        (λ (g : ℕ). ((a : ℕ) → a < 3 → Passes u (get_or groups g gyro) (negsuc 8388607) (pos 8388607) (get_or (get_or readings g []) a (pos 0)))
        × Passes u (get_or groups g gyro) (pos 0) (pos 255) (get_or v.statuses g (pos 0)))
        (axes_pass gyro (get_or readings 0 []) (get_or v.statuses 0 (pos 0)) 3 refl refl refl refl)
        (axes_pass accelerometer (get_or readings 1 []) (get_or v.statuses 1 (pos 0)) 3 refl refl refl refl)
        (axes_pass inclinometer (get_or readings 2 []) (get_or v.statuses 2 (pos 0)) 3 refl refl refl refl)

    set_passes : (g : ℕ) → g < 3
        → ((a : ℕ) → a < 3 → Passes u (get_or temperature_sets g gyro_temperatures) (negsuc 32767) (pos 32767) (get_or (temperatures_of v g) a (pos 0)))
        × Passes u (get_or temperature_sets g gyro_temperatures) (pos 0) (pos 255) (get_or v.temperature_statuses g (pos 0))
    unfolding given
    set_passes =
        each
        (λ (g : ℕ). ((a : ℕ) → a < 3 → Passes u (get_or temperature_sets g gyro_temperatures) (negsuc 32767) (pos 32767) (get_or (temperatures_of v g) a (pos 0)))
        × Passes u (get_or temperature_sets g gyro_temperatures) (pos 0) (pos 255) (get_or v.temperature_statuses g (pos 0)))
        (axes_pass gyro_temperatures v.gyro_temperatures (get_or v.temperature_statuses 0 (pos 0)) 2 refl refl refl refl)
        (axes_pass accelerometer_temperatures v.accelerometer_temperatures (get_or v.temperature_statuses 1 (pos 0)) 2 refl refl refl refl)
        (axes_pass inclinometer_temperatures v.inclinometer_temperatures (get_or v.temperature_statuses 2 (pos 0)) 2 refl refl refl refl)

    pub inside_passes : PassesFifteen u readings v
    unfolding given
    inside_passes =
        let voltage = value_passes u aux (v.aux ∷ v.aux_status ∷ []) refl refl (inside aux refl) in
        record {
          reading = λ g a h k. (group_passes g h).0 a k;
          status = λ g h. (group_passes g h).1;
          temperature = λ g a h k. (set_passes g h).0 a k;
          temperature_status = λ g h. (set_passes g h).1;
          aux_value = voltage 0 (omega arith);
          aux_status_lem = voltage 1 (omega arith);
          counter_value = value_passes u counter (v.counter ∷ []) refl refl (inside counter refl) 0 (omega arith);
          latency_value = value_passes u latency (v.latency ∷ []) refl refl (inside latency refl) 0 (omega arith);
        }

  module _ (h : PassesFifteen u readings v) where
    group_all : (g : ℕ) → g < 3
        → AllPass u (get_or groups g gyro) (signed ∷ signed ∷ signed ∷ unsigned ∷ []) (3 ∷ 3 ∷ 3 ∷ 1 ∷ []) (axes_and_status (get_or readings g []) (get_or v.statuses g (pos 0)))
    group_all g k = (h.reading g 0 k (omega arith), (h.reading g 1 k (omega arith), (h.reading g 2 k (omega arith), (h.status g k, tt))))

    set_all : (g : ℕ) → g < 3
        → AllPass u (get_or temperature_sets g gyro_temperatures) (signed ∷ signed ∷ signed ∷ unsigned ∷ []) (2 ∷ 2 ∷ 2 ∷ 1 ∷ [])
        (axes_and_status (temperatures_of v g) (get_or v.temperature_statuses g (pos 0)))
    set_all g k = (h.temperature g 0 k (omega arith), (h.temperature g 1 k (omega arith), (h.temperature g 2 k (omega arith), (h.temperature_status g k, tt))))

    each_part : (p : Part) → eqb (place p) 0 ≡ false → part_outside (carries (parts_at u.identifier) p) p (values p) ≡ false
    unfolding given
    each_part identifier n = let z : ◌≡◌ {A = ℕ} 0 1 = cc in absurd (omega arith)
    each_part gyro n = part_inside u gyro (values gyro) refl refl (group_all 0 (omega arith))
    each_part accelerometer n = part_inside u accelerometer (values accelerometer) refl refl (group_all 1 (omega arith))
    each_part inclinometer n = part_inside u inclinometer (values inclinometer) refl refl (group_all 2 (omega arith))
    each_part gyro_temperatures n = part_inside u gyro_temperatures (values gyro_temperatures) refl refl (set_all 0 (omega arith))
    each_part accelerometer_temperatures n = part_inside u accelerometer_temperatures (values accelerometer_temperatures) refl refl (set_all 1 (omega arith))
    each_part inclinometer_temperatures n = part_inside u inclinometer_temperatures (values inclinometer_temperatures) refl refl (set_all 2 (omega arith))
    each_part aux n = part_inside u aux (values aux) refl refl (h.aux_value, (h.aux_status_lem, tt))
    each_part counter n = part_inside u counter (values counter) refl refl (h.counter_value, tt)
    each_part latency n = part_inside u latency (values latency) refl refl (h.latency_value, tt)

    pub passes_inside : outside u readings v ≡ false
    unfolding outside
    passes_inside = inside_each (parts_at u.identifier) values each_part
