-- Where the parts of a row stand, each as the code finds it: one equation for all rows, by computation for each of the sixteen.
use Prim.Native.Nat.{◌+◌, ◌≤◌}
use native.Mathlib.Omega.{arith}
use mathlib.Core.Bool.{Bool, true, false, ◌&&◌, cond}
use mathlib.Core.List.{[], ◌∷◌, map}
use mathlib.Core.Path.{◌≡◌, refl}
use Rattle.setup.specs.Layout.{Part, aux, counter, latency, bytes, parts_of, carries, offset, placed}
use Rattle.setup.specs.declared.Row.{Row}
use Rattle.setup.proofs.Rows.{every_row}
use Rattle.setup.proofs.Layouts.{before_range, part_before_check}
use Rattle.wire.specs.Fields.{groups, temperature_sets}
use Rattle.wire.specs.Places.{groups_end, temperatures_end}

abbrev GroupsAt : Row → Type 0
GroupsAt r = map (placed (parts_of r)) groups ≡ 1 ∷ cond r.acceleration 11 0 ∷ cond r.inclination (11 + cond r.acceleration 10 0) 0 ∷ []

pub groups_at : (r : Row) → GroupsAt r
unfolding parts_of groups_end temperatures_end
groups_at = every_row GroupsAt ((refl, refl, refl, refl), (refl, refl, refl, refl), (refl, refl, refl, refl), (refl, refl, refl, refl))

abbrev GroupsEnd : Row → Type 0
GroupsEnd r = groups_end r ≡ 11 + cond r.acceleration 10 0 + cond r.inclination 10 0

pub groups_end_lem : (r : Row) → GroupsEnd r
unfolding parts_of groups_end temperatures_end
groups_end_lem = every_row GroupsEnd ((refl, refl, refl, refl), (refl, refl, refl, refl), (refl, refl, refl, refl), (refl, refl, refl, refl))

abbrev TemperaturesAt : Row → Type 0
TemperaturesAt r =
    map (placed (parts_of r)) temperature_sets
    ≡ cond r.temperatures (groups_end r) 0 ∷ cond (r.temperatures && r.acceleration) (groups_end r + 7) 0
    ∷ cond (r.temperatures && r.inclination) (groups_end r + 7 + cond r.acceleration 7 0) 0 ∷ []

pub temperatures_at : (r : Row) → TemperaturesAt r
unfolding parts_of groups_end temperatures_end
temperatures_at = every_row TemperaturesAt ((refl, refl, refl, refl), (refl, refl, refl, refl), (refl, refl, refl, refl), (refl, refl, refl, refl))

abbrev TemperaturesEnd : Row → Type 0
TemperaturesEnd r = temperatures_end r ≡ groups_end r + cond r.temperatures (7 + cond r.acceleration 7 0 + cond r.inclination 7 0) 0

pub temperatures_end_lem : (r : Row) → TemperaturesEnd r
unfolding parts_of groups_end temperatures_end
temperatures_end_lem = every_row TemperaturesEnd ((refl, refl, refl, refl), (refl, refl, refl, refl), (refl, refl, refl, refl), (refl, refl, refl, refl))

-- AUX stands behind them, the counter behind AUX, the latency behind the counter, the check behind the latency
abbrev AuxAt : Row → Type 0
AuxAt r = placed (parts_of r) aux ≡ cond r.aux (temperatures_end r) 0

pub aux_at : (r : Row) → AuxAt r
unfolding parts_of groups_end temperatures_end
aux_at = every_row AuxAt ((refl, refl, refl, refl), (refl, refl, refl, refl), (refl, refl, refl, refl), (refl, refl, refl, refl))

abbrev CounterAt : Row → Type 0
CounterAt r = placed (parts_of r) counter ≡ temperatures_end r + cond r.aux 4 0

pub counter_at : (r : Row) → CounterAt r
unfolding parts_of groups_end temperatures_end
counter_at = every_row CounterAt ((refl, refl, refl, refl), (refl, refl, refl, refl), (refl, refl, refl, refl), (refl, refl, refl, refl))

abbrev LatencyAt : Row → Type 0
LatencyAt r = placed (parts_of r) latency ≡ placed (parts_of r) counter + 1

pub latency_at : (r : Row) → LatencyAt r
unfolding parts_of groups_end temperatures_end
latency_at = every_row LatencyAt ((refl, refl, refl, refl), (refl, refl, refl, refl), (refl, refl, refl, refl), (refl, refl, refl, refl))

abbrev CheckAt : Row → Type 0
CheckAt r = bytes (parts_of r) ≡ placed (parts_of r) counter + 1 + 2

pub check_at : (r : Row) → CheckAt r
unfolding parts_of groups_end temperatures_end
check_at = every_row CheckAt ((refl, refl, refl, refl), (refl, refl, refl, refl), (refl, refl, refl, refl), (refl, refl, refl, refl))

-- none of these numbers is above 59
pub place_low : (r : Row) (p : Part) → placed (parts_of r) p ≤ 59
place_low r p = by (carries (parts_of r) p) refl
  where
    by : (b : Bool) → carries (parts_of r) p ≡ b → cond b (offset (parts_of r) p) 0 ≤ 59
    by true e = let h = rw e at (part_before_check r p e) in let b = before_range r in omega arith
    by false e = omega arith

pub ends_low : (r : Row) → (groups_end r ≤ 31) × (temperatures_end r ≤ 52)
unfolding parts_of groups_end temperatures_end
ends_low = every_row (λ r. (groups_end r ≤ 31) × (temperatures_end r ≤ 52)) (omega arith)
