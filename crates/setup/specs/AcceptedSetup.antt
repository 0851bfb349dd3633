-- 01, What is turned down, 4 to 9: what an accepted setup has, clause by clause in 01's order, as facts and not as tests.
use Rattle.std.specs.Prelude.{ℕ, ◌≤◌, ◌<◌, false, [], ◌⊎◌, ◌≡◌, length, get_or}
use Rattle.setup.specs.Layout.{Entry, entry, table, groups_carried}
use Rattle.setup.specs.declared.Setup.{Setup}

-- a line of 01's table of identifiers
abbrev pub line_of_table : ℕ → Entry
line_of_table k = get_or table k (entry 0 [] 0)

pub record PassesNine (u : Setup) : Type 0 where
  -- 4: the rate is one of these
  pub rate : (u.rate ≡ 0) ⊎ (u.rate ≡ 125) ⊎ (u.rate ≡ 250) ⊎ (u.rate ≡ 500) ⊎ (u.rate ≡ 1000) ⊎ (u.rate ≡ 2000)
  -- 5: the identifier is in the table
  pub line : ℕ
  pub listed : line < length table
  pub identifier : u.identifier ≡ (line_of_table line).identifier
  -- 6: the termination is 0 or 1
  pub termination : u.termination ≤ 1
  -- 7, 8: no unit is above 3, no shift above 31
  pub units : (group : ℕ) → group < 3 → get_or u.units group 0 ≤ 3
  pub shifts : (group : ℕ) → group < 3 → get_or u.shifts group 0 ≤ 31
  -- 9: a group not carried has unit and shift 0
  pub absent :
      (group : ℕ) → group < 3 → get_or (groups_carried u.identifier) group false ≡ false
      → (get_or u.units group 0 ≡ 0) × (get_or u.shifts group 0 ≡ 0)
