-- Division rounded down, and what it leaves (01, Totals).
use Rattle.std.specs.Prelude.{ℕ, suc, ◌-◌, ◌/◌, ◌%◌, ℤ, pos, negsuc}

-- z / d rounded down: the greatest whole number not above it, for a d above 0
abbrev pub floor : ℤ → ℕ → ℤ
floor (pos a) d = pos (a / d)
floor (negsuc a) d = negsuc (a / d)

-- z modulo m: the remainder that is not negative, for an m above 0
abbrev pub residue : ℤ → ℕ → ℕ
residue (pos a) m = a % m
residue (negsuc a) m = m - suc (a % m)
