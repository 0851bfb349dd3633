-- What a session keeps of the datagrams handed out, and what one more does to it (01, Status, doubles, gaps; Totals; 02, 2.5).
use Rattle.std.specs.Prelude.{ℕ, ◌+◌, ◌-◌, ◌^◌, Bool, false, cond, List, eqb, leb, ℤ, get_or}
use Rattle.setup.specs.Setup.{hertz}
use Rattle.setup.specs.declared.Rate.{Rate}
use Rattle.gaps.specs.Gaps.{datagrams, gap_between}
use Rattle.gaps.specs.declared.Gap.{Gap}
use Rattle.motion.specs.Totals.{no_axes, stepped}
use Rattle.doubt.specs.Doubt.{added, no_gyro_doubt, gyro_step}
use Rattle.history.specs.declared.History.{History}

-- a fresh session's: no datagram was handed out
abbrev pub no_history : History
no_history = record { datagrams = datagrams 0; previous = 0; axes = no_axes; doubt = no_gyro_doubt }

-- the first datagram of a session is the one before which none was handed out
abbrev pub awaits_first : History → Bool
awaits_first h = eqb h.datagrams.0 0

-- the gap in front of the next datagram, of its counter
abbrev pub gap_next : Rate → History → ℕ → Gap
gap_next rate h counter = gap_between rate (awaits_first h) h.previous counter

-- behind the next datagram, of its readings, its groups' statuses and its counter; kept: which groups keep totals, first: whether it counts as a first one
unfoldable pub history_next : ℕ → List Bool → Bool → History → List (List ℤ) → List ℕ → ℕ → History
history_next rate kept first h readings statuses counter =
    record {
      datagrams = datagrams (h.datagrams.0 + 1);
      previous = counter;
      axes = stepped kept h.axes readings statuses;
      doubt = gyro_step rate (get_or kept 0 false) h.axes.gyro h.doubt (get_or statuses 0 0) (added first h.previous counter);
    }

-- the same for every history: one with the greatest count of 64 bits, which no session has, stays as it is
abbrev pub greatest_count : ℕ
greatest_count = 2 ^ 64 - 1

unfoldable pub advanced : Rate → List Bool → History → List (List ℤ) → List ℕ → ℕ → History
advanced rate kept h readings statuses counter =
    cond (leb greatest_count h.datagrams.0) h (history_next (hertz rate) kept (awaits_first h) h readings statuses counter)
