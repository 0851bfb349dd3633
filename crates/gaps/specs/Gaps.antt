-- 01, Status, doubles, gaps: what lies between two datagrams. Internal samples and datagrams are two counts; the missed rule alone turns
-- one into the other.
use Rattle.std.specs.Prelude.{ℕ, ◌-◌, ◌/◌, ◌%◌, Bool, ◌||◌, cond, eqb, pos, ◌-ℤ◌}
use Rattle.std.proofs.Math.Option.{Option, none, some}
use Rattle.integers.specs.Rounding.{residue}
use Rattle.setup.specs.Setup.{hertz}
use Rattle.setup.specs.declared.Rate.{Rate}
use Rattle.gaps.specs.declared.Samples.{Samples}
use Rattle.gaps.specs.declared.Datagrams.{Datagrams}
use Rattle.gaps.specs.declared.Gap.{Gap}
use Rattle.gaps.specs.declared.Gap.TheVariants.{Missed, OffStep}

abbrev pub samples : ℕ → Samples
samples n = record { 0 = n }

abbrev pub datagrams : ℕ → Datagrams
datagrams n = record { 0 = n }

-- what each case of a gap says: how many datagrams were missed, none off step
abbrev pub missed_in : Gap → Option Datagrams
missed_in (Missed n) = some n
missed_in OffStep = none

-- the gap with so many missed, or off step
abbrev pub gap_with : Option Datagrams → Gap
gap_with (some n) = Missed n
gap_with none = OffStep

-- s: the internal samples, 2,000 a second, from one datagram to the next
abbrev pub step_at : ℕ → Samples
step_at rate = samples (2000 / rate)

-- d: the new counter minus the previous, modulo 256, a d of 0 read as 256
unfoldable pub elapsed : ℕ → ℕ → Samples
elapsed previous counter = let d : ℕ = residue (pos counter -ℤ pos previous) 256 in samples (cond (eqb d 0) 256 d)

-- missed = d / s - 1 if s divides d; else none: the gap is off step
unfoldable pub missed_after : Samples → Samples → Option Datagrams
missed_after s d = cond (eqb (d.0 % s.0) 0) (some (datagrams (d.0 / s.0 - 1))) none

-- the first datagram and external trigger give missed 0
unfoldable pub missed_at : ℕ → Bool → ℕ → ℕ → Option Datagrams
missed_at rate first previous counter = cond (first || eqb rate 0) (some (datagrams 0)) (missed_after (step_at rate) (elapsed previous counter))

abbrev pub gap_at : ℕ → Bool → ℕ → ℕ → Gap
gap_at rate first previous counter = gap_with (missed_at rate first previous counter)

abbrev pub gap_between : Rate → Bool → ℕ → ℕ → Gap
gap_between rate first previous counter = gap_at (hertz rate) first previous counter
