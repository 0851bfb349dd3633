-- `gaps::gap_between` meets its contract. Assumes nothing.
use Prim.Native.Nat.{ℕ, ◌<◌}
use mathlib.Core.Bool.{false}
use mathlib.Core.Path.{◌≡◌, refl}
use native.Mathlib.Omega.{arith}
use lib.Dec.{eqb}
use Rattle.setup.specs.Setup.{hertz}
use Rattle.setup.specs.declared.Rate.{Rate}
use Rattle.gaps.specs.declared.Gap.{Gap}
use Rattle.gaps.specs.Gaps.{samples, step_at, gap_with, missed_after, missed_at, gap_between}
use Rattle.gaps.proofs.Gaps.{elapsed_range}
use Rattle.gaps.proofs.gap_between.Goals as goal
use Rattle.gaps.proofs.gap_between.Goals.{After-elapsed-gone}

-- at least one sample goes by
some : (c : After-elapsed-gone) → 0 < c.elapsed-gone.result.0
some c = rw c.elapsed-gone.ensures (elapsed_range c.before.before.args.previous c.before.before.args.counter).0

-- the gap at a rate with so many samples from one datagram to the next
told : (c : After-elapsed-gone) {rate : Rate} {s : ℕ} {g : Gap} → c.before.before.args.rate ≡ rate
    → g ≡ gap_with (missed_after (samples s) c.elapsed-gone.result) → step_at (hertz rate) ≡ samples s → eqb (hertz rate) 0 ≡ false
    → let a = c.before.before.args in g ≡ gap_between a.rate a.first a.previous a.counter
unfolding missed_at
told c r e step later = rw (e, ← step, c.elapsed-gone.ensures, r, c.before.if-first.false, later)

pub returns-then-first : goal.returns-then-first
unfolding missed_at
returns-then-first c = rw c.if-first.true

pub missed-requires : goal.missed-requires
missed-requires c = (omega arith, some (goal.at.missed-requires c).After-elapsed-gone)

pub missed-requires-in-Hertz250 : goal.missed-requires-in-Hertz250
missed-requires-in-Hertz250 c = (omega arith, some (goal.at.missed-requires-in-Hertz250 c).After-elapsed-gone)

pub missed-requires-in-Hertz500 : goal.missed-requires-in-Hertz500
missed-requires-in-Hertz500 c = (omega arith, some (goal.at.missed-requires-in-Hertz500 c).After-elapsed-gone)

pub missed-requires-in-Hertz1000 : goal.missed-requires-in-Hertz1000
missed-requires-in-Hertz1000 c = (omega arith, some (goal.at.missed-requires-in-Hertz1000 c).After-elapsed-gone)

pub missed-requires-in-Hertz2000 : goal.missed-requires-in-Hertz2000
missed-requires-in-Hertz2000 c = (omega arith, some (goal.at.missed-requires-in-Hertz2000 c).After-elapsed-gone)

pub returns-in-ExternalTrigger : goal.returns-in-ExternalTrigger
unfolding missed_at
returns-in-ExternalTrigger c = rw (c.if-first.false, c.in-ExternalTrigger.is)

pub returns-in-Hertz125 : goal.returns-in-Hertz125
returns-in-Hertz125 c = told (goal.at.returns-in-Hertz125 c).After-elapsed-gone c.in-Hertz125.is c.missed.ensures refl refl

pub returns-in-Hertz250 : goal.returns-in-Hertz250
returns-in-Hertz250 c = told (goal.at.returns-in-Hertz250 c).After-elapsed-gone c.in-Hertz250.is c.missed-in-Hertz250.ensures refl refl

pub returns-in-Hertz500 : goal.returns-in-Hertz500
returns-in-Hertz500 c = told (goal.at.returns-in-Hertz500 c).After-elapsed-gone c.in-Hertz500.is c.missed-in-Hertz500.ensures refl refl

pub returns-in-Hertz1000 : goal.returns-in-Hertz1000
returns-in-Hertz1000 c = told (goal.at.returns-in-Hertz1000 c).After-elapsed-gone c.in-Hertz1000.is c.missed-in-Hertz1000.ensures refl refl

pub returns-in-Hertz2000 : goal.returns-in-Hertz2000
returns-in-Hertz2000 c = told (goal.at.returns-in-Hertz2000 c).After-elapsed-gone c.in-Hertz2000.is c.missed-in-Hertz2000.ensures refl refl
