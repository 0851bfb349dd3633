-- `admission::sound_by` meets its contract: what the tests of the code tell, one after the other. Assumes nothing.
use mathlib.Core.Path.{◌≡◌}
use Rattle.admission.specs.Admission.{is_sound}
use Rattle.admission.proofs.Soundness.{by_sensor, sound_in_turn}
use Rattle.admission.proofs.sound_by.Goals as goal
use Rattle.admission.proofs.sound_by.Goals.{Start}

by_parts : (c : Start) → is_sound c.args.session ≡ by_sensor c.args.session c.args.sensor
by_parts c = sound_in_turn c.args.session c.args.sensor c.requires.0 c.requires.1

pub returns-then-not-held_right : goal.returns-then-not-held_right
returns-then-not-held_right c =
    rw (by_parts (goal.at.returns-then-not-held_right c).Start, ← c.length_of-size.ensures, ← c.held_right.ensures, c.if-not-held_right.true)

pub returns-then-not-counts_right : goal.returns-then-not-counts_right
returns-then-not-counts_right c =
    rw (
      by_parts (goal.at.returns-then-not-counts_right c).Start,
      ← c.length_of-size.ensures,
      ← c.held_right.ensures,
      c.if-not-held_right.false,
      ← c.counts_right.ensures,
      c.if-not-counts_right.true,
    )

pub returns : goal.returns
returns c =
    rw (
      by_parts (goal.at.returns c).Start,
      ← c.length_of-size.ensures,
      ← c.held_right.ensures,
      c.if-not-held_right.false,
      ← c.counts_right.ensures,
      c.if-not-counts_right.false,
      c.history_right.ensures,
      c.kept_groups-kept.ensures,
    )
