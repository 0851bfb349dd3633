-- The answer and the buffer of a line under a setup.
use Prim.Native.Nat.{ℕ}
use mathlib.Core.Path.{◌≡◌, refl, sym, ap, ◌∙◌}
use mathlib.Core.List.{List}
use lib.IntN.{ℤ}
use lib.ListN.{length}
use Rattle.setup.specs.Setup.{setup_rules, ruling_on}
use Rattle.setup.specs.Sensor.{sensor_of, description_of}
use Rattle.setup.specs.declared.Sensor.{Sensor}
use Rattle.setup.specs.declared.Setup.{Setup}
use Rattle.setup.proofs.Rules.{first_accepted, first_refused}
use Rattle.setup.proofs.Sensors.{sensor_groups}
use Rattle.gaps.specs.declared.Gap.{Gap}
use Rattle.motion.specs.Totals.{Totals}
use Rattle.motion.proofs.AcceptedSetup.{accepted_kept}
use Rattle.shown_line.specs.ShownLine.{shown_rules, shown_ruling, shown_answer, shown_buffer}
use Rattle.shown_line.specs.declared.Shown.{Shown}
use Rattle.text.specs.TextLine.{shown_by, shown_of, line_text, line_rules, line_ruling, line_answer, line_buffer}
use Rattle.std.specs.Prelude.{Result, Ok, Err}
use Rattle.refusals.specs.Refusals.{Ruling, unless_refused, and_then}
use Rattle.refusals.specs.declared.Refusal.{Refusal}

-- the sensor that an accepted setup describes shows what the setup shows
pub sensor_shown : (u : Setup) → ruling_on u ≡ Ok tt → shown_of (sensor_of u).row (sensor_of u).units ≡ shown_by u
unfolding shown_of shown_by
sensor_shown u e = λ i. record { carried = sym (sensor_groups u e) i; kept = accepted_kept u e i }

module _ (b : List ℕ) (setup : Setup) (ordinal counter latency : ℕ) (gap : Gap) (readings : List (List ℤ)) (statuses : List ℕ) (totals : Totals) where
  pub setup_refused : {e : Refusal} → ruling_on setup ≡ Err e
      → (Err e ≡ line_answer b setup ordinal counter latency gap readings statuses totals) × (b ≡ line_buffer b setup ordinal counter latency gap readings statuses totals)
  unfolding line_answer line_buffer line_ruling line_rules ruling_on
  setup_refused {e} q =
      let r : line_ruling b setup ordinal counter latency gap readings statuses totals ≡ Err e =
      first_refused (setup_rules setup) (shown_rules ordinal readings totals (line_text setup ordinal counter latency gap readings statuses totals) (length b)) q in
      rw r (refl, refl)

  -- an accepted one is written as what it shows
  module _ (e : ruling_on setup ≡ Ok tt) where
    pub accepted_answer : shown_answer b (shown_by setup) ordinal counter latency gap readings statuses totals ≡ line_answer b setup ordinal counter latency gap readings statuses totals
    unfolding line_answer line_ruling line_rules line_text ruling_on shown_answer shown_ruling
    accepted_answer = rw (first_accepted (setup_rules setup) _ e)

    pub accepted_buffer : shown_buffer b (shown_by setup) ordinal counter latency gap readings statuses totals ≡ line_buffer b setup ordinal counter latency gap readings statuses totals
    unfolding line_buffer line_ruling line_rules line_text ruling_on shown_buffer shown_ruling
    accepted_buffer = rw (first_accepted (setup_rules setup) _ e)

  -- the setup first, and then the line of what its sensor shows
  abbrev shown_in : Sensor → Result ℕ Refusal
  shown_in w = shown_answer b (shown_of w.row w.units) ordinal counter latency gap readings statuses totals

  abbrev buffer_with : Result Sensor Refusal → List ℕ
  buffer_with (Ok w) = shown_buffer b (shown_of w.row w.units) ordinal counter latency gap readings statuses totals
  buffer_with (Err e) = b

  pub line_in_turn : line_answer b setup ordinal counter latency gap readings statuses totals ≡ and_then (description_of setup) shown_in
  unfolding description_of
  line_in_turn = by (ruling_on setup) refl
    where
      by :
          (j : Ruling) → ruling_on setup ≡ j
          → line_answer b setup ordinal counter latency gap readings statuses totals ≡ and_then (unless_refused j (sensor_of setup)) shown_in
      by (Ok tt) q =
          sym (accepted_answer q) ∙ ap (λ (x : Shown). shown_answer b x ordinal counter latency gap readings statuses totals) (sym (sensor_shown setup q))
      by (Err e) q = sym (setup_refused q).0

  pub buffer_in_turn : line_buffer b setup ordinal counter latency gap readings statuses totals ≡ buffer_with (description_of setup)
  unfolding description_of
  buffer_in_turn = by (ruling_on setup) refl
    where
      by :
          (j : Ruling) → ruling_on setup ≡ j
          → line_buffer b setup ordinal counter latency gap readings statuses totals ≡ buffer_with (unless_refused j (sensor_of setup))
      by (Ok tt) q =
          sym (accepted_buffer q) ∙ ap (λ (x : Shown). shown_buffer b x ordinal counter latency gap readings statuses totals) (sym (sensor_shown setup q))
      by (Err e) q = sym (setup_refused q).1
