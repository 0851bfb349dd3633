-- The enums of the calls below those of 01 say what is promised. Assumes nothing.
use Prim.Native.Nat.{ℕ}
use mathlib.Core.List.{List}
use mathlib.Core.Option.{none}
use mathlib.Core.Path.{◌≡◌, sym, subst}
use Rattle.setup.specs.Setup.{setup_number}
use Rattle.setup.specs.Sensor.{sensor_of}
use Rattle.setup.specs.declared.Setup.{Setup}
use Rattle.setup.proofs.Rules.{number_accepted}
use Rattle.setup.proofs.Rows.{listed_row_at, unlisted_five}
use Rattle.setup.proofs.Sensors.{described_number_lem, described_sensor_lem}
use Rattle.scan.specs.Scan.{Verdict, first}
use Rattle.search.specs.Search.{verdict_in, place_of}
use Rattle.search.proofs.Sensors.{verdict_sensor}
use Rattle.search.proofs.Places.{place_none, place_decided, place_complete, place_open}
use Rattle.admission.proofs.PieceRulings.{admitted_number, admitted_sensor}
use Rattle.promises.specs.BuildingBlocks.{FoundAt, BuildingBlocks}

found_at : (u : Setup) → setup_number u ≡ none → (v : List ℕ) → FoundAt u v (place_of (first (verdict_in (sensor_of u)) v))
found_at u e v =
    let ok = number_accepted u e in
    subst (λ (w : List ℕ → Verdict). FoundAt u v (place_of (first w v))) (sym (verdict_sensor u ok))
    (record { none_begins = place_none u ok v; decided = place_decided u ok v; complete = λ q. place_complete u ok v q; undecided = place_open u ok v })

pub building_blocks : BuildingBlocks
building_blocks =
    record {
      listed = listed_row_at;
      unlisted = unlisted_five;
      described_number_lem = described_number_lem;
      described_sensor_lem = described_sensor_lem;
      admitted_number = admitted_number;
      admitted_sensor = λ s n e. admitted_sensor s n e;
      found = found_at;
    }
