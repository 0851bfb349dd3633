-- What the enums say that the calls below those of 01 answer (01, last paragraph): of each case the number or the values.
use Rattle.std.specs.Prelude.{ℕ, ◌+◌, ◌-◌, ◌≤◌, ◌<◌, true, List, ◌≡◌, length, take, drop, get_or}
use Rattle.std.proofs.Math.Option.{none, some}
use Rattle.setup.specs.Layout.{carrying, table, row_at, listing_row, listing_number}
use Rattle.setup.specs.AcceptedSetup.{line_of_table}
use Rattle.setup.specs.Setup.{setup_number}
use Rattle.setup.specs.Sensor.{sensor_of, description_of, described_sensor, described_number}
use Rattle.setup.specs.declared.Setup.{Setup}
use Rattle.scan.specs.Scan.{first, Undecided}
use Rattle.scan.specs.Stream.{Begins}
use Rattle.search.specs.Search.{candidate_of, is_datagram, verdict_of, verdict_in, place_of, passed_before, size_found}
use Rattle.search.specs.declared.Place.{Place}
use Rattle.session.specs.declared.Session.{Session}
use Rattle.admission.specs.Admission.{piece_number, admission_of, admission_sensor, admission_number}

-- where the first datagram of a setup lies in bytes, `search::find`
pub record FoundAt (u : Setup) (v : List ℕ) (r : Place) : Type 0 where
  -- none begins at a byte that is passed over, and each of them was decided: it begins none, or as many bytes are there as the datagram has that it begins
  pub none_begins : (k : ℕ) → k < passed_before r → Begins (is_datagram u) (drop k v) → ⊥
  pub decided : (k : ℕ) → k < passed_before r → candidate_of u (get_or v k 0) ≤ length v - k
  -- an acceptable one of that size stands behind those, or nothing is decided of what does
  pub complete : {n : ℕ} → size_found r ≡ some n → (passed_before r + n ≤ length v) × (is_datagram u (take n (drop (passed_before r) v)) ≡ true)
  pub undecided : size_found r ≡ none → Undecided (verdict_of u) (drop (passed_before r) v)

pub record BuildingBlocks : Type 0 where
  -- `setup::row_of`: of an identifier in the table the row with its letters, of any other 5
  pub listed : (k : ℕ) → k < length table → listing_row (row_at (line_of_table k).identifier) ≡ some (carrying (line_of_table k).carries)
  pub unlisted : (i : ℕ) → ((k : ℕ) → k < length table → i ≡ (line_of_table k).identifier → ⊥) → listing_number (row_at i) ≡ some 5
  -- `setup::describe`: the number that refuses the setup, or its sensor
  pub described_number_lem : (u : Setup) → described_number (description_of u) ≡ setup_number u
  pub described_sensor_lem : (u : Setup) → setup_number u ≡ none → described_sensor (description_of u) ≡ some (sensor_of u)
  -- `admission::admit`: the number that refuses the piece, or the sensor of the session's setup
  pub admitted_number : (s : Session) (n : ℕ) → admission_number (admission_of s n) ≡ piece_number s n
  pub admitted_sensor : (s : Session) (n : ℕ) → piece_number s n ≡ none → admission_sensor (admission_of s n) ≡ some (sensor_of s.setup)
  -- `search::find`, of the sensor of a setup that is not refused
  pub found : (u : Setup) → setup_number u ≡ none → (v : List ℕ) → FoundAt u v (place_of (first (verdict_in (sensor_of u)) v))
