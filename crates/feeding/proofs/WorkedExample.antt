-- Worked by computation: two datagrams with 01's readings, an unfit one and other bytes between, cut into pieces, one of which is turned down.
-- The premises of demand 3 can be met, and it then says what 01's second line prints: a total of 16.
-- Assumes nothing.
use Prim.Native.Nat.{ℕ}
use mathlib.Core.Path.{◌≡◌, refl, subst}
use mathlib.Core.Bool.{true}
use mathlib.Core.List.{List, [], ◌∷◌, ◌++◌, map}
use native.Mathlib.Omega.{arith}
use lib.IntN.{ℤ, pos}
use lib.ListN.{get_or, replicate}
use Rattle.integers.specs.Bytes.{are_bytes, big_endian, twos_complement, signed_bytes}
use Rattle.integers.specs.Folding.{fold}
use Rattle.crc.specs.Check.{stim300, shift, shifts, byte_step, register, padding, covered, check_of, check32}
use Rattle.setup.specs.Layout.{parts_of, row_at, parts_at, groups_carried}
use Rattle.setup.specs.Sensor.{rate_of, unit_of, sensor_of}
use Rattle.setup.specs.Setup.{setup_rules, ruling_on, length_of}
use Rattle.setup.specs.declared.Setup.{Setup}
use Rattle.wire.specs.Fields.{fields_of_part, contents_of, fields_of}
use Rattle.acceptance.specs.Acceptable.{check_right, ending_right, acceptable_in, acceptable}
use Rattle.gaps.specs.Gaps.{datagrams as count, elapsed, missed_after, missed_at}
use Rattle.gaps.specs.declared.Gap.TheVariants.{Missed}
use Rattle.motion.specs.Status.{unfit}
use Rattle.motion.specs.Totals.{total_at, fit_readings, fit_before, reading_of, CloseFrom, Close}
use Rattle.scan.specs.Scan.{scan_from, scan}
use Rattle.scan.specs.Front.{front}
use Rattle.scan.specs.Calls.{Report, taken_whole, turned_down}
use Rattle.scan.specs.Carry.{told}
use Rattle.scan.specs.Stream.{outcome, reports, stream, Among}
use Rattle.search.specs.Search.{is_datagram, limits_of, verdict_of}
use Rattle.search.proofs.Datagrams.{among_found}
use Rattle.history.specs.History.{history_next}
use Rattle.session.specs.declared.Session.{Session}
use Rattle.feeding.specs.declared.Datagram.{Datagram}
use Rattle.feeding.specs.Feed.{datagram_with, history_after, tell, no_datagram}
use Rattle.feeding.specs.Promises.{stream_of, FedInTurn, answers_for, sighting, sightings, Stands, Carry}
use Rattle.feeding.proofs.Demands.{demand3}
use Rattle.std.specs.Prelude.{Ok}
use Rattle.refusals.specs.declared.Refusal.TheVariants.{PieceTooLong}

abbrev example : Setup
example = record { rate = 1000; identifier = 0x90; termination = 0; units = 3 ∷ 0 ∷ 0 ∷ []; shifts = 21 ∷ 0 ∷ 0 ∷ [] }

accepted_example : ruling_on example ≡ Ok tt
unfolding ruling_on setup_rules row_at parts_at groups_carried parts_of
accepted_example = refl

-- gyro X 8388600, counter 8; X 12345 with bits 3 and 0 of the status set, so that X is unfit, counter 10; X -8388600, counter 14
abbrev first : List ℕ
first =
    0x90 ∷ 0x7F ∷ 0xFF ∷ 0xF8 ∷ 0x00 ∷ 0x00 ∷ 0x00 ∷ 0x00 ∷ 0x00 ∷ 0x00 ∷ 0x00 ∷ 0x08 ∷ 0x00 ∷ 0x00 ∷ 0x54 ∷ 0x21 ∷ 0x11 ∷ 0xE5 ∷ []

abbrev second : List ℕ
second =
    0x90 ∷ 0x00 ∷ 0x30 ∷ 0x39 ∷ 0x00 ∷ 0x00 ∷ 0x00 ∷ 0x00 ∷ 0x00 ∷ 0x00 ∷ 0x09 ∷ 0x0A ∷ 0x00 ∷ 0x00 ∷ 0xE7 ∷ 0x13 ∷ 0x16 ∷ 0xF2 ∷ []

abbrev third_front : List ℕ
third_front = 0x90 ∷ 0x80 ∷ 0x00 ∷ 0x08 ∷ 0x00 ∷ []

abbrev third_rest : List ℕ
third_rest = 0x00 ∷ 0x00 ∷ 0x00 ∷ 0x00 ∷ 0x00 ∷ 0x00 ∷ 0x0E ∷ 0x00 ∷ 0x00 ∷ 0x91 ∷ 0xE4 ∷ 0x88 ∷ 0x5C ∷ []

-- the identifier among other bytes, then the three datagrams, the last cut in two; a piece of 4,097 bytes is turned down
abbrev pieces : List (List ℕ)
pieces = (0x01 ∷ 0x90 ∷ first) ∷ replicate 4097 0 ∷ (0x02 ∷ second ++ 0x90 ∷ third_front) ∷ third_rest ∷ []

abbrev datagrams : List (List ℕ)
datagrams = first ∷ second ∷ (third_front ++ third_rest) ∷ []

stream_example : stream_of example pieces ≡ 0x01 ∷ 0x90 ∷ first ++ 0x02 ∷ second ++ 0x90 ∷ third_front ++ third_rest
unfolding stream outcome
stream_example = refl

reports_example :
    reports (limits_of example) 0 pieces
    ≡ record { outcome = taken_whole; taken = 20 } ∷ record { outcome = turned_down PieceTooLong; taken = 0 } ∷ record { outcome = taken_whole; taken = 25 } ∷
    record { outcome = taken_whole; taken = 13 } ∷ []
unfolding reports outcome
reports_example = refl

scan_example : (scan (verdict_of example) (stream_of example pieces)).datagrams ≡ datagrams
unfolding
    stream outcome scan_from front is_datagram are_bytes acceptable acceptable_in check_right ending_right length_of row_at parts_of big_endian check32 check_of stim300
    covered padding register byte_step shifts shift
scan_example = refl

among_example : Among (is_datagram example) (stream_of example pieces) datagrams
among_example =
    let v = stream_of example pieces in
    subst (Among (is_datagram example) v) scan_example (among_found example accepted_example v)

-- 1,000 fine units to one output step: T0 = 8388600123 and T1 = 8388616999
abbrev angles : List ℤ
angles = pos 8388600123 ∷ pos 8388616999 ∷ []

carry_example : Carry 1000 (sightings example 0 0 datagrams) angles
unfolding fit_readings reading_of fold twos_complement Close CloseFrom unfit fields_of fields_of_part parts_at row_at parts_of signed_bytes big_endian
carry_example = record { carried = refl; close = (omega arith, tt) }

fit_example : (sighting example 0 0 (get_or datagrams 2 [])).fit ≡ true
unfolding unfit fields_of fields_of_part parts_at row_at parts_of big_endian
fit_example = refl

-- however these pieces are fed, the third answer stands for the change from T0 to T1
example_stands :
    {os : List Datagram} {rs : List Report} {t : Session} → FedInTurn example pieces os rs t
    → Stands example 0 0 1000 (pos 8388600123) (pos 8388616999) (get_or os 2 no_datagram)
unfolding fit_before fit_readings unfit fields_of fields_of_part parts_at row_at parts_of big_endian
example_stands {os} c =
    let r =
    (demand3 example accepted_example).change c datagrams among_example 0 0 (omega arith) (omega arith) refl 1000 (omega arith) angles
    carry_example 2 (omega arith) fit_example
    in
    subst (λ (k : ℕ). Stands example 0 0 1000 (pos 8388600123) (get_or angles k (pos 0)) (get_or os 2 no_datagram)) r.1 r.4

example_total :
    {os : List Datagram} {rs : List Report} {t : Session} → FedInTurn example pieces os rs t
    → (total_at (get_or os 2 no_datagram).totals 0 0).steps ≡ pos 16
example_total c = (example_stands c).exact

-- at rate 1000 a datagram comes every 2 samples: the first has no gap, the third comes one datagram late
example_gaps : map (λ (o : Datagram). o.gap) (answers_for example datagrams) ≡ Missed (count 0) ∷ Missed (count 0) ∷ Missed (count 1) ∷ []
unfolding told tell history_after history_next datagram_with missed_at elapsed missed_after contents_of sensor_of rate_of unit_of fields_of fields_of_part parts_at row_at parts_of big_endian
example_gaps = refl
