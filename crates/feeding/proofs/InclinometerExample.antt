-- Worked by computation: the inclinometer's Z, integrated, of the longest datagram, with negative true angles that run off the lower end of
-- 24 bits, two unfit datagrams in a row, other bytes between, a datagram cut into three pieces, and a piece that is turned down inside it.
-- Assumes nothing.
use Prim.Native.Nat.{ℕ, suc, ◌^◌, ◌<◌}
use mathlib.Core.Path.{◌≡◌, refl, sym, ap, subst, ◌∙◌}
use mathlib.Core.Bool.{Bool, true, false, cond}
use mathlib.Core.List.{List, [], ◌∷◌, ◌++◌, map}
use native.Mathlib.Omega.{arith}
use lib.Ieee.Exact.{HasValue}
use lib.IntN.{ℤ, pos, negsuc, nat_abs}
use lib.ListN.{take, drop, get_or, replicate}
use Rattle.integers.specs.Bytes.{are_bytes, big_endian, twos_complement, signed_bytes}
use Rattle.integers.specs.Folding.{fold}
use Rattle.crc.specs.Check.{stim300, shift, shifts, byte_step, register, padding, covered, check_of, check32}
use Rattle.setup.specs.Layout.{parts_of, row_at, parts_at, groups_carried}
use Rattle.setup.specs.Setup.{setup_rules, ruling_on, length_of}
use Rattle.setup.specs.declared.Setup.{Setup}
use Rattle.wire.specs.Fields.{fields_of_part, fields_of}
use Rattle.acceptance.specs.Acceptable.{check_right, ending_right, acceptable_in, acceptable}
use Rattle.motion.specs.Status.{unfit}
use Rattle.motion.specs.Totals.{Sighting, no_axis, total_of, keeps, total_at, difference, fit_step, axis_step, after, fit_readings, fit_before, reading_of, CloseFrom, Close}
use Rattle.motion.specs.declared.Total.{Total}
use Rattle.doubles.specs.Doubles.{negative, double_at}
use Rattle.scan.specs.Scan.{scan_from, scan}
use Rattle.scan.specs.Front.{front}
use Rattle.scan.specs.Calls.{Report, taken_whole, turned_down}
use Rattle.scan.specs.Stream.{outcome, reports, stream, Among}
use Rattle.search.specs.Search.{is_datagram, limits_of, verdict_of}
use Rattle.search.proofs.Datagrams.{among_found}
use Rattle.session.specs.declared.Session.{Session}
use Rattle.feeding.specs.declared.Datagram.{Datagram}
use Rattle.feeding.specs.Feed.{no_datagram}
use Rattle.feeding.specs.Promises.{stream_of, FedInTurn, sighting, sightings, Stands, Carry}
use Rattle.feeding.proofs.Demands.{demand2, demand3}
use Rattle.std.specs.Prelude.{Ok}
use Rattle.refusals.specs.declared.Refusal.TheVariants.{PieceTooLong}

abbrev example : Setup
example = record { rate = 250; identifier = 0xAF; termination = 1; units = 0 ∷ 0 ∷ 3 ∷ []; shifts = 14 ∷ 19 ∷ 25 ∷ [] }

accepted_example : ruling_on example ≡ Ok tt
unfolding ruling_on setup_rules row_at parts_at groups_carried parts_of
accepted_example = refl

-- the parts of a datagram that are the same in each: before the inclinometer's Z, the gyro's status with bit 7 set; behind its status
abbrev before_z : List ℕ
before_z =
    0xAF ∷ 0x00 ∷ 0x10 ∷ 0x00 ∷ 0xFF ∷ 0xF0 ∷ 0x00 ∷ 0x00 ∷ 0x00 ∷ 0x2A ∷ 0x80 ∷ 0x00 ∷ 0x00 ∷ 0x07 ∷ 0x00 ∷ 0x01 ∷ 0x00 ∷ 0x08 ∷ 0x00 ∷ 0x00 ∷ 0x00 ∷
    0x00 ∷ 0x01 ∷ 0x02 ∷ 0xFE ∷ 0xDC ∷ 0xBA ∷ []

abbrev behind_status : List ℕ
behind_status =
    0x19 ∷ 0x00 ∷ 0x19 ∷ 0x01 ∷ 0x19 ∷ 0x02 ∷ 0x00 ∷ 0x19 ∷ 0x00 ∷ 0x19 ∷ 0x01 ∷ 0x19 ∷ 0x02 ∷ 0x00 ∷ 0x19 ∷ 0x00 ∷ 0x19 ∷ 0x01 ∷ 0x19 ∷ 0x02 ∷ 0x00 ∷
    0x00 ∷ 0x12 ∷ 0x34 ∷ 0x00 ∷ []

-- by the Z, its status and the counter, with latency 320
abbrev datagram : List ℕ → ℕ → ℕ → List ℕ → List ℕ
datagram z status counter check =
    before_z ++ z ++ status ∷ behind_status ++ counter ∷ 0x01 ∷ 0x40 ∷ check ++ 0x0D ∷ 0x0A ∷ []

-- Z -8388590; Z 8388586 with bits 5 and 2, fit; bit 7, unfit; bits 4 and 2, unfit; Z 777216 with bits 3, 1 and 0, so that X and Y are unfit
abbrev first : List ℕ
first = datagram (0x80 ∷ 0x00 ∷ 0x12 ∷ []) 0x00 8 (0x00 ∷ 0x72 ∷ 0xF9 ∷ 0xE5 ∷ [])

abbrev second : List ℕ
second = datagram (0x7F ∷ 0xFF ∷ 0xEA ∷ []) 0x24 16 (0xA7 ∷ 0x3D ∷ 0x36 ∷ 0x21 ∷ [])

abbrev third : List ℕ
third = datagram (0x12 ∷ 0x34 ∷ 0x56 ∷ []) 0x80 24 (0x17 ∷ 0x15 ∷ 0xBF ∷ 0xE6 ∷ [])

abbrev fourth : List ℕ
fourth = datagram (0xFF ∷ 0xFF ∷ 0xFF ∷ []) 0x14 32 (0x47 ∷ 0x54 ∷ 0x7C ∷ 0xFA ∷ [])

abbrev fifth : List ℕ
fifth = datagram (0x0B ∷ 0xDC ∷ 0x00 ∷ []) 0x0B 40 (0x53 ∷ 0xB9 ∷ 0x71 ∷ 0x42 ∷ [])

-- the second datagram comes in three pieces, with one of 4,097 bytes between them that is turned down; the identifier stands alone twice
abbrev pieces : List (List ℕ)
pieces =
    (0x00 ∷ 0xAF ∷ 0x11 ∷ first ++ take 20 second) ∷ replicate 4097 0 ∷ take 30 (drop 20 second) ∷ (drop 50 second ++ third ++ fourth ++ 0x0D ∷ 0xAF ∷ []) ∷
    (fifth ++ 0x0A ∷ []) ∷ []

abbrev datagrams : List (List ℕ)
datagrams = first ∷ second ∷ third ∷ fourth ∷ fifth ∷ []

stream_example :
    stream_of example pieces ≡ 0x00 ∷ 0xAF ∷ 0x11 ∷ first ++ second ++ third ++ fourth ++ 0x0D ∷ 0xAF ∷ fifth ++ 0x0A ∷ []
unfolding stream outcome
stream_example = refl

reports_example :
    reports (limits_of example) 0 pieces
    ≡ record { outcome = taken_whole; taken = 88 } ∷ record { outcome = turned_down PieceTooLong; taken = 0 } ∷ record { outcome = taken_whole; taken = 30 } ∷
    record { outcome = taken_whole; taken = 147 } ∷ record { outcome = taken_whole; taken = 66 } ∷ []
unfolding reports outcome
reports_example = refl

scan_example : (scan (verdict_of example) (stream_of example pieces)).datagrams ≡ datagrams
unfolding
    stream outcome scan_from front is_datagram are_bytes acceptable acceptable_in check_right ending_right length_of row_at parts_of big_endian check32 check_of stim300
    covered padding register byte_step shifts shift
scan_example = refl

among_example : Among (is_datagram example) (stream_of example pieces) datagrams
among_example =
    let v = stream_of example pieces in
    subst (Among (is_datagram example) v) scan_example (among_found example accepted_example v)

-- 360 fine units to one output step: T0 = -3019892383, T1 = -3019906441, T2 = -5759999999
abbrev angles : List ℤ
angles = negsuc 3019892382 ∷ negsuc 3019906440 ∷ negsuc 5759999998 ∷ []

carry_example : Carry 360 (sightings example 2 2 datagrams) angles
unfolding fit_readings reading_of fold twos_complement Close CloseFrom unfit fields_of fields_of_part parts_at row_at parts_of signed_bytes big_endian
carry_example = record { carried = refl; close = (omega arith, (omega arith, tt)) }

keeps_example : keeps example 2 ≡ true
unfolding groups_carried parts_at row_at parts_of
keeps_example = refl

fits_example : map (λ (s : Sighting). s.fit) (sightings example 2 2 datagrams) ≡ true ∷ true ∷ false ∷ false ∷ true ∷ []
unfolding unfit fields_of fields_of_part parts_at row_at parts_of big_endian
fits_example = refl

fit_example : (sighting example 2 2 (get_or datagrams 4 [])).fit ≡ true
fit_example = ap (λ (bs : List Bool). get_or bs 4 false) fits_example

module _ {os : List Datagram} {rs : List Report} {t : Session} (c : FedInTurn example pieces os rs t) where
  -- however these pieces are fed, the fifth answer stands for the change from T0 to T2
  example_stands : Stands example 2 2 360 (negsuc 3019892382) (negsuc 5759999998) (get_or os 4 no_datagram)
  unfolding fit_before fit_readings unfit fields_of fields_of_part parts_at row_at parts_of big_endian
  example_stands =
      let r =
      (demand3 example accepted_example).change c datagrams among_example 2 2 (omega arith) (omega arith) refl 360 (omega arith) angles
      carry_example 4 (omega arith) fit_example
      in
      subst (λ (k : ℕ). Stands example 2 2 360 (negsuc 3019892382) (get_or angles k (pos 0)) (get_or os 4 no_datagram)) r.1 r.4

  example_total : (total_at (get_or os 4 no_datagram).totals 2 2).steps ≡ negsuc 7611409
  example_total = example_stands.exact

  -- its double is that over 2 ^ 25
  example_double : HasValue (double_at (get_or os 4 no_datagram).doubles 2 2) true 7611410 (2 ^ 25)
  example_double =
      subst (λ (z : ℤ). HasValue (double_at (get_or os 4 no_datagram).doubles 2 2) (negative z) (nat_abs z) (2 ^ 25)) example_total
      example_stands.double

  -- the total of Z at each place, by the rule for one axis
  total_at_lem :
      (i : ℕ) → i < 5 → total_at (get_or os i no_datagram).totals 2 2 ≡ total_of (after no_axis (take (suc i) (sightings example 2 2 datagrams)))
  total_at_lem i h =
      (demand2 example accepted_example).totals c datagrams among_example i h 2 2 (omega arith) (omega arith)
      ∙ ap (λ (b : Bool). total_of (cond b (after no_axis (take (suc i) (sightings example 2 2 datagrams))) no_axis)) keeps_example

  -- it is -40 at the second, and so it stays at the two unfit ones
  example_second : (total_at (get_or os 1 no_datagram).totals 2 2).steps ≡ negsuc 39
  unfolding
      after axis_step fit_step difference fold twos_complement unfit fields_of fields_of_part parts_at row_at parts_of signed_bytes big_endian
  example_second = ap (λ (a : Total). a.steps) (total_at_lem 1 (omega arith))

  example_unfit :
      (total_at (get_or os 2 no_datagram).totals 2 2 ≡ total_at (get_or os 1 no_datagram).totals 2 2)
      × (total_at (get_or os 3 no_datagram).totals 2 2 ≡ total_at (get_or os 1 no_datagram).totals 2 2)
  unfolding after axis_step unfit fields_of fields_of_part parts_at row_at parts_of big_endian
  example_unfit = (total_at_lem 2 (omega arith) ∙ sym (total_at_lem 1 (omega arith)), total_at_lem 3 (omega arith) ∙ sym (total_at_lem 1 (omega arith)))
