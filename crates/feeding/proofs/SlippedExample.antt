-- Worked by computation: a gyro X that turns at 480 °/s throughout, with an unfit datagram before its first fit one, an unfit run of 16 samples from one fit
-- datagram to the next and one of 17. The premises of 2.5's promise can be met; the total behind the 16 samples isn't marked and stands for the true
-- change; the one behind the 17 is marked, and has in truth slipped by 2 ^ 24 steps.
-- Assumes nothing.
use Prim.Native.Nat.{ℕ, zero, suc, ◌*◌, ◌^◌, ◌≤◌, ◌<◌}
use mathlib.Core.Path.{◌≡◌, refl, sym, ap, subst, ◌∙◌}
use mathlib.Core.Bool.{Bool, true, false}
use mathlib.Core.List.{List, [], ◌∷◌, ◌++◌, map}
use mathlib.Core.Logic.{inl}
use native.Mathlib.Nat.{suc-mul}
use native.Mathlib.Omega.{arith}
use lib.IntN.{ℤ, pos, negsuc, nat_abs, ◌-ℤ◌}
use lib.ListN.{take, drop, get_or}
use Rattle.integers.specs.Bytes.{are_bytes, big_endian, twos_complement, signed_bytes}
use Rattle.integers.specs.Folding.{fold}
use Rattle.integers.specs.Rounding.{floor}
use Rattle.integers.proofs.Buffers.{get_or_map}
use Rattle.integers.proofs.Parts.{parts_apart, nat_abs_parts, sub_parts}
use Rattle.crc.specs.Check.{stim300, shift, shifts, byte_step, register, padding, covered, check_of, check32}
use Rattle.setup.specs.Layout.{parts_of, row_at, parts_at, groups_carried}
use Rattle.setup.specs.Sensor.{rate_of, unit_of, sensor_of}
use Rattle.setup.specs.Setup.{setup_rules, ruling_on, length_of}
use Rattle.setup.specs.declared.Setup.{Setup}
use Rattle.wire.specs.Fields.{fields_of_part, contents_of, fields_of}
use Rattle.acceptance.specs.Acceptable.{check_right, ending_right, acceptable_in, acceptable}
use Rattle.gaps.specs.Gaps.{elapsed}
use Rattle.motion.specs.Status.{unfit}
use Rattle.motion.specs.Totals.{Sighting, no_axis, total_of, total_at, difference, fit_step, axis_step, kept_step, group_step, stepped, kept_by, after, reading_of}
use Rattle.motion.specs.declared.Total.{Total}
use Rattle.doubt.specs.Doubt.{added, sum_with, marks, fit_doubt, unfit_doubt, doubt_step, kept_doubt, gyro_step, marks_of, mark_at}
use Rattle.doubt.specs.Slipped.{none, samples_over, AllUnfit, SampledTurn, TrueAngles, SampledAngles, FirstFit}
use Rattle.doubt.proofs.TrueAngle.{up_to, sampled_angles}
use Rattle.scan.specs.Scan.{scan_from, scan}
use Rattle.scan.specs.Front.{front}
use Rattle.scan.specs.Calls.{Report}
use Rattle.scan.specs.Carry.{told}
use Rattle.scan.specs.Stream.{outcome, stream, Among}
use Rattle.search.specs.Search.{is_datagram, verdict_of}
use Rattle.search.proofs.Datagrams.{among_found}
use Rattle.scan.proofs.CarryLaws.{length_told}
use Rattle.history.specs.History.{no_history, history_next}
use Rattle.session.specs.declared.Session.{Session}
use Rattle.feeding.specs.declared.Datagram.{Datagram}
use Rattle.feeding.specs.Feed.{datagram_with, history_after, tell, consumer, no_datagram}
use Rattle.feeding.specs.Promises.{stream_of, FedInTurn, answers_for, sightings, Stands, counted}
use Rattle.feeding.proofs.Demands.{demand2, doubtful_totals}
use Rattle.std.specs.Prelude.{Ok}

-- the gyro alone, integrated, with shift 21, at a datagram each sample, of which most are lost
abbrev example : Setup
example = record { rate = 2000; identifier = 0x90; termination = 0; units = 3 ∷ 0 ∷ 0 ∷ []; shifts = 21 ∷ 0 ∷ 0 ∷ [] }

accepted_example : ruling_on example ≡ Ok tt
unfolding ruling_on setup_rules row_at parts_at groups_carried parts_of
accepted_example = refl

-- a datagram: the reading of X, zeros for Y and Z, the status byte, the counter, latency 0, the check
abbrev datagram : List ℕ → ℕ → ℕ → List ℕ → List ℕ
datagram x status counter check = 0x90 ∷ (x ++ (0 ∷ 0 ∷ 0 ∷ 0 ∷ 0 ∷ 0 ∷ status ∷ counter ∷ 0 ∷ 0 ∷ check))

-- at the samples 0, 150, 158, 166, 175, 183 and 184; X is unfit at the first, the third and the fifth, and what these carry isn't its angle
abbrev first : List ℕ
first = datagram (0x12 ∷ 0x34 ∷ 0x56 ∷ []) 0x09 100 (0x27 ∷ 0x29 ∷ 0xE9 ∷ 0xD2 ∷ [])

abbrev second : List ℕ
second = datagram (0x7F ∷ 0xFF ∷ 0xF8 ∷ []) 0x00 250 (0x4D ∷ 0xD2 ∷ 0xD4 ∷ 0xBE ∷ [])

abbrev third : List ℕ
third = datagram (0x12 ∷ 0x34 ∷ 0x56 ∷ []) 0x09 2 (0x90 ∷ 0x68 ∷ 0xA7 ∷ 0xBA ∷ [])

abbrev fourth : List ℕ
fourth = datagram (0xFA ∷ 0xE1 ∷ 0x3F ∷ []) 0x00 10 (0x5A ∷ 0xEF ∷ 0xE5 ∷ 0x52 ∷ [])

abbrev fifth : List ℕ
fifth = datagram (0x12 ∷ 0x34 ∷ 0x56 ∷ []) 0x09 19 (0x5A ∷ 0xB7 ∷ 0xCE ∷ 0x3B ∷ [])

abbrev sixth : List ℕ
sixth = datagram (0x7D ∷ 0x70 ∷ 0x9B ∷ []) 0x00 27 (0xBF ∷ 0x51 ∷ 0xE0 ∷ 0xBF ∷ [])

abbrev seventh : List ℕ
seventh = datagram (0x85 ∷ 0x1E ∷ 0xB0 ∷ []) 0x00 28 (0xCF ∷ 0x89 ∷ 0xB3 ∷ 0x7D ∷ [])

abbrev datagrams : List (List ℕ)
datagrams = first ∷ second ∷ third ∷ fourth ∷ fifth ∷ sixth ∷ seventh ∷ []

-- an identifier stands alone behind the first, and the sixth is cut in two
abbrev pieces : List (List ℕ)
pieces = (first ++ 0x90 ∷ second ++ third) ∷ (fourth ++ fifth ++ take 5 sixth) ∷ (drop 5 sixth ++ seventh) ∷ []

scan_example : (scan (verdict_of example) (stream_of example pieces)).datagrams ≡ datagrams
unfolding
    stream outcome scan_from front is_datagram are_bytes acceptable acceptable_in check_right ending_right length_of row_at parts_of big_endian check32 check_of stim300
    covered padding register byte_step shifts shift
scan_example = refl

among_example : Among (is_datagram example) (stream_of example pieces) datagrams
among_example =
    let v = stream_of example pieces in
    subst (Among (is_datagram example) v) scan_example (among_found example accepted_example v)

-- ---- the true angles, with 100 fine units to one output step: 50,331,648 more in each sample, the most that is asked of them

angle : ℕ → ℤ
angle m = pos (m * 50331648) -ℤ pos 6710887200

abbrev samples_at : List ℕ
samples_at = 0 ∷ 150 ∷ 158 ∷ 166 ∷ 175 ∷ 183 ∷ 184 ∷ []

abbrev angles : List ℤ
angles = negsuc 6710887199 ∷ pos 838860000 ∷ pos 1241513184 ∷ pos 1644166368 ∷ pos 2097151200 ∷ pos 2499804384 ∷ pos 2550136032 ∷ []

angles_sampled : map angle samples_at ≡ angles
unfolding angle
angles_sampled = refl

in_each : (m : ℕ) → 100 * nat_abs (angle (suc m) -ℤ angle m) ≤ 50331648 * 100
unfolding angle
in_each m =
    let x = pos (suc m * 50331648) in
    let y = pos (m * 50331648) in
    let k = pos 6710887200 in
    let z = (x -ℤ k) -ℤ (y -ℤ k) in
    omega (
      arith,
      suc-mul m 50331648,
      sub_parts x k,
      sub_parts y k,
      sub_parts (x -ℤ k) (y -ℤ k),
      nat_abs_parts z,
      parts_apart z,
    )

-- each reading of a fit one is its angle over 100 rounded down and folded, and the counters go with the samples
sampled_example : SampledAngles 100 (counted example 0 datagrams) angle samples_at
unfolding angle reading_of fold twos_complement unfit fields_of fields_of_part parts_at row_at parts_of signed_bytes big_endian
sampled_example = record { one_each = refl; turns = turn; carried = carry }
  where
    turn : (i : ℕ) → suc i < 7
        → SampledTurn 100 (get_or (counted example 0 datagrams) i none).counter (get_or (counted example 0 datagrams) (suc i) none).counter angle
        (get_or samples_at i 0) (get_or samples_at (suc i) 0)
    turn zero h = record { some = omega arith; few = omega arith; counted = refl; bounded = λ m l k. in_each m }
    turn (suc zero) h = record { some = omega arith; few = omega arith; counted = refl; bounded = λ m l k. in_each m }
    turn (suc (suc zero)) h = record { some = omega arith; few = omega arith; counted = refl; bounded = λ m l k. in_each m }
    turn (suc (suc (suc zero))) h = record { some = omega arith; few = omega arith; counted = refl; bounded = λ m l k. in_each m }
    turn (suc (suc (suc (suc zero)))) h = record { some = omega arith; few = omega arith; counted = refl; bounded = λ m l k. in_each m }
    turn (suc (suc (suc (suc (suc zero))))) h = record { some = omega arith; few = omega arith; counted = refl; bounded = λ m l k. in_each m }
    turn (suc (suc (suc (suc (suc (suc i)))))) h = absurd (omega arith)

    carry : (i : ℕ) → i < 7 → (get_or (counted example 0 datagrams) i none).sighting.fit ≡ true
        → (get_or (counted example 0 datagrams) i none).sighting.reading ≡ reading_of 100 (angle (get_or samples_at i 0))
    carry zero h f = absurd (let z : ◌≡◌ {A = ℕ} 0 1 = cc in omega arith)
    carry (suc zero) h f = refl
    carry (suc (suc zero)) h f = absurd (let z : ◌≡◌ {A = ℕ} 0 1 = cc in omega arith)
    carry (suc (suc (suc zero))) h f = refl
    carry (suc (suc (suc (suc zero)))) h f = absurd (let z : ◌≡◌ {A = ℕ} 0 1 = cc in omega arith)
    carry (suc (suc (suc (suc (suc zero))))) h f = refl
    carry (suc (suc (suc (suc (suc (suc zero)))))) h f = refl
    carry (suc (suc (suc (suc (suc (suc (suc i))))))) h f = absurd (omega arith)

true_example : TrueAngles 100 (counted example 0 datagrams) angles
true_example =
    subst (TrueAngles 100 (counted example 0 datagrams)) angles_sampled
    (sampled_angles 100 angle (counted example 0 datagrams) samples_at sampled_example)

-- ---- the marks: none up to the sum of 16, and from the sum of 17 on

marks_example :
    map (λ (o : Datagram). mark_at o.doubtful 0) (answers_for example datagrams) ≡ false ∷ false ∷ false ∷ false ∷ false ∷ true ∷ true ∷ []
unfolding
    told tell history_after history_next datagram_with gyro_step kept_doubt doubt_step fit_doubt unfit_doubt marks sum_with added marks_of elapsed stepped group_step kept_step
    axis_step fit_step difference fold twos_complement signed_bytes kept_by contents_of sensor_of rate_of unit_of unfit fields_of fields_of_part parts_at row_at parts_of big_endian
marks_example = refl

fits_example : map (λ (s : Sighting). s.fit) (sightings example 0 0 datagrams) ≡ false ∷ true ∷ false ∷ true ∷ false ∷ true ∷ true ∷ []
unfolding unfit fields_of fields_of_part parts_at row_at parts_of big_endian
fits_example = refl

-- the second is the first fit one
only_second : (k : ℕ) → FirstFit (counted example 0 datagrams) k → k ≡ 1
unfolding unfit fields_of fields_of_part parts_at row_at parts_of big_endian
only_second zero f = absurd (let e = f.fit in let z : ◌≡◌ {A = ℕ} 0 1 = cc in omega arith)
only_second (suc zero) f = refl
only_second (suc (suc k)) f = absurd (let e = f.none_before 1 (omega arith) in let z : ◌≡◌ {A = ℕ} 0 1 = cc in omega arith)

module _ {os : List Datagram} {rs : List Report} {t : Session} (c : FedInTurn example pieces os rs t) where
  mark_at_lem : (i : ℕ) → i < 7 → mark_at (get_or os i no_datagram).doubtful 0 ≡ get_or (false ∷ false ∷ false ∷ false ∷ false ∷ true ∷ true ∷ []) i false
  mark_at_lem i h =
      ap (λ (l : List Datagram). mark_at (get_or l i no_datagram).doubtful 0) ((demand2 example accepted_example).handed_out c datagrams among_example)
      ∙ sym (get_or_map (λ (o : Datagram). mark_at o.doubtful 0) (answers_for example datagrams) i no_datagram false (omega (arith, length_told (consumer example) no_history datagrams)))
      ∙ ap (λ (l : List Bool). get_or l i false) marks_example

  -- behind 16 samples the total isn't marked, and stands for the true change since the second datagram, the first fit one
  example_stands : Stands example 0 0 100 (pos 838860000) (pos 1644166368) (get_or os 3 no_datagram)
  example_stands =
      let r =
      (doubtful_totals example accepted_example).unmarked c datagrams among_example refl 0 (omega arith) 3 (omega arith)
      (ap (λ (bs : List Bool). get_or bs 3 false) fits_example) (mark_at_lem 3 (omega arith))
      100 (omega arith) (take 4 angles) (up_to 100 4 (counted example 0 datagrams) angles true_example)
      in
      subst (λ (k : ℕ). Stands example 0 0 100 (get_or (take 4 angles) k (pos 0)) (pos 1644166368) (get_or os 3 no_datagram)) (only_second r.0 r.2) r.3

  -- the total at each place, by the rule for one axis
  total_at_lem :
      (i : ℕ) → i < 7 → total_at (get_or os i no_datagram).totals 0 0 ≡ total_of (after no_axis (take (suc i) (sightings example 0 0 datagrams)))
  unfolding groups_carried parts_at row_at parts_of
  total_at_lem i h = (demand2 example accepted_example).totals c datagrams among_example i h 0 0 (omega arith) (omega arith)

  -- 8,053,063 steps behind the 16 samples; behind the 17 the true change is 16,609,443 steps, and the marked total that less 2 ^ 24
  example_totals : ((total_at (get_or os 3 no_datagram).totals 0 0).steps ≡ pos 8053063) × ((total_at (get_or os 5 no_datagram).totals 0 0).steps ≡ negsuc 167772)
  unfolding after axis_step fit_step difference fold twos_complement unfit fields_of fields_of_part parts_at row_at parts_of signed_bytes big_endian
  example_totals = (ap (λ (a : Total). a.steps) (total_at_lem 3 (omega arith)), ap (λ (a : Total). a.steps) (total_at_lem 5 (omega arith)))

  example_slipped : nat_abs ((total_at (get_or os 5 no_datagram).totals 0 0).steps -ℤ (floor (get_or angles 5 (pos 0)) 100 -ℤ floor (get_or angles 1 (pos 0)) 100)) ≡ 2 ^ 24
  example_slipped = ap (λ (z : ℤ). nat_abs (z -ℤ (floor (get_or angles 5 (pos 0)) 100 -ℤ floor (get_or angles 1 (pos 0)) 100))) example_totals.1

  -- the mark behind the 17 samples is true by the promise too, read off the datagrams
  example_marked : mark_at (get_or os 5 no_datagram).doubtful 0 ≡ true
  unfolding samples_over AllUnfit elapsed unfit fields_of fields_of_part parts_at row_at parts_of big_endian
  example_marked =
      let ds = counted example 0 datagrams in
      ((doubtful_totals example accepted_example).marked c datagrams among_example refl 0 (omega arith) 5 (omega arith)).1
      (record {
        before = take 3 ds;
        earlier = get_or ds 3 none;
        between = get_or ds 4 none ∷ [];
        later = get_or ds 5 none;
        behind = [];
        parts = refl;
        fit_earlier = refl;
        unfit_between = (refl, tt);
        fit_later = refl;
        far = inl (omega arith);
      })
