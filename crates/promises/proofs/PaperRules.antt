-- The rules say what the paper says. Assumes nothing.
use Prim.Native.Nat.{ℕ, zero, suc, ◌+◌, ◌-◌, ◌^◌, ◌≤◌, ◌<◌}
use mathlib.Core.Bool.{true, cond}
use mathlib.Core.List.{List, [], ◌∷◌, ◌++◌}
use mathlib.Core.Option.{none, some}
use mathlib.Core.Path.{◌≡◌, refl, sym, ap, ap₂, ◌∙◌, subst}
use native.Mathlib.Omega.{arith}
use lib.Dec.{eqb}
use lib.IntN.{ℤ, pos, ◌+ℤ◌, ◌-ℤ◌, ◌*ℤ◌}
use lib.ListN.{length, take, drop, get_or, length-drop}
use lib.Seq.{length-take-le, take_at, drop_at, drop-cons}
use Rattle.integers.specs.Bytes.{AllBytes}
use Rattle.integers.specs.Folding.{fold}
use Rattle.integers.specs.Ranges.{in_reading}
use Rattle.integers.proofs.Booleans.{and_true}
use Rattle.integers.proofs.Bytes.{bytes_take, bytes_drop, big_endian_injective, all_are_bytes}
use Rattle.integers.proofs.Values.{in_bytes_length, in_bytes_bytes}
use Rattle.integers.proofs.Folding.{fold_range, fold_congruent}
use Rattle.integers.proofs.Parts.{parts_ext, add_parts, sub_parts, mul_pos_part, mul_neg_part}
use Rattle.integers.proofs.Ranges.{range_in_reading}
use Rattle.integers.proofs.Rounding.{floor_not_above, floor_greatest}
use Rattle.crc.specs.Check.{check32}
use Rattle.setup.specs.Layout.{Entry, entry, table, carrying, bytes, parts_of, layout_of, row_at, listing_row}
use Rattle.setup.specs.Setup.{setup_number, terminated, length_of}
use Rattle.setup.specs.AcceptedSetup.{line_of_table, PassesNine}
use Rattle.setup.specs.declared.Setup.{Setup}
use Rattle.setup.specs.declared.Row.{Row}
use Rattle.setup.proofs.Layouts.{EachEntry, table_adds_up, before_range, length_parts}
use Rattle.setup.proofs.NineLaws.{accepted_nine, nine_accepted}
use Rattle.setup.proofs.Refusals.{listed_length}
use Rattle.setup.proofs.Rows.{listed_row_at}
use Rattle.setup.proofs.Rules.{number_accepted}
use Rattle.wire.specs.Fields.{fields_of, besides_readings}
use Rattle.wire.proofs.FieldBytes.{absent_group, absent_temperatures, absent_aux}
use Rattle.acceptance.specs.Acceptable.{acceptable, completed}
use Rattle.acceptance.proofs.Completed.{check_sent, check_value, laid, completed_by, completed_acceptable, acceptable_long, acceptable_completed}
use Rattle.made_datagram.specs.Making.{field_values, made_datagram}
use Rattle.made_datagram.proofs.Fifteen as fifteen
use Rattle.made_datagram.proofs.RoundTrips.{made_bytes_lem, made_acceptable}
use Rattle.made_datagram.proofs.WorkedExample.{worked}
use Rattle.gaps.proofs.Gaps.{elapsed_back, elapsed_range, missed_steps, off_step, first_none, trigger_none}
use Rattle.motion.proofs.AcceptedSetup.{integrated_kept, other_not_kept}
use Rattle.motion.specs.Judgements.{judgement_of}
use Rattle.motion.proofs.Status.{unfit_all, unfit_named, unfit_none_flagged, fit_unnamed, fit_clear}
use Rattle.motion.proofs.Judged.{judged_fit, judged_integrity, judged_start_up, judged_error, judged_overload, judged_applies, fit_applies, judged_cases, judged_zero}
use Rattle.doubt.proofs.DoubtLaws.{doubt_rules}
use Rattle.doubles.proofs.Starred.{starred}
use Rattle.shown_line.proofs.Thirteen.{inside_passes, passes_inside}
use Rattle.search.specs.Search.{is_datagram}
use Rattle.search.proofs.Datagrams.{datagram_parts, datagram_first}
use Rattle.printed_value.proofs.ValueLaws.{prints, prints_sign, prints_only}
use Rattle.printed_value.proofs.WorkedValues.{worked_values_lem}
use Rattle.promises.specs.PaperRules.{MadeUp, PaperRules}
use Rattle.std.specs.Prelude.{Option, None, Some}

-- ---- the row of a line of the table

some_row : (f : Option Row) {r : Row} → listing_row f ≡ some r → f ≡ Some r
some_row (Some q) {r} e = let z : q ≡ r = cc in ap Some z
some_row None e = absurd (let z : ◌≡◌ {A = ℕ} 0 1 = cc in omega arith)

entry_at : (P : Entry → Type 0) (es : List Entry) → EachEntry P es → (k : ℕ) → k < length es → P (get_or es k (entry 0 [] 0))
entry_at P [] h k l = absurd (omega arith)
entry_at P (e ∷ es) h zero l = h.0
entry_at P (e ∷ es) h (suc k) l = entry_at P es h.1 k (omega arith)

module _ (u : Setup) (e : setup_number u ≡ none) (k : ℕ) (l : k < length table) (same : u.identifier ≡ (line_of_table k).identifier) where
  abbrev row : Row
  row = carrying (line_of_table k).carries

  listed : row_at u.identifier ≡ Some row
  listed = ap row_at same ∙ some_row (row_at (line_of_table k).identifier) (listed_row_at k l)

  before_check_lem : bytes (parts_of row) ≡ (line_of_table k).before
  before_check_lem = entry_at (λ (x : Entry). bytes (parts_of (carrying x.carries)) ≡ x.before) table table_adds_up k l

  length_is : length_of u ≡ (line_of_table k).before + 4 + cond (eqb u.termination 1) 2 0
  length_is = listed_length u listed ∙ length_parts row (terminated u) ∙ ap (λ (n : ℕ). n + 4 + cond (eqb u.termination 1) 2 0) before_check_lem

-- ---- acceptable datagrams

module _ (u : Setup) (e : setup_number u ≡ none) where
  nine : PassesNine u
  nine = accepted_nine u e

  abbrev here : Row
  here = row u e nine.line nine.listed nine.identifier

  its_row : row_at u.identifier ≡ Some here
  its_row = listed u e nine.line nine.listed nine.identifier

  its_before : bytes (parts_of here) ≡ (line_of_table nine.line).before
  its_before = before_check_lem u e nine.line nine.listed nine.identifier

  long_enough : (14 ≤ bytes (parts_of here)) × (bytes (parts_of here) ≤ 59)
  long_enough = before_range here

  made_up : (d : List ℕ) → is_datagram u d ≡ true → MadeUp u d
  unfolding check32
  made_up d good =
      let parts = datagram_parts u d good in
      let n = bytes (parts_of here) in
      let long = acceptable_long u here its_row nine.termination d parts.0 parts.1 in
      let body = take (n - 1) (drop 1 d) in
      let front = u.identifier ∷ body in
      let more : n ≡ suc (n - 1) = omega arith in
      let first : take n d ≡ front =
      ap₂ take more (drop-cons d 0 0 (omega arith)) ∙ ap (λ (b : ℕ). b ∷ body) (datagram_first u d good) in
      let bytes-only : AllBytes front = subst AllBytes first (bytes_take n parts.0) in
      record {
        line = nine.line;
        listed = nine.listed;
        identifier = nine.identifier;
        body = body;
        check = check_sent front;
        whole =
            acceptable_completed u here its_row nine.termination d parts.0 parts.1
            ∙ ap (completed (laid u here its_row nine.termination)) first
            ∙ completed_by here (terminated u) front;
        bytes = parts.0;
        before = omega (arith, length-take-le (n - 1) (drop 1 d) (omega (arith, length-drop 1 d)), its_before, long_enough.0);
        four = in_bytes_length 4 (check32 front);
        right = check_value front bytes-only;
      }

  module _ (d : List ℕ) (m : MadeUp u d) where
    abbrev front : List ℕ
    front = u.identifier ∷ m.body

    abbrev tail : List ℕ
    tail = cond (eqb u.termination 1) (0x0D ∷ 0x0A ∷ []) []

    abbrev its : Row
    its = row u e m.line m.listed m.identifier

    behind_front : drop (length front) d ≡ m.check ++ tail
    behind_front = ap (drop (length front)) m.whole ∙ drop_at front (m.check ++ tail) (length front) refl

    front_bytes : AllBytes front
    front_bytes =
        subst AllBytes (ap (take (length front)) m.whole ∙ take_at front (m.check ++ tail) (length front) refl) (bytes_take (length front) m.bytes)

    check_bytes_lem : AllBytes m.check
    check_bytes_lem =
        subst AllBytes (ap (take 4) behind_front ∙ take_at m.check tail 4 m.four) (bytes_take 4 (bytes_drop (length front) m.bytes))

    check_is : m.check ≡ check_sent front
    unfolding check32
    check_is =
        big_endian_injective m.check (check_sent front) check_bytes_lem (in_bytes_bytes 4 (check32 front)) (m.four ∙ sym (in_bytes_length 4 (check32 front)))
        (m.right ∙ sym (check_value front front_bytes))

    completed_is : d ≡ completed (layout_of its (terminated u)) front
    completed_is = m.whole ∙ ap (λ (c : List ℕ). front ++ (c ++ tail)) check_is ∙ sym (completed_by its (terminated u) front)

    datagram_made : is_datagram u d ≡ true
    unfolding is_datagram
    datagram_made =
        and_true (all_are_bytes d m.bytes)
        (ap (acceptable u) completed_is
        ∙ completed_acceptable u its (listed u e m.line m.listed m.identifier) nine.termination front front_bytes
        (m.before ∙ sym (before_check_lem u e m.line m.listed m.identifier)) refl)

  -- one is written for any values
  some_datagram : (d : List ℕ) × (is_datagram u d ≡ true)
  unfolding is_datagram
  some_datagram =
      let v = field_values (besides_readings (fields_of 0 [])) in
      let d = made_datagram u [] v in (
        d,
        and_true (all_are_bytes d (made_bytes_lem u here its_row nine.termination [] v)) (made_acceptable u here its_row nine.termination [] v),
      )

-- ---- folding

folded : (z : ℤ) → (in_reading (fold z) ≡ true) × ((k : ℤ) × (z ≡ fold z +ℤ (k *ℤ pos (2 ^ 24))))
folded z =
    let c = fold_congruent z in
    let k = pos c.more -ℤ pos c.less in (
      range_in_reading (fold z) (fold_range z),
      (
        k,
        parts_ext z (fold z +ℤ (k *ℤ pos 16777216))
            (omega (
              arith,
              add_parts (fold z) (k *ℤ pos 16777216),
              sub_parts (pos c.more) (pos c.less),
              mul_pos_part k 16777216,
              mul_neg_part k 16777216,
              c.same,
            )),
      ),
    )

pub paper_rules : PaperRules
paper_rules =
    record {
      accepted = accepted_nine;
      accepts = nine_accepted;
      length_of_lem = length_is;
      absent_group = absent_group;
      absent_temperatures = absent_temperatures;
      absent_aux = absent_aux;
      made_up = made_up;
      acceptable = datagram_made;
      some_datagram = some_datagram;
      unfit_all = unfit_all;
      unfit_named = unfit_named;
      unfit_none_flagged = unfit_none_flagged;
      fit_unnamed = fit_unnamed;
      fit_clear = fit_clear;
      judged_fit = judged_fit;
      judged_integrity = judged_integrity;
      judged_start_up = judged_start_up;
      judged_error = judged_error;
      judged_overload = judged_overload;
      judged_applies = judged_applies;
      fit_applies = fit_applies;
      judged_cases = judged_cases;
      judged_absent = λ i d g h none axis. ap (λ (status : ℕ). judgement_of status axis) (absent_group i d g h none).1 ∙ judged_zero axis;
      elapsed_samples = λ previous counter p c. let r = elapsed_range previous counter in (r.0, r.1, elapsed_back previous counter p c);
      missed = λ rate previous counter n h k q. missed_steps rate previous counter h n k q;
      off_step = λ rate previous counter h n. off_step rate previous counter h n;
      first_missed = first_none;
      trigger_missed = trigger_none;
      kept = λ u e group h q. integrated_kept u (number_accepted u e) group h q;
      not_kept = λ u e group n. other_not_kept u (number_accepted u e) group n;
      doubt = doubt_rules;
      inside = inside_passes;
      passes = passes_inside;
      inside_widths = fifteen.inside_passes;
      passes_widths = fifteen.passes_inside;
      worked = worked;
      printed = prints;
      printed_only = λ n shift places p. prints_only n shift places p;
      printed_sign = λ n shift places p. prints_sign n shift places p;
      printed_cases = worked_values_lem;
      not_above = floor_not_above;
      greatest = floor_greatest;
      folded = folded;
      starred = starred;
    }
