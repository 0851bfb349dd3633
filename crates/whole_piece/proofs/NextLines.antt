-- The line of the next datagram: 13 doesn't refuse it, and it is at most 307 bytes long. Assumes nothing.
use Prim.Native.Nat.{ℕ, suc, ◌+◌, ◌*◌, ◌-◌, ◌/◌, ◌%◌, ◌^◌, ◌≤◌, ◌<◌}
use mathlib.Core.Option.{none, some}
use mathlib.Core.Path.{◌≡◌, refl, sym, ap, subst}
use mathlib.Core.Bool.{Bool, true, false, cond, ◌||◌}
use mathlib.Core.List.{List, [], ◌∷◌, ◌++◌}
use native.Mathlib.Nat.{div-le_self, mul-le-mul_right}
use native.Mathlib.Numerals.{add-one}
use native.Mathlib.Omega.{arith}
use lib.Dec.{eqb}
use lib.IntN.{pos, nat_abs}
use lib.ListN.{length, get_or}
use Rattle.integers.proofs.Ranges.{range_in_reading}
use Rattle.setup.specs.Setup.{ruling_on, length_of}
use Rattle.setup.specs.declared.Setup.{Setup}
use Rattle.setup.proofs.Refusals.{accepted_length}
use Rattle.wire.specs.Fields.{Contents, fields_of}
use Rattle.wire.proofs.FieldRanges.{Fitting, fields_fit}
use Rattle.gaps.specs.Gaps.{datagrams, gap_with, step_at, elapsed, missed_after, missed_at, gap_at}
use Rattle.gaps.specs.declared.Gap.{Gap}
use Rattle.gaps.proofs.Gaps.{elapsed_range}
use Rattle.motion.specs.Totals.{groups_kept, totals_of}
use Rattle.motion.specs.declared.Total.{Total}
use Rattle.motion.proofs.NineAxes.{total_at_lem}
use Rattle.shown_line.specs.ShownLine.{shown_text, longest_line, outside}
use Rattle.text.specs.TextLine.{shown_by}
use Rattle.shown_line.proofs.Answers.{inside}
use Rattle.shown_line.proofs.Thirteen.{passes_inside}
use Rattle.shown_line.proofs.Longest.{MissedFits, shown_longest}
use Rattle.scan.specs.Scan.{Scanned, passing, handing, holding}
use Rattle.scan.specs.Carry.{steps, told}
use Rattle.search.specs.Search.{is_datagram, limits_of}
use Rattle.search.proofs.Datagrams.{datagram_parts}
use Rattle.history.specs.History.{awaits_first, history_next}
use Rattle.admission.specs.Admission.{kept_right}
use Rattle.history.specs.declared.History.{History}
use Rattle.admission.proofs.KeptLaws.{kept_axes, kept_step_lem}
use Rattle.feeding.specs.Feed.{history_after, datagram_with, consumer}
use Rattle.feeding.proofs.BySetup.{after_datagram, told_datagram}
use Rattle.whole_piece.specs.Lines.{line_of, lines_after}
use Rattle.whole_piece.specs.NextLines.{next_line, text_of}
use Rattle.std.specs.Prelude.{Ok}

-- ---- a gap is a number of at most 256, or none

gap_fits : (rate : ℕ) (first : Bool) (previous counter : ℕ) → MissedFits (gap_at rate first previous counter)
unfolding missed_at missed_after
gap_fits rate first previous counter = by (first || eqb rate 0)
  where
    counted : (t : Bool) → MissedFits (gap_with (cond t (some (datagrams ((elapsed previous counter).0 / (step_at rate).0 - 1))) none))
    counted true = omega (arith, (elapsed_range previous counter).1, div-le_self (elapsed previous counter).0 (step_at rate).0)
    counted false = tt

    by : (t : Bool) → MissedFits (gap_with (cond t (some (datagrams 0)) (missed_after (step_at rate) (elapsed previous counter))))
    by true = omega arith
    by false = counted (eqb ((elapsed previous counter).0 % (step_at rate).0) 0)

-- ---- the line

-- few datagrams, of 18 bytes or more each
pub few_of : (u : Setup) → ruling_on u ≡ Ok tt → (n rest : ℕ) → length_of u * n + rest ≤ (limits_of u).session → n < 2 ^ 30
few_of u a n rest h = omega (arith, mul-le-mul_right n (accepted_length u a).0)

module _ (u : Setup) (ok : ruling_on u ≡ Ok tt) (x : History) (d : List ℕ) where
  abbrev inside_it : Contents
  inside_it = fields_of u.identifier d

  abbrev pub next_history : History
  next_history = history_next u.rate (groups_kept u) (awaits_first x) x inside_it.readings inside_it.statuses inside_it.counter

  abbrev pub gap_in : Gap
  gap_in = gap_at u.rate (awaits_first x) x.previous inside_it.counter

  -- the next line, by the fields of the datagram
  pub next_line_lem :
      next_line u x d
      ≡ shown_text (shown_by u) (suc x.datagrams.0) inside_it.counter inside_it.latency gap_in inside_it.readings inside_it.statuses (totals_of next_history.axes)
  unfolding next_line datagram_with fields_of
  next_line_lem = ap (line_of u (suc x.datagrams.0)) (told_datagram u ok (awaits_first x) x d)

  module _ (right : kept_right u x ≡ true) (good : is_datagram u d ≡ true) where
    fits : Fitting inside_it
    fits = fields_fit u.identifier d (datagram_parts u d good).0

    kept_next : kept_right u next_history ≡ true
    kept_next = kept_step_lem u.rate (groups_kept u) (awaits_first x) x inside_it.readings inside_it.statuses inside_it.counter fits.readings right

    -- what is kept is right behind it
    pub right_next : kept_right u (steps (consumer u) x d) ≡ true
    right_next = subst (λ (h : History). kept_right u h ≡ true) (sym (after_datagram u ok (awaits_first x) x d)) kept_next

    counted_next : next_history.datagrams.0 ≡ suc x.datagrams.0
    unfolding history_next
    counted_next = add-one x.datagrams.0

    module _ (few : suc x.datagrams.0 ≤ 2 ^ 30) where
      -- 13 doesn't refuse it
      pub line_inside : outside (suc x.datagrams.0) inside_it.readings (totals_of next_history.axes) ≡ false
      line_inside =
          passes_inside (suc x.datagrams.0) inside_it.readings (totals_of next_history.axes)
          (record {
            fit = λ g k h l. range_in_reading (get_or (get_or inside_it.readings g []) k (pos 0)) (fits.readings g k);
            small =
                λ g k h l.
                omega (
                  arith,
                  ap (λ (t : Total). nat_abs t.steps) (total_at_lem next_history.axes g k h l),
                  (kept_axes (groups_kept u) next_history kept_next g k h l).total,
                  counted_next,
                );
            counted = λ e. omega arith;
          })

      -- and it is short
      pub line_short : length (next_line u x d) ≤ longest_line
      line_short =
          let i = inside (suc x.datagrams.0) inside_it.readings (totals_of next_history.axes) line_inside in
          subst (λ (t : List ℕ). length t ≤ longest_line) (sym next_line_lem)
          (shown_longest (shown_by u) (suc x.datagrams.0) inside_it.counter inside_it.latency gap_in inside_it.readings inside_it.statuses (totals_of next_history.axes)
          (omega arith) fits.counter fits.latency (gap_fits u.rate (awaits_first x) x.previous inside_it.counter) fits.statuses
          i.0 i.1)

-- ---- the lines of what a scan gives

-- none where it finds no datagram
pub text_none : (u : Setup) (k : History) (n : ℕ) (h : List ℕ) → text_of u k (passing n (holding h)) ≡ []
unfolding text_of told lines_after
text_none u k n h = refl

-- of the first of some datagrams, and those of the others
pub lines_more :
    (u : Setup) (k : History) (d : List ℕ) (ds : List (List ℕ))
    → lines_after u k.datagrams.0 (told (consumer u) k (d ∷ ds))
    ≡ next_line u k d ++ lines_after u (steps (consumer u) k d).datagrams.0 (told (consumer u) (steps (consumer u) k d) ds)
unfolding next_line told lines_after history_after history_next
lines_more u k d ds =
    ap (λ (m : ℕ). next_line u k d ++ lines_after u m (told (consumer u) (steps (consumer u) k d) ds)) (sym (add-one k.datagrams.0))

pub text_more : (u : Setup) (k : History) (n : ℕ) (d : List ℕ) (g : Scanned) → text_of u k (passing n (handing d g)) ≡ next_line u k d ++ text_of u (steps (consumer u) k d) g
unfolding text_of
text_more u k n d g = lines_more u k d g.datagrams
