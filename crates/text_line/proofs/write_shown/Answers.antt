use borrow.Author.Rules.{rules}
use mathlib.Core.Path.{◌≡◌, sym, ◌∙◌}
use mathlib.Core.Bool.{false}
use mathlib.Core.List.{List}
use Prim.Native.Nat.{ℕ, ◌≤◌}
use native.Mathlib.Omega.{arith}
use lib.ListN.{length, get_or}
use mir.Syntax.{w8}
use mir.Val.{Fits}
use Rattle.shown_line.specs.ShownLine.{shown_text, outside, longest_line}
use Rattle.shown_line.proofs.Answers.{inside, values_refused, apart_written, put_written}
use Rattle.shown_line.proofs.Longest.{MissedFits, shown_longest}
use Rattle.text_line.proofs.write_shown.Goals as goal
use Rattle.text_line.proofs.write_shown.Goals.{Start}

abbrev line : Start → List ℕ
line s = let v = s.args.values in shown_text s.args.shown v.ordinal.0 v.counter v.latency v.gap v.readings v.statuses v.totals

status_fits : (s : Start) (i : ℕ) → Fits w8 (get_or s.args.values.statuses i 0)
status_fits s i = search rules

-- a line that 13 doesn't refuse is no longer than the longest
short : (s : Start) → let v = s.args.values in outside v.ordinal.0 v.readings v.totals ≡ false → MissedFits v.gap → length (line s) ≤ longest_line
short s i g =
    let v = s.args.values in
    let h = inside v.ordinal.0 v.readings v.totals i in
    shown_longest s.args.shown v.ordinal.0 v.counter v.latency v.gap v.readings v.statuses v.totals
    (omega arith) (omega arith) (omega arith) g (λ k. (status_fits s k).fits) h.0 h.1

pub returns-then-outside : goal.returns-then-outside
returns-then-outside c =
    let v = c.args.values in
    let w = values_refused c.args.buffer.now c.args.shown v.ordinal.0 v.counter v.latency v.gap v.readings v.statuses v.totals (sym c.outside.ensures ∙ c.if-outside.true) in
    record { answer = w.0; written = w.1 }

pub write_apart-requires : goal.write_apart-requires
write_apart-requires c = short (goal.at.write_apart-requires c).Start (sym c.outside.ensures ∙ c.if-outside.false) c.fits_count.ensures

pub returns-then-buffer-longest_line : goal.returns-then-buffer-longest_line
returns-then-buffer-longest_line c =
    let v = c.args.values in
    let w = apart_written c.args.buffer.now c.args.shown v.ordinal.0 v.counter v.latency v.gap v.readings v.statuses v.totals
    (sym c.outside.ensures ∙ c.if-outside.false) (c.write_apart.ensures.answer, c.write_apart.ensures.written) in
    record { answer = w.0; written = w.1 }

pub put_line-requires : goal.put_line-requires
put_line-requires c =
    omega (arith, short (goal.at.put_line-requires c).Start (sym c.outside.ensures ∙ c.if-outside.false) c.fits_count.ensures, c.longest_line.ensures, c.if-buffer-longest_line.false)

pub returns : goal.returns
returns c =
    let v = c.args.values in
    let w = put_written c.args.buffer.now c.args.shown v.ordinal.0 v.counter v.latency v.gap v.readings v.statuses v.totals (sym c.outside.ensures ∙ c.if-outside.false)
    (omega (arith, short (goal.at.returns c).Start (sym c.outside.ensures ∙ c.if-outside.false) c.fits_count.ensures, c.longest_line.ensures, c.if-buffer-longest_line.false)) c.put_line.ensures in
    record { answer = w.0; written = w.1 }
