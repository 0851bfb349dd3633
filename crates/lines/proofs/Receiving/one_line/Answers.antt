-- `Receiving::one_line` meets its contract: the fields, the gap, the history and the totals of the datagram, and its line. Assumes nothing.
use Prim.Native.Nat.{ℕ, suc, ◌+◌, ◌^◌, ◌≤◌, ◌<◌}
use mathlib.Core.Path.{◌≡◌, sym, ap, ◌∙◌}
use native.Mathlib.Numerals.{add-one}
use native.Mathlib.Omega.{arith}
use lib.ListN.{length}
use lib.Seq.{sets}
use Rattle.setup.specs.Setup.{length_of}
use Rattle.setup.specs.Sensor.{sensor_of}
use Rattle.setup.specs.declared.Sensor.{Sensor}
use Rattle.shown_line.specs.declared.Shown.{Shown}
use Rattle.setup.proofs.Refusals.{accepted_length}
use Rattle.setup.proofs.Sensors.{sensor_rate}
use Rattle.wire.specs.Fields.{Contents, contents_of, fields_of}
use Rattle.wire.proofs.FieldBytes.{sensor_fields}
use Rattle.gaps.proofs.AcceptedSetup.{accepted_gap}
use Rattle.motion.specs.Totals.{groups_kept, totals_of}
use Rattle.shown_line.specs.ShownLine.{shown_text, outside, longest_line}
use Rattle.text.specs.TextLine.{shown_by}
use Rattle.search.proofs.Datagrams.{datagram_length}
use Rattle.history.specs.History.{awaits_first, gap_next, history_next, advanced}
use Rattle.history.specs.declared.History.{History}
use Rattle.history.proofs.HistoryLaws.{advanced_next}
use Rattle.feeding.proofs.BySetup.{after_datagram}
use Rattle.whole_piece.specs.NextLines.{next_line}
use Rattle.lines.specs.PieceParts.{next_of}
use Rattle.whole_piece.proofs.NextLines.{few_of, next_history, gap_in, next_line_lem, line_inside, line_short}
use Rattle.lines.proofs.Receiving.one_line.Goals as goal
use Rattle.lines.proofs.Receiving.one_line.Goals.{After-totals_of-totals}

few : (c : After-totals_of-totals) → c.args.progress.history.datagrams.0 < 2 ^ 30
few c = few_of c.args.self.now.session.setup c.requires.ready.accepted c.args.progress.history.datagrams.0 _ c.requires.ready.few

short : (c : After-totals_of-totals) → length (next_line c.args.self.now.session.setup c.args.progress.history c.args.d.now) ≤ longest_line
short c = line_short c.args.self.now.session.setup c.requires.ready.accepted c.args.progress.history c.args.d.now c.requires.ready.kept c.requires.whole (few c)

-- what was looked up is the setup's: the contents of the datagram, and which groups keep totals
inside : (c : After-totals_of-totals) → contents_of c.args.self.now.sensor.row c.args.d.now ≡ fields_of c.args.self.now.session.setup.identifier c.args.d.now
inside c =
    ap (λ (x : Sensor). contents_of x.row c.args.d.now) c.args.self.now.described ∙ sym (sensor_fields c.args.self.now.session.setup c.args.d.now c.requires.ready.accepted)

kept : (c : After-totals_of-totals) → c.args.self.now.shown.kept ≡ groups_kept c.args.self.now.session.setup
unfolding shown_by
kept c = ap (λ (x : Shown). x.kept) c.args.self.now.shows

read_counter : (c : After-totals_of-totals) → c.counter-counter.result ≡ (fields_of c.args.self.now.session.setup.identifier c.args.d.now).counter
read_counter c = c.counter-counter.ensures ∙ ap (λ (x : Contents). x.counter) (inside c)

read_latency : (c : After-totals_of-totals) → c.latency-latency.result ≡ (fields_of c.args.self.now.session.setup.identifier c.args.d.now).latency
read_latency c = c.latency-latency.ensures ∙ ap (λ (x : Contents). x.latency) (inside c)

read_readings : (c : After-totals_of-totals) → c.readings-readings.result ≡ (fields_of c.args.self.now.session.setup.identifier c.args.d.now).readings
read_readings c = c.readings-readings.ensures ∙ ap (λ (x : Contents). x.readings) (inside c)

read_statuses : (c : After-totals_of-totals) → c.statuses-statuses.result ≡ (fields_of c.args.self.now.session.setup.identifier c.args.d.now).statuses
read_statuses c = c.statuses-statuses.ensures ∙ ap (λ (x : Contents). x.statuses) (inside c)

-- the history behind the datagram, its count and its totals
moved : (c : After-totals_of-totals) → c.advance-history.result ≡ next_history c.args.self.now.session.setup c.requires.ready.accepted c.args.progress.history c.args.d.now
moved c =
    let a = c.args in
    let f = fields_of a.self.now.session.setup.identifier a.d.now in
    let stepped :
    c.advance-history.result
    ≡ advanced a.self.now.sensor.rate a.self.now.shown.kept a.progress.history c.readings-readings.result c.statuses-statuses.result c.counter-counter.result =
    c.advance-history.ensures in
    stepped
    ∙ (λ i. advanced (c.args.self.now.described i).rate (kept c i) a.progress.history (read_readings c i) (read_statuses c i) (read_counter c i))
    ∙ advanced_next (sensor_of a.self.now.session.setup).rate (groups_kept a.self.now.session.setup) a.progress.history _ _ _ (omega (arith, few c))
    ∙ ap (λ (n : ℕ). history_next n (groups_kept a.self.now.session.setup) (awaits_first a.progress.history) a.progress.history f.readings f.statuses f.counter)
    (sensor_rate a.self.now.session.setup c.requires.ready.accepted)

ordinal_is : (c : After-totals_of-totals) → c.advance-history.result.datagrams.0 ≡ suc c.args.progress.history.datagrams.0
unfolding history_next
ordinal_is c = ap (λ (h : History). h.datagrams.0) (moved c) ∙ add-one c.args.progress.history.datagrams.0

totals_are :
    (c : After-totals_of-totals)
    → c.totals_of-totals.result ≡ totals_of (next_history c.args.self.now.session.setup c.requires.ready.accepted c.args.progress.history c.args.d.now).axes
totals_are c =
    let told : c.totals_of-totals.result ≡ totals_of c.advance-history.result.axes = c.totals_of-totals.ensures in
    told ∙ ap (λ (h : History). totals_of h.axes) (moved c)

gap_is : (c : After-totals_of-totals) → c.gap_before-gap.result ≡ gap_in c.args.self.now.session.setup c.requires.ready.accepted c.args.progress.history c.args.d.now
gap_is c =
    let a = c.args in
    let h = a.progress.history in
    let told : c.gap_before-gap.result ≡ gap_next a.self.now.sensor.rate h c.counter-counter.result = c.gap_before-gap.ensures in
    told
    ∙ (λ i. gap_next (c.args.self.now.described i).rate h (read_counter c i))
    ∙ accepted_gap a.self.now.session.setup c.requires.ready.accepted (awaits_first h) h.previous _

-- what is written is the next line
lined :
    (c : After-totals_of-totals)
    → shown_text c.args.self.now.shown c.advance-history.result.datagrams.0 c.counter-counter.result c.latency-latency.result c.gap_before-gap.result c.readings-readings.result c.statuses-statuses.result c.totals_of-totals.result
    ≡ next_line c.args.self.now.session.setup c.args.progress.history c.args.d.now
lined c =
    let a = c.args in
    (λ i.
    shown_text (c.args.self.now.shows i) (ordinal_is c i) (read_counter c i) (read_latency c i) (gap_is c i) (read_readings c i)
    (read_statuses c i)
    (totals_are c i))
    ∙ sym (next_line_lem a.self.now.session.setup c.requires.ready.accepted a.progress.history a.d.now)

pub put_behind-used-requires : goal.put_behind-used-requires
put_behind-used-requires c =
    let a = c.args in
    let u = a.self.now.session.setup in
    let R = c.requires.ready in
    let k = (goal.at.put_behind-used-requires c).After-totals_of-totals in
    let long : length a.d.now ≡ length_of u = datagram_length u a.d.now c.requires.whole in
    record {
      inside =
          (λ i. outside (ordinal_is k i) (read_readings k i) (totals_are k i))
          ∙ line_inside u R.accepted a.progress.history a.d.now R.kept c.requires.whole (few k);
      room = omega (arith, ap length (lined k), short k, R.roomy, long, (accepted_length u R.accepted).0);
    }

pub returns : goal.returns
unfolding next_of
returns c =
    let a = c.args in
    let w = c.put_behind-used.ensures in
    let k = (goal.at.returns c).After-totals_of-totals in
    let used = w.place ∙ ap (λ (n : ℕ). a.progress.used + n) (ap length (lined k)) in
    let history = moved k ∙ sym (after_datagram a.self.now.session.setup c.requires.ready.accepted (awaits_first a.progress.history) a.progress.history a.d.now) in
    record {
      answer =
          λ i.
          record {
            history = history i;
            passed = a.progress.passed + a.skipped;
            at = a.progress.at + (a.skipped + length a.d.now);
            used = used i;
          };
      written = w.bytes ∙ ap (sets a.buffer.now a.progress.used) (lined k);
    }
