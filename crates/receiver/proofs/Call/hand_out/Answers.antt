-- `Call::hand_out` meets its contract. Assumes nothing.
use Prim.Native.Nat.{ℕ}
use mathlib.Core.Path.{◌≡◌}
use mathlib.Core.List.{[]}
use native.Mathlib.Omega.{arith}
use Rattle.setup.specs.Sensor.{sensor_of}
use Rattle.scan.specs.Scan.{finds}
use Rattle.history.specs.History.{awaits_first, gap_next, advanced}
use Rattle.session.specs.declared.Session.{Session}
use Rattle.feeding.specs.declared.Answer.TheVariants.{Datagram as HandedOut}
use Rattle.feeding.specs.declared.Datagram.{Datagram}
use Rattle.feeding.specs.declared.Reply.{Reply}
use Rattle.history.proofs.HistoryLaws.{advanced_next}
use Rattle.feeding.specs.Feed.{datagram_with, history_after, tell}
use Rattle.feeding.specs.CallParts.{contents_with, reply_after}
use Rattle.feeding.proofs.CallParts.{contents_read}
use Rattle.receiver.proofs.Calls.{room}
use Rattle.receiver.proofs.Call.hand_out.Goals as goal

-- a datagram's answer, of the session and the datagram in it
handed :
    {taken : ℕ} {s t : Session} {o p : Datagram} → s ≡ t → o ≡ p
    → ◌≡◌ {A = Reply} (record { answer = HandedOut; taken = taken; session = s; datagram = o })
    (record { answer = HandedOut; taken = taken; session = t; datagram = p })
handed e f = rw (e, f)

pub returns : goal.returns
unfolding reply_after history_after tell
returns c =
    let a = c.args.self.now in
    let d = c.args.d.now in
    let reply = reply_after a.session c.args.taken (finds c.args.passed d []) in
    let fields = c.fields_of-fields.result in
    let gap : c.gap_before-gap.result ≡ gap_next a.sensor.rate a.session.history fields.counter = c.gap_before-gap.ensures in
    let stepped :
    c.advance-history.result ≡ advanced a.sensor.rate c.kept_groups-kept.result a.session.history c.readings-readings.result fields.statuses fields.counter =
    c.advance-history.ensures in
    let made :
    c.datagram_of-datagram.result
    ≡ datagram_with a.sensor c.gap_before-gap.result (contents_with c.readings-readings.result fields) c.advance-history.result =
    c.datagram_of-datagram.ensures in
    let moved :
    c.advance-history.result ≡ history_after (sensor_of a.session.setup) (awaits_first a.session.history) a.session.history d =
    rw (
      ← a.described,
      stepped,
      advanced_next a.sensor.rate _ a.session.history _ _ _ (room a 0 (omega arith)).datagrams,
      c.kept_groups-kept.ensures,
      c.fields_of-fields.ensures,
      c.readings-readings.ensures,
    ) in
    let behind : c.session_behind-after.result ≡ reply.session = rw (c.session_behind-after.ensures, moved) in
    let told : c.datagram_of-datagram.result ≡ reply.datagram =
    rw (made, moved, gap, c.fields_of-fields.ensures, c.readings-readings.ensures, ← a.described, contents_read a.sensor.row d) in
    handed {taken = c.args.taken} behind told
