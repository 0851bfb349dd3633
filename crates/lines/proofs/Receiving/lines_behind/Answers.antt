-- `Receiving::lines_behind` meets its contract: the call that completes the first datagram, its line, and then the rest of the piece. Assumes nothing.
use Prim.Native.Nat.{ℕ, ◌+◌, ◌-◌, ◌≤◌}
use mathlib.Core.Path.{◌≡◌, sym, ap, ◌∙◌, subst}
use mathlib.Core.Bool.{false}
use mathlib.Core.List.{List, [], ◌∷◌}
use native.Mathlib.Omega.{arith}
use lib.ListN.{length}
use lib.Seq.{sets, length-sets}
use Rattle.setup.specs.Setup.{ruling_on}
use Rattle.setup.specs.Sensor.{sensor_of}
use Rattle.text.specs.TextLine.{shown_by}
use Rattle.shown_line.specs.declared.Shown.{Shown}
use Rattle.shown_line.specs.ShownLine.{outside, longest_line}
use Rattle.search.specs.Search.{limits_of}
use Rattle.admission.proofs.PieceRulings.{Admitted, admitted}
use Rattle.feeding.specs.declared.Reply.{Reply}
use Rattle.feeding.specs.Feed.{state_of}
use Rattle.feeding.proofs.EachCall.{not_refused}
use Rattle.whole_piece.specs.Lines.{line_by, line_of, found_in, room_for}
use Rattle.whole_piece.specs.NextLines.{next_line}
use Rattle.lines.specs.PieceParts.{start_of, Ready, scan_at, Answered}
use Rattle.lines.proofs.HeldFirst.{Handed, handed, datagram, turn, first_line_lem, first_inside, first_short, first_setup, first_ready, first_fed, first_answered, waited_answered}
use Rattle.lines.proofs.Receiving.lines_behind.Goals as goal
use Rattle.lines.proofs.Receiving.lines_behind.Goals.{In-Datagram}
use Rattle.std.specs.Prelude.{Ok}

-- the datagram that came back, and the reply with it
given : (c : In-Datagram) → Handed c.args.self.now.session c.args.piece.now (length c.args.buffer.now) c.requires
given c =
    handed c.args.self.now.session c.args.piece.now (length c.args.buffer.now) c.requires
    (ap (λ (r : Reply). r.answer) (sym c.feed-reply.ensures) ∙ c.in-Datagram.is)

replied : (c : In-Datagram) → c.feed-reply.result ≡ turn c.args.self.now.session c.args.piece.now (length c.args.buffer.now) c.requires (given c)
replied c = c.feed-reply.ensures ∙ (given c).reply

-- its line
abbrev line : In-Datagram → List ℕ
line c =
    next_line c.args.self.now.session.setup (state_of c.args.self.now.session).carried
    (datagram c.args.self.now.session c.args.piece.now (length c.args.buffer.now) c.requires (given c))

lined :
    (c : In-Datagram) → let r = c.feed-reply.result in line_by c.args.self.now.shown r.session.history.datagrams.0 r.datagram ≡ line c
lined c =
    let r = c.feed-reply.result in
    ap (λ (x : Shown). line_by x r.session.history.datagrams.0 r.datagram) c.args.self.now.shows
    ∙ ap (λ (r : Reply). line_of c.args.self.now.session.setup r.session.history.datagrams.0 r.datagram) (replied c)
    ∙ first_line_lem c.args.self.now.session c.args.piece.now (length c.args.buffer.now) c.requires (given c)

short : (c : In-Datagram) → length (line c) ≤ longest_line
short c =
    subst (λ (l : List ℕ). length l ≤ longest_line) (first_line_lem c.args.self.now.session c.args.piece.now (length c.args.buffer.now) c.requires (given c))
    (first_short c.args.self.now.session c.args.piece.now (length c.args.buffer.now) c.requires (given c))

-- the rest of the piece can go on behind so many bytes of the buffer
ready :
    (c : In-Datagram) (used room : ℕ) → used ≤ longest_line → room_for (length c.args.piece.now) ≤ room
    → let r = c.feed-reply.result in
    Ready r.session.setup (start_of r.session r.taken used) (length c.args.piece.now) room
ready c used room few wide =
    let p = c.args.piece.now in
    subst (λ (r : Reply). Ready r.session.setup (start_of r.session r.taken used) (length p) room) (sym (replied c))
    (first_ready c.args.self.now.session p (length c.args.buffer.now) c.requires (given c) used room few wide)

pub first_line-used-requires : goal.first_line-used-requires
first_line-used-requires c =
    let a = c.args in
    let g = (goal.at.first_line-used-requires c).In-Datagram in
    record {
      inside =
          subst (λ (r : Reply). outside r.session.history.datagrams.0 (r.datagram.gyro ∷ r.datagram.accelerometer ∷ r.datagram.inclinometer ∷ []) r.datagram.totals ≡ false) (sym (replied g))
          (first_inside a.self.now.session a.piece.now (length a.buffer.now) c.requires (given g));
      room = omega (arith, ap length (lined g), short g, c.requires.enough);
    }

-- what is looked up for the session serves the next one, which is of the same setup
same_setup : (c : In-Datagram) → c.args.self.now.session.setup ≡ c.feed-reply.result.session.setup
same_setup c =
    sym
    (ap (λ (r : Reply). r.session.setup) (replied c)
    ∙ first_setup c.args.self.now.session c.args.piece.now (length c.args.buffer.now) c.requires (given c))

pub invariant_of-rest : goal.invariant_of-rest
invariant_of-rest c =
    let a = c.args.self.now in
    let e = same_setup (goal.at.invariant_of-rest c).In-Datagram in
    record {
      accepted = ap ruling_on (sym e) ∙ a.accepted;
      described = a.described ∙ ap sensor_of e;
      shows = a.shows ∙ ap shown_by e;
    }

pub lines_of-requires : goal.lines_of-requires
lines_of-requires c =
    let a = c.args in
    let g = (goal.at.lines_of-requires c).In-Datagram in
    let f = c.first_line-used in
    let b = a.buffer.now in
    let p = a.piece.now in
    let few : f.result ≤ longest_line = omega (arith, f.ensures.place, ap length (lined g), short g) in
    let bytes : f.new.buffer ≡ sets b 0 (line g) = f.ensures.bytes ∙ ap (sets b 0) (lined g) in
    let wide : room_for (length p) ≤ length f.new.buffer = omega (arith, ap length bytes, length-sets b 0 (line g), c.requires.enough) in
    record {
      ready = ready g _ (length f.new.buffer) (omega (arith, few)) wide;
      within =
          subst (λ (r : Reply). r.session.fed + (length p - r.taken) ≤ (limits_of r.session.setup).session) (sym (replied g))
          (first_fed a.self.now.session p (length b) c.requires (given g));
    }

pub returns-in-Datagram : goal.returns-in-Datagram
returns-in-Datagram c =
    let a = c.args in
    let g = (goal.at.returns-in-Datagram c).In-Datagram in
    let f = c.first_line-used in
    let o = c.lines_of in
    let b = a.buffer.now in
    let p = a.piece.now in
    let bytes : f.new.buffer ≡ sets b 0 (line g) = f.ensures.bytes ∙ ap (sets b 0) (lined g) in
    first_answered a.self.now.session p (length b) c.requires (given g) b f.new.buffer o.new.buffer f.result o.result
    (f.ensures.place ∙ ap (λ (l : List ℕ). 0 + length l) (lined g)) bytes (ap length bytes ∙ length-sets b 0 (line g))
    (subst (λ (r : Reply). Answered r.session f.result (scan_at r.session.setup p r.taken) (length p - r.taken) f.new.buffer o.new.buffer o.result) (replied g) o.ensures)

pub returns-in-Waiting : goal.returns-in-Waiting
returns-in-Waiting c =
    let a = c.args.self.now.session in
    let b = c.args.buffer.now in
    let p = c.args.piece.now in
    let e = c.feed-reply.ensures in
    subst (λ (r : Reply). Answered a 0 (found_in a p) (length p) b b (record { answer = Ok 0; session = r.session })) (sym e)
    (waited_answered a p (length b) c.requires (ap (λ (r : Reply). r.answer) (sym e) ∙ c.in-Waiting.is) b)

pub returns-in-Refused : goal.returns-in-Refused
returns-in-Refused c =
    let a = c.args in
    let permitted : Admitted a.self.now.session (length a.piece.now) = admitted a.self.now.session (length a.piece.now) c.requires.admitted in
    absurd
    (not_refused a.self.now.session a.piece.now permitted.sound permitted.piece permitted.session c.in-Refused.refused
    (ap (λ (r : Reply). r.answer) (sym c.feed-reply.ensures) ∙ c.in-Refused.is))
