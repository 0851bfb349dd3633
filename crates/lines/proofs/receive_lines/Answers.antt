-- `lines::receive_lines` meets its contract: refused by 10, 11, 12 or 14, or all lines of the piece. Assumes nothing.
use mathlib.Core.Path.{◌≡◌, sym, ap, ◌∙◌}
use native.Mathlib.Omega.{arith}
use lib.ListN.{length}
use Rattle.setup.specs.Setup.{ruling_on}
use Rattle.setup.specs.Sensor.{sensor_of}
use Rattle.setup.specs.declared.Sensor.{Sensor}
use Rattle.text.specs.TextLine.{shown_of, shown_by}
use Rattle.shown_line.specs.declared.Shown.{Shown}
use Rattle.text.proofs.Answers.{sensor_shown}
use Rattle.admission.specs.Admission.{piece_ruling}
use Rattle.admission.proofs.Soundness.{sound_facts}
use Rattle.admission.proofs.PieceRulings.{Admitted, admits, admission_sensor_lem, admission_number_lem}
use Rattle.whole_piece.proofs.LongestLines.{room_admitted}
use Rattle.whole_piece.proofs.Batches.{refused, refused_keeps}
use Rattle.lines.proofs.Answered.{answered_all}
use Rattle.lines.proofs.receive_lines.Goals as goal
use Rattle.lines.proofs.receive_lines.Goals.{In-Ok}
use Rattle.std.specs.Prelude.{Ok}

-- an admitted piece, with the sensor of the session's setup
told : (c : In-Ok) → Admitted c.args.session (length c.args.piece.now) × (c.in-Ok.sensor ≡ sensor_of c.args.session.setup)
told c = admission_sensor_lem c.args.session (length c.args.piece.now) (sym c.in-Ok.ensures)

-- feeding doesn't refuse it
accepted : (c : In-Ok) → piece_ruling c.args.session (length c.args.piece.now) ≡ Ok tt
accepted c = admits c.args.session (length c.args.piece.now) (told c).0

-- its setup is accepted, and what is shown is looked up by it
setup_accepted : (c : In-Ok) → ruling_on c.args.session.setup ≡ Ok tt
setup_accepted c = (sound_facts c.args.session (told c).0.sound).accepted

shown_looked_up : (c : In-Ok) {shown : Shown} → shown ≡ shown_of c.in-Ok.sensor.row c.in-Ok.sensor.units → shown ≡ shown_by c.args.session.setup
shown_looked_up c e = e ∙ ap (λ (x : Sensor). shown_of x.row x.units) (told c).1 ∙ sensor_shown c.args.session.setup (setup_accepted c)

pub invariant_of-receiving : goal.invariant_of-receiving
invariant_of-receiving c =
    let k = (goal.at.invariant_of-receiving c).In-Ok in
    record { accepted = setup_accepted k; described = (told k).1; shows = shown_looked_up k c.shown_of.ensures }

pub invariant_of-receiving-in-Ok : goal.invariant_of-receiving-in-Ok
invariant_of-receiving-in-Ok c =
    let k = (goal.at.invariant_of-receiving-in-Ok c).In-Ok in
    record { accepted = setup_accepted k; described = (told k).1; shows = shown_looked_up k c.shown_of.ensures }

pub room_for-requires : goal.room_for-requires
room_for-requires c = room_admitted c.args.session (length c.args.piece.now) (accepted (goal.at.room_for-requires c).In-Ok)

pub lines_apart-requires : goal.lines_apart-requires
lines_apart-requires c = accepted (goal.at.lines_apart-requires c).In-Ok

pub all_lines-requires : goal.all_lines-requires
all_lines-requires c =
    record {
      admitted = accepted (goal.at.all_lines-requires c).In-Ok;
      enough = omega (arith, c.if-buffer-room_for.false, c.room_for.ensures);
    }

pub returns-in-Err : goal.returns-in-Err
returns-in-Err c =
    let a = c.args in
    let w =
    refused_keeps a.session a.piece.now a.buffer.now c.in-Err.refused c.refuse.ensures
    (refused a.session a.piece.now a.buffer.now
    (admission_number_lem a.session (length a.piece.now) (sym c.in-Err.ensures)))
    in
    record { answer = w.0; written = w.1 }

pub returns-else-buffer-room_for : goal.returns-else-buffer-room_for
returns-else-buffer-room_for c =
    let a = c.args in
    let w = answered_all a.session a.piece.now (accepted (goal.at.returns-else-buffer-room_for c).In-Ok) a.buffer.now c.all_lines.ensures in
    record { answer = w.0; written = w.1 }
