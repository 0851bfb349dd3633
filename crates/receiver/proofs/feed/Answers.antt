-- `receiver::feed` meets its contract: refused by 10, 11 or 12, or the scan of the bytes held and the piece. Assumes nothing.
use mathlib.Core.Path.{◌≡◌, sym, ◌∙◌}
use lib.ListN.{length}
use Rattle.admission.proofs.PieceRulings.{admits, admission_sensor_lem, admission_number_lem}
use Rattle.feeding.specs.Feed.{refusal}
use Rattle.feeding.proofs.CallParts.{fed_refused}
use Rattle.receiver.proofs.feed.Goals as goal

pub invariant_of-call : goal.invariant_of-call
invariant_of-call c =
    let a = c.args in
    let told = admission_sensor_lem a.session (length a.piece.now) (sym c.in-Ok.ensures) in
    record { admitted = admits a.session (length a.piece.now) told.0; described = told.1 }

pub returns-in-Err : goal.returns-in-Err
returns-in-Err c =
    let a = c.args in
    let refused : c.refuse.result ≡ refusal a.session c.in-Err.refused = c.refuse.ensures in
    refused
    ∙ sym (fed_refused a.session a.piece.now
    (admission_number_lem a.session (length a.piece.now) (sym c.in-Err.ensures)))
