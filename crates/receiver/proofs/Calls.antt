-- What a call that nothing refuses leaves: counts with room for its bytes, and the place that `search::find` tells by its sensor. Assumes nothing.
use Prim.Native.Nat.{ℕ, ◌≤◌}
use mathlib.Core.Path.{◌≡◌, sym, ap, ◌∙◌}
use mathlib.Core.List.{List, ◌++◌}
use native.Mathlib.Omega.{arith}
use lib.ListN.{length, take, drop}
use Rattle.scan.specs.Scan.{Verdict, first, later}
use Rattle.scan.proofs.ScanLaws.{later_zero}
use Rattle.search.specs.Search.{verdict_of, verdict_in, place_of}
use Rattle.search.specs.declared.Place.TheVariants.{Complete, Undecided}
use Rattle.search.proofs.Places.{IsComplete, IsUndecided, found_complete, found_undecided}
use Rattle.admission.proofs.Soundness.{Facts, sound_facts}
use Rattle.admission.proofs.PieceRulings.{Admitted, admitted}
use Rattle.admission.specs.Admission.{held_bytes}
use Rattle.feeding.specs.Feed.{feed_of}
use Rattle.feeding.specs.CallParts.{reply_at_once, Room}
use Rattle.feeding.proofs.OneLength.{fed_at_once}
use Rattle.feeding.proofs.BySetup.{sensor_verdict}
use Rattle.feeding.proofs.CallParts.{room_of}
use Rattle.receiver.specs.declared.Call.{Call}

module _ (call : Call) where
  pub allowed : Admitted call.session (length call.piece.now)
  allowed = admitted call.session (length call.piece.now) call.admitted

  pub facts : Facts call.session
  facts = sound_facts call.session allowed.sound

  pub short : length call.piece.now ≤ 4096
  short = allowed.piece

  pub room : (k : ℕ) → k ≤ 8192 → Room call.session k
  room k l = room_of call.session facts k (omega arith)

  -- its answer by the scan of the bytes held and the piece, or of the piece alone where none are held
  pub at_once :
      feed_of call.session call.piece.now
      ≡ reply_at_once call.session call.piece.now (first (verdict_of call.session.setup) (held_bytes call.session ++ call.piece.now))
  at_once = fed_at_once call.session allowed.sound call.piece.now allowed.piece allowed.session

  pub at_once_alone :
      call.session.count ≡ 0
      → feed_of call.session call.piece.now
      ≡ reply_at_once call.session call.piece.now (later 0 (first (verdict_of call.session.setup) (drop 0 call.piece.now)))
  at_once_alone e =
      at_once
      ∙ ap (λ (n : ℕ). reply_at_once call.session call.piece.now (first (verdict_of call.session.setup) (take n call.session.held ++ call.piece.now))) e
      ∙ ap (reply_at_once call.session call.piece.now) (sym (later_zero (first (verdict_of call.session.setup) call.piece.now)))

  -- the bytes l, which the code searches as k
  module _ {l k : List ℕ} (same : k ≡ l) where
    told : place_of (first (verdict_of call.session.setup) l) ≡ place_of (first (verdict_in call.sensor) k)
    told =
        ap (λ (v : List ℕ → Verdict). place_of (first v l)) (sym (sensor_verdict call.session.setup facts.accepted call.sensor call.described))
        ∙ ap (λ (t : List ℕ). place_of (first (verdict_in call.sensor) t)) (sym same)

    pub complete : {at size : ℕ} → Complete at size ≡ place_of (first (verdict_in call.sensor) k) → IsComplete call.session.setup l at size
    complete {at} f = found_complete call.session.setup facts.accepted l at (told ∙ sym f)

    pub undecided : {at : ℕ} → Undecided at ≡ place_of (first (verdict_in call.sensor) k) → IsUndecided call.session.setup l at
    undecided {at} f = found_undecided call.session.setup facts.accepted l at (told ∙ sym f)
