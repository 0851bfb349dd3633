-- Laws of one call of feed by its parts.
use Prim.Native.Nat.{ℕ, ◌+◌, ◌-◌, ◌≤◌, ◌<◌}
use mathlib.Core.Path.{◌≡◌, refl, ap, ◌∙◌}
use mathlib.Core.Bool.{Bool, true, false}
use mathlib.Core.List.{List, [], ◌∷◌, map}
use native.Mathlib.Nat.{mul-le-mul_right}
use native.Mathlib.Decide.{dec_le}
use native.Mathlib.Omega.{arith}
use borrow.Author.Tests.{lt-ltb, le-ltb, lt-leb, le-leb}
use lib.ListN.{length, get_or, replicate, length-append, length-replicate}
use Rattle.setup.specs.Setup.{length_of}
use Rattle.setup.specs.declared.Setup.{Setup}
use Rattle.setup.proofs.Refusals.{accepted_length}
use Rattle.setup.specs.declared.Row.{Row}
use Rattle.wire.specs.Fields.{contents_of, besides_readings}
use Rattle.motion.specs.Status.{flagged}
use Rattle.scan.specs.Scan.{First, ends, finds}
use Rattle.scan.specs.Calls.{State, Fed, feed, refusing}
use Rattle.scan.specs.Calls.Answer.{refused}
use Rattle.scan.specs.Carry.{carrying}
use Rattle.scan.proofs.CallsLaws.{feed_unsound, feed_over, feed_past}
use Rattle.search.specs.Search.{limits_of, rules_of}
use Rattle.search.proofs.Datagrams.{lawful}
use Rattle.admission.specs.Admission.{held_bytes, is_sound, piece_ruling}
use Rattle.session.specs.declared.Session.{Session}
use Rattle.admission.proofs.Soundness.{Facts, sound_facts}
use Rattle.feeding.specs.Feed.{consumer, SessionState, state_of, session_of, reply_by, reply_of, refusal, feed_by, feed_of}
use Rattle.feeding.proofs.Refinement.{count_held}
use Rattle.feeding.specs.CallParts.{contents_with, reply_after, reply_at_once, Room}
use Rattle.std.specs.Prelude.{Err}
use Rattle.refusals.specs.Refusals.{Ruling}
use Rattle.refusals.specs.declared.Refusal.{Refusal}
use Rattle.refusals.specs.declared.Refusal.TheVariants.{SessionUnsound, PieceTooLong, StreamTooLong}

-- ---- a datagram as it comes back

-- a value for each of three groups
pub flagged_three :
    (l : List ℕ) → length l ≡ 3 → map flagged l ≡ flagged (get_or l 0 0) ∷ flagged (get_or l 1 0) ∷ flagged (get_or l 2 0) ∷ []
flagged_three [] e = absurd (omega arith)
flagged_three (a ∷ []) e = absurd (omega arith)
flagged_three (a ∷ b ∷ []) e = absurd (omega arith)
flagged_three (a ∷ b ∷ c ∷ []) e = refl
flagged_three (a ∷ b ∷ c ∷ d ∷ l) e = absurd (omega arith)

-- the contents of a datagram are its readings and its other fields
pub contents_read :
    (row : Row) (d : List ℕ) → contents_with (contents_of row d).readings (besides_readings (contents_of row d)) ≡ contents_of row d
unfolding contents_of
contents_read row d = refl

-- ---- the answer of a call, of what the scan of the bytes held and the piece p finds

pub reply_found :
    (s : Session) (p d e r : List ℕ) (n k : ℕ) (f : First) → f ≡ finds n d r → k ≡ length p - length r → e ≡ d
    → reply_after s k (finds n e []) ≡ reply_at_once s p f
reply_found s p d e r n k f x y z = rw (x, y, z)

pub reply_held :
    (s : Session) (p h e : List ℕ) (n : ℕ) (f : First) → f ≡ ends n h → e ≡ h → reply_after s (length p) (ends n e) ≡ reply_at_once s p f
reply_held s p h e n f x y = rw (x, y)

-- ---- what a sound session leaves

module _ (s : Session) (f : Facts s) where
  -- fewer bytes are held than a datagram has
  pub count_less : s.count < length_of s.setup
  count_less =
      let u = s.setup in
      omega (arith, count_held s f, (lawful u f.accepted).holds.shorter (held_bytes s) f.held)

  -- room for as many bytes again as a session may be fed
  pub room_of : (n : ℕ) → n ≤ (limits_of s.setup).session → Room s n
  room_of n l =
      let h : 1 ≤ length_of s.setup = omega (arith, (accepted_length s.setup f.accepted).0) in
      record {
        datagrams = omega (arith, mul-le-mul_right s.history.datagrams.0 h, f.sum, f.most);
        passed = omega (arith, f.sum, f.most);
        fed = omega (arith, f.most);
      }

-- the held bytes and the zeros behind them fill the array
pub held_whole : (u : Setup) (t : SessionState) → is_sound (session_of u t) ≡ true → length (session_of u t).held ≡ 64
held_whole u t e =
    let F = sound_facts (session_of u t) e in
    let n = 64 - length t.scan.held in
    omega (
      arith,
      length-append t.scan.held (replicate n 0),
      length-replicate {A = ℕ} n 0,
      count_less (session_of u t) F,
      (accepted_length u F.accepted).1,
    )

-- ---- a call by its case

module _ (s : Session) (p : List ℕ) where
  -- the scan's call, refused by the same numbers
  pub fed_scan :
      feed_of s p ≡ reply_of s (carrying (consumer s.setup) (state_of s) (feed (rules_of s.setup) (is_sound s) (state_of s).scan p))
  unfolding feed_of piece_ruling feed
  fed_scan = by (is_sound s) refl (dec_le (length p) (limits_of s.setup).piece) (dec_le (s.fed + length p) (limits_of s.setup).session)
    where
      by :
          (ok : Bool) → is_sound s ≡ ok → Dec (length p ≤ (limits_of s.setup).piece) → Dec (s.fed + length p ≤ (limits_of s.setup).session)
          → feed_by (piece_ruling s (length p)) s p
          ≡ reply_of s (carrying (consumer s.setup) (state_of s) (feed (rules_of s.setup) (is_sound s) (state_of s).scan p))
      by false e few most = rw e
      by true e (no n) most = rw (e, lt-ltb (limits_of s.setup).piece (length p) (omega arith), lt-leb (length p) (limits_of s.setup).piece (omega arith))
      by true e (yes h) (no n) =
          rw (
            e,
            le-ltb (limits_of s.setup).piece (length p) h,
            le-leb (length p) (limits_of s.setup).piece h,
            lt-ltb (limits_of s.setup).session (s.fed + length p) (omega arith),
            lt-leb (s.fed + length p) (limits_of s.setup).session (omega arith),
          )
      by true e (yes h) (yes k) =
          rw (
            e,
            le-ltb (limits_of s.setup).piece (length p) h,
            le-leb (length p) (limits_of s.setup).piece h,
            le-ltb (limits_of s.setup).session (s.fed + length p) k,
            le-leb (s.fed + length p) (limits_of s.setup).session k,
          )

  pub fed_refused : {e : Refusal} → piece_ruling s (length p) ≡ Err e → feed_of s p ≡ refusal s e
  unfolding feed_of
  fed_refused q = ap (λ (r : Ruling). feed_by r s p) q

  pub fed_by :
      (ok : Bool) (c : Fed State (List ℕ)) → is_sound s ≡ ok → feed (rules_of s.setup) ok (state_of s).scan p ≡ c
      → feed_of s p ≡ reply_of s (carrying (consumer s.setup) (state_of s) c)
  fed_by ok c e q =
      fed_scan
      ∙ ap (λ (c : Fed State (List ℕ)). reply_of s (carrying (consumer s.setup) (state_of s) c))
      (ap (λ (b : Bool). feed (rules_of s.setup) b (state_of s).scan p) e ∙ q)

  pub fed_unsound : is_sound s ≡ false → feed_of s p ≡ reply_by s (refused SessionUnsound) 0 (state_of s)
  fed_unsound e = fed_by false (refusing SessionUnsound (state_of s).scan) e (feed_unsound (rules_of s.setup) (state_of s).scan p)

  pub fed_over : is_sound s ≡ true → (limits_of s.setup).piece < length p → feed_of s p ≡ reply_by s (refused PieceTooLong) 0 (state_of s)
  fed_over e h = fed_by true (refusing PieceTooLong (state_of s).scan) e (feed_over (rules_of s.setup) (state_of s).scan p h)

  pub fed_past :
      is_sound s ≡ true → length p ≤ (limits_of s.setup).piece → (limits_of s.setup).session < s.fed + length p
      → feed_of s p ≡ reply_by s (refused StreamTooLong) 0 (state_of s)
  fed_past e h k = fed_by true (refusing StreamTooLong (state_of s).scan) e (feed_past (rules_of s.setup) (state_of s).scan p h k)
