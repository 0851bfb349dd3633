-- One call of feed where all datagrams have one length: it is the scan of the bytes held and the piece at once, an empty piece hands out nothing,
-- nothing is held behind a datagram. Assumes nothing.
use Prim.Native.Nat.{ℕ, ◌+◌, ◌≤◌}
use mathlib.Core.Path.{◌≡◌, refl, ap, ◌∙◌}
use mathlib.Core.Bool.{true}
use mathlib.Core.List.{List, [], ◌++◌}
use native.Mathlib.Omega.{arith}
use lib.ListN.{length}
use Rattle.scan.specs.Scan.{First, ends, finds, first, Undecided}
use Rattle.scan.specs.Calls as calls
use Rattle.scan.specs.Calls.{State, Fed}
use Rattle.scan.specs.Carry.{carrying}
use Rattle.scan.proofs.CallsLaws.{Sound}
use Rattle.scan.proofs.OneLength.{at_once, feed_at_once, empty_piece, last_byte}
use Rattle.search.specs.Search.{limits_of, rules_of, verdict_of}
use Rattle.search.proofs.Datagrams.{lawful, prompt}
use Rattle.admission.specs.Admission.{held_bytes, is_sound, piece_ruling}
use Rattle.session.specs.declared.Session.{Session}
use Rattle.admission.proofs.Soundness.{sound_facts}
use Rattle.feeding.specs.declared.Answer.TheVariants.{Datagram as HandedOut, Waiting, Refused}
use Rattle.feeding.specs.Feed.{consumer, no_datagram, state_of, reply_of, feed_by, feed_of}
use Rattle.feeding.specs.CallParts.{reply_after, reply_at_once}
use Rattle.feeding.proofs.Refinement.{facts_safe, session_state}
use Rattle.feeding.proofs.CallParts.{fed_by}
use Rattle.std.specs.Prelude.{Ok, Err}
use Rattle.refusals.specs.Refusals.{Ruling}

module _ (s : Session) (e : is_sound s ≡ true) where
  -- nothing is decided yet of the bytes held
  pub undecided_held : Undecided (verdict_of s.setup) (held_bytes s)
  undecided_held =
      let f = sound_facts s e in
      (prompt s.setup f.accepted).undecided (held_bytes s) f.held

  safe : Sound (rules_of s.setup) (state_of s).scan
  safe = (facts_safe s (sound_facts s e)).scan

  module _ (p : List ℕ) where
    reply_at_once_lem : (f : First) → reply_of s (carrying (consumer s.setup) (state_of s) (at_once (state_of s).scan p f)) ≡ reply_at_once s p f
    unfolding reply_after
    reply_at_once_lem (ends n h) = refl
    reply_at_once_lem (finds n d r) = refl

    -- not refused, a call is the scan of the bytes held and the piece
    pub fed_at_once :
        length p ≤ (limits_of s.setup).piece → s.fed + length p ≤ (limits_of s.setup).session
        → feed_of s p ≡ reply_at_once s p (first (verdict_of s.setup) (held_bytes s ++ p))
    fed_at_once h k =
        let u = s.setup in
        let ok = (sound_facts s e).accepted in
        let v = first (verdict_of u) (held_bytes s ++ p) in
        fed_by s p true (at_once (state_of s).scan p v) e (feed_at_once (rules_of u) (lawful u ok) (prompt u ok) (state_of s).scan p safe h k)
        ∙ reply_at_once_lem v

    -- a reply with a datagram is of a call that handed one out
    from_call :
        (c : Fed State (List ℕ)) → ((d : List ℕ) → c.answer ≡ calls.Answer.datagram d → (1 ≤ c.taken) × (c.next.held ≡ []))
        → (reply_of s (carrying (consumer s.setup) (state_of s) c)).answer ≡ HandedOut
        → (1 ≤ (reply_of s (carrying (consumer s.setup) (state_of s) c)).taken)
        × ((reply_of s (carrying (consumer s.setup) (state_of s) c)).session.count ≡ 0)
    from_call c h q = by c.answer refl
      where
        by :
            (a : calls.Answer (List ℕ)) → c.answer ≡ a
            → (1 ≤ (reply_of s (carrying (consumer s.setup) (state_of s) c)).taken)
            × ((reply_of s (carrying (consumer s.setup) (state_of s) c)).session.count ≡ 0)
        by (calls.Answer.datagram d) x = let k = h d x in rw x (k.0, ap length k.1)
        by calls.Answer.waiting x = absurd (let y : Waiting ≡ HandedOut = rw x at q in let z : ◌≡◌ {A = ℕ} 0 1 = cc in omega arith)
        by (calls.Answer.refused n) x = absurd (let y : Refused n ≡ HandedOut = rw x at q in let z : ◌≡◌ {A = ℕ} 0 1 = cc in omega arith)

    -- a datagram is handed out by the call that takes its last byte
    pub handed_last : (feed_of s p).answer ≡ HandedOut → (1 ≤ (feed_of s p).taken) × ((feed_of s p).session.count ≡ 0)
    unfolding feed_of
    handed_last q = by (piece_ruling s (length p)) refl
      where
        by :
            (r : Ruling) → piece_ruling s (length p) ≡ r
            → (1 ≤ (feed_by (piece_ruling s (length p)) s p).taken) × ((feed_by (piece_ruling s (length p)) s p).session.count ≡ 0)
        by (Err n) x =
            absurd (let y : Refused n ≡ HandedOut = rw x at q in let z : ◌≡◌ {A = ℕ} 0 1 = cc in omega arith)
        by (Ok tt) x =
            let u = s.setup in
            let ok = (sound_facts s e).accepted in
            rw x
            (from_call (calls.call (verdict_of u) (state_of s).scan p)
            (λ d y. last_byte (rules_of u) (lawful u ok) (prompt u ok) (state_of s).scan p d safe y)
            (rw x at q))

  -- a piece of 0 bytes is taken and hands out nothing
  pub empty_call : length s.held ≡ 64 → feed_of s [] ≡ record { answer = Waiting; taken = 0; session = s; datagram = no_datagram }
  empty_call h =
      let u = s.setup in
      let ok = (sound_facts s e).accepted in
      fed_by s [] true (record { answer = calls.Answer.waiting; taken = 0; next = (state_of s).scan }) e
      (empty_piece (rules_of u) (lawful u ok) (prompt u ok) (state_of s).scan safe)
      ∙ ap (λ (r : Session). record { answer = Waiting; taken = 0; session = r; datagram = no_datagram }) (session_state s e h)
