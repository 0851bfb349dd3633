-- One piece behind another leaves the session and the lines that the two joined do; an empty one leaves the session as it is, and has no lines.
-- Assumes nothing.
use Prim.Native.Nat.{ℕ, suc, ◌+◌, ◌≤◌}
use mathlib.Core.Path.{◌≡◌, refl, sym, ap, ◌∙◌, subst}
use mathlib.Core.Bool.{true}
use mathlib.Core.List.{List, [], ◌∷◌, ◌++◌, append_assoc, append-nil}
use native.Mathlib.Nat.{add_assoc, add-zero}
use native.Mathlib.Omega.{arith}
use lib.ListN.{length, length-append}
use Rattle.integers.proofs.Buffers.{padded_front}
use Rattle.setup.specs.Setup.{ruling_on}
use Rattle.setup.specs.declared.Setup.{Setup}
use Rattle.scan.specs.Scan.{Scanned, holding, scan}
use Rattle.scan.specs.Carry.{told, carried_after}
use Rattle.scan.proofs.ScanLaws.{followed, scan_waits, scan_append}
use Rattle.scan.proofs.AmongLaws.{stable}
use Rattle.scan.proofs.CarryLaws.{carried_append, told_append, length_told}
use Rattle.search.specs.Search.{limits_of, rules_of, verdict_of}
use Rattle.search.proofs.Datagrams.{lawful}
use Rattle.session.specs.Session.{session_with}
use Rattle.session.specs.declared.Session.{Session}
use Rattle.admission.specs.Admission.{held_bytes, is_sound}
use Rattle.admission.proofs.Soundness.{sound_facts}
use Rattle.feeding.specs.Feed.{consumer, state_of, session_of}
use Rattle.feeding.specs.declared.Datagram.{Datagram}
use Rattle.feeding.proofs.Refinement.{session_state}
use Rattle.feeding.proofs.OneLength.{undecided_held}
use Rattle.feeding.proofs.ContainedAt.{carried_datagrams}
use Rattle.whole_piece.specs.Lines.{line_of, lines_after, found_in, answers_in, lines_in, behind}
use Rattle.whole_piece.proofs.OneByOne.{behind_sound}
use Rattle.std.specs.Prelude.{Ok}

-- ---- the lines of datagrams, and of those that come after them

lines_append : (u : Setup) (n : ℕ) (os os' : List Datagram) → lines_after u n (os ++ os') ≡ lines_after u n os ++ lines_after u (n + length os) os'
unfolding lines_after
lines_append u n [] os' = ap (λ (k : ℕ). lines_after u k os') (sym (add-zero n))
lines_append u n (o ∷ os) os' =
    let line = line_of u (suc n) o in
    let behind-it : suc n + length os ≡ n + suc (length os) = omega arith in
    ap (λ (l : List ℕ). line ++ l) (lines_append u (suc n) os os')
    ∙ sym (append_assoc line (lines_after u (suc n) os) (lines_after u (suc n + length os) os'))
    ∙ ap (λ (k : ℕ). (line ++ lines_after u (suc n) os) ++ lines_after u k os') behind-it

-- those of a piece are counted in the session behind it
counted : (s : Session) (p : List ℕ) → (behind s p).carried.datagrams.0 ≡ s.history.datagrams.0 + length (answers_in s p)
counted s p =
    omega (
      arith,
      carried_datagrams s.setup (state_of s).carried (found_in s p).datagrams,
      length_told (consumer s.setup) (state_of s).carried (found_in s p).datagrams,
    )

-- the lines of a piece, and those of datagrams that come after it
pub lines_then :
    (s : Session) (p : List ℕ) (os : List Datagram)
    → lines_after s.setup s.history.datagrams.0 (answers_in s p ++ os) ≡ lines_in s p ++ lines_after s.setup (behind s p).carried.datagrams.0 os
unfolding lines_in
lines_then s p os =
    lines_append s.setup s.history.datagrams.0 (answers_in s p) os
    ∙ ap (λ (k : ℕ). lines_in s p ++ lines_after s.setup k os) (sym (counted s p))

-- ---- a piece, and another behind it

module _ (s : Session) (p q : List ℕ) (ok : ruling_on s.setup ≡ Ok tt) where
  abbrev between : Session
  between = session_of s.setup (behind s p)

  found_joined : found_in s (p ++ q) ≡ followed (found_in s p) (found_in between q)
  found_joined =
      let v = verdict_of s.setup in
      let h = (found_in s p).held in
      ap (scan v) (sym (append_assoc (held_bytes s) p q))
      ∙ scan_append v (stable (rules_of s.setup) (lawful s.setup ok)) (held_bytes s ++ p) q
      ∙ ap (λ (l : List ℕ). followed (found_in s p) (scan v (l ++ q))) (sym (padded_front 64 (length h) h refl))

  pub session_joined : session_of between.setup (behind between q) ≡ session_of s.setup (behind s (p ++ q))
  session_joined =
      let K = consumer s.setup in
      let f = found_in s p in
      let g = found_in between q in
      let e : followed f g ≡ found_in s (p ++ q) = sym found_joined in
      let carried : carried_after K between.history g.datagrams ≡ carried_after K s.history (found_in s (p ++ q)).datagrams =
      sym (carried_append K s.history f.datagrams g.datagrams) ∙ ap (λ (x : Scanned). carried_after K s.history x.datagrams) e in
      let passed : s.passed + f.passed + g.passed ≡ s.passed + (found_in s (p ++ q)).passed =
      add_assoc s.passed f.passed g.passed ∙ ap (λ (x : Scanned). s.passed + x.passed) e in
      let fed : s.fed + length p + length q ≡ s.fed + length (p ++ q) = omega (arith, length-append p q) in
      λ i. session_with s.setup (carried i) (passed i) (fed i) (e i).held

  pub lines_joined : lines_in s (p ++ q) ≡ lines_in s p ++ lines_in between q
  unfolding lines_in
  lines_joined =
      let K = consumer s.setup in
      let answers : answers_in s (p ++ q) ≡ answers_in s p ++ answers_in between q =
      ap (λ (x : Scanned). told K s.history x.datagrams) found_joined
      ∙ told_append K s.history (found_in s p).datagrams (found_in between q).datagrams in
      ap (lines_after s.setup s.history.datagrams.0) answers ∙ lines_then s p (answers_in between q)

-- the session behind bytes of any number within the session's limit isn't turned down by 10
pub bytes_sound :
    (s : Session) (p : List ℕ) → is_sound s ≡ true → s.fed + length p ≤ (limits_of s.setup).session
    → is_sound (session_of s.setup (behind s p)) ≡ true
bytes_sound s [] e most = behind_sound s [] e (omega arith) most
bytes_sound s (b ∷ p) e most =
    let t = session_of s.setup (behind s (b ∷ [])) in
    subst (λ (x : Session). is_sound x ≡ true) (session_joined s (b ∷ []) p (sound_facts s e).accepted)
    (bytes_sound t p (behind_sound s (b ∷ []) e (omega arith) (omega arith)) (omega arith))

-- ---- an empty piece

module _ (s : Session) (e : is_sound s ≡ true) where
  found_none : found_in s [] ≡ holding (held_bytes s)
  found_none =
      ap (scan (verdict_of s.setup)) (append-nil (held_bytes s)) ∙ scan_waits (verdict_of s.setup) (held_bytes s) (undecided_held s e)

  pub session_empty : length s.held ≡ 64 → session_of s.setup (behind s []) ≡ s
  unfolding carried_after
  session_empty long =
      let carried = ap (λ (x : Scanned). carried_after (consumer s.setup) s.history x.datagrams) found_none in
      let passed = ap (λ (x : Scanned). s.passed + x.passed) found_none ∙ add-zero s.passed in
      (λ i. session_with s.setup (carried i) (passed i) (add-zero s.fed i) (found_none i).held) ∙ session_state s e long

  pub lines_empty : lines_in s [] ≡ []
  unfolding lines_in lines_after told
  lines_empty = ap (λ (x : Scanned). lines_after s.setup s.history.datagrams.0 (told (consumer s.setup) s.history x.datagrams)) found_none
