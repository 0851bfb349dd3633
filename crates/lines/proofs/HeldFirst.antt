-- A piece behind bytes that are held: the call that completes the first datagram, and what is left of the piece. Assumes nothing.
use Prim.Native.Nat.{ℕ, suc, ◌+◌, ◌-◌, ◌^◌, ◌≤◌, ◌<◌}
use mathlib.Core.Path.{◌≡◌, refl, sym, ap, ◌∙◌, subst}
use mathlib.Core.Bool.{false}
use mathlib.Core.List.{List, [], ◌∷◌, ◌++◌}
use native.Mathlib.Nat.{mul-add, mul-one}
use native.Mathlib.Numerals.{add-one}
use native.Mathlib.Omega.{arith}
use lib.ListN.{length, take, drop, length-append, length-drop}
use lib.Seq.{sets, drop-append-add}
use Rattle.setup.specs.Setup.{length_of}
use Rattle.setup.specs.declared.Setup.{Setup}
use Rattle.setup.proofs.Refusals.{accepted_length}
use Rattle.wire.specs.Fields.{fields_of}
use Rattle.shown_line.specs.ShownLine.{outside, longest_line}
use Rattle.scan.specs.Scan.{Scanned, First, ends, finds, first, passing, handing, holding, scan}
use Rattle.scan.specs.Carry.{steps, carried_after}
use Rattle.search.specs.Search.{limits_of, verdict_of, place_of}
use Rattle.search.proofs.Places.{IsComplete, complete_length, found_complete, found_undecided}
use Rattle.session.specs.Session.{session_with}
use Rattle.admission.specs.Admission.{held_bytes}
use Rattle.history.specs.History.{awaits_first, history_next}
use Rattle.history.specs.declared.History.{History}
use Rattle.session.specs.declared.Session.{Session}
use Rattle.admission.proofs.Soundness.{Facts, sound_facts}
use Rattle.admission.proofs.PieceRulings.{Admitted, admitted}
use Rattle.feeding.specs.Feed.{history_after, datagram_with, consumer, state_of, feed_of}
use Rattle.feeding.specs.CallParts.{reply_after, reply_at_once}
use Rattle.feeding.specs.declared.Answer.TheVariants.{Datagram as HandedOut, Waiting}
use Rattle.feeding.specs.declared.Reply.{Reply}
use Rattle.feeding.proofs.BySetup.{told_datagram}
use Rattle.feeding.proofs.Refinement.{count_held}
use Rattle.feeding.proofs.CallParts.{count_less}
use Rattle.feeding.proofs.OneLength.{fed_at_once}
use Rattle.whole_piece.specs.declared.Batch.{Batch}
use Rattle.whole_piece.specs.Lines.{line_of, found_in, room_for}
use Rattle.whole_piece.specs.NextLines.{next_line, text_of}
use Rattle.lines.specs.PieceParts.{start_of, batch_by, Ready, scan_at, Answered, Permitted}
use Rattle.whole_piece.proofs.NextLines.{few_of, right_next, line_inside, line_short, text_none, text_more}
use Rattle.integers.proofs.Buffers.{sets_append}
use Rattle.lines.proofs.LoopInvariant.{scan_complete, scan_open}
use Rattle.std.specs.Prelude.{Ok}

module _ (s : Session) (p : List ℕ) (room : ℕ) (a : Permitted s (length p) room) where
  abbrev setup : Setup
  setup = s.setup

  -- the bytes held and the piece
  abbrev joint : List ℕ
  joint = held_bytes s ++ p

  abbrev kept : History
  kept = (state_of s).carried

  allowed : Admitted s (length p)
  allowed = admitted s (length p) a.admitted

  facts : Facts s
  facts = sound_facts s allowed.sound

  held_count : length (held_bytes s) ≡ s.count
  held_count = count_held s facts

  turned : (f : First) → first (verdict_of setup) joint ≡ f → feed_of s p ≡ reply_at_once s p f
  turned f q = fed_at_once s allowed.sound p allowed.piece allowed.session ∙ ap (reply_at_once s p) q

  -- ---- a datagram came back

  pub record Handed : Type 0 where
    pub place : ℕ
    pub size : ℕ
    pub complete : IsComplete setup joint place size
    pub reply : feed_of s p ≡ reply_after s (place + size - s.count) (finds place (take size (drop place joint)) [])

  pub handed : (feed_of s p).answer ≡ HandedOut → Handed
  unfolding reply_after
  handed e = by (first (verdict_of setup) joint) refl
    where
      by : (f : First) → first (verdict_of setup) joint ≡ f → Handed
      by (ends n l) q =
          let w : (feed_of s p).answer ≡ Waiting = ap (λ (r : Reply). r.answer) (turned (ends n l) q) in
          absurd (let z : ◌≡◌ {A = ℕ} 0 1 = cc in omega arith)
      by (finds n d r) q =
          let w = found_complete setup facts.accepted joint n (ap place_of q) in
          let L = length d in
          let k : length p - length (drop (n + L) joint) ≡ n + L - s.count =
          omega (arith, length-drop (n + L) joint, length-append (held_bytes s) p, held_count, w.within, complete_length w, count_less s facts)
          in
          record {
            place = n;
            size = L;
            complete = w;
            reply =
                turned (finds n (take L (drop n joint)) (drop (n + L) joint)) w.scan
                ∙ ap (λ (m : ℕ). reply_after s m (finds n (take L (drop n joint)) [])) k;
          }

  module _ (H : Handed) where
    abbrev pub datagram : List ℕ
    datagram = take H.size (drop H.place joint)

    abbrev taken : ℕ
    taken = H.place + H.size - s.count

    abbrev pub turn : Reply
    turn = reply_after s taken (finds H.place datagram [])

    abbrev line : List ℕ
    line = next_line setup kept datagram

    few : suc s.history.datagrams.0 ≤ 2 ^ 30
    few = few_of setup facts.accepted s.history.datagrams.0 (s.passed + s.count) (omega (arith, facts.sum, facts.most))

    -- a datagram ends behind the bytes held
    long : s.count < H.size
    long = omega (arith, complete_length H.complete, count_less s facts)

    taken_within : taken ≤ length p
    taken_within = omega (arith, H.complete.within, length-append (held_bytes s) p, held_count)

    rest : drop (H.place + H.size) joint ≡ drop taken p
    rest =
        let e : H.place + H.size ≡ length (held_bytes s) + taken = omega (arith, held_count, long) in
        ap (λ (n : ℕ). drop n joint) e ∙ drop-append-add (held_bytes s) p taken

    scanned : found_in s p ≡ passing H.place (handing datagram (scan_at setup p taken))
    scanned =
        scan_complete setup facts.accepted joint H.place H.complete
        ∙ ap (λ (v : List ℕ). passing H.place (handing datagram (scan (verdict_of setup) v))) rest

    short : length line ≤ longest_line
    short = line_short setup facts.accepted kept datagram facts.kept H.complete.good few

    -- its line is the next one, and nothing refuses it
    pub first_line_lem : line_of setup turn.session.history.datagrams.0 turn.datagram ≡ line
    unfolding reply_after history_after history_next next_line
    first_line_lem = rw (add-one s.history.datagrams.0)

    pub first_inside :
        outside turn.session.history.datagrams.0 (turn.datagram.gyro ∷ turn.datagram.accelerometer ∷ turn.datagram.inclinometer ∷ []) turn.datagram.totals ≡ false
    unfolding reply_after history_after history_next datagram_with fields_of
    first_inside =
        (λ i.
        let o = told_datagram setup facts.accepted (awaits_first kept) kept datagram i in
        outside (add-one s.history.datagrams.0 i) (o.gyro ∷ o.accelerometer ∷ o.inclinometer ∷ []) o.totals)
        ∙ line_inside setup facts.accepted kept datagram facts.kept H.complete.good few

    pub first_short : length (line_of setup turn.session.history.datagrams.0 turn.datagram) ≤ longest_line
    first_short = subst (λ (t : List ℕ). length t ≤ longest_line) (sym first_line_lem) short

    -- the piece can be gone through behind it
    pub first_ready :
        (used width : ℕ) → used ≤ longest_line → room_for (length p) ≤ width
        → Ready turn.session.setup (start_of turn.session turn.taken used) (length p) width
    unfolding reply_after history_after history_next
    first_ready used width l w =
        record {
          accepted = facts.accepted;
          within = taken_within;
          most = allowed.piece;
          kept = right_next setup facts.accepted kept datagram facts.kept H.complete.good;
          few =
              omega (
                arith,
                facts.sum,
                allowed.session,
                mul-add (length_of setup) s.history.datagrams.0 1,
                mul-one (length_of setup),
                taken_within,
                long,
                complete_length H.complete,
              );
          passed = omega (arith, facts.sum, facts.most, H.complete.within, length-append (held_bytes s) p, held_count, long, complete_length H.complete, (accepted_length setup facts.accepted).1, allowed.piece);
          roomy = omega (arith, allowed.piece);
        }

    -- of the same setup
    pub first_setup : turn.session.setup ≡ setup
    unfolding reply_after
    first_setup = refl

    pub first_fed : turn.session.fed + (length p - turn.taken) ≤ (limits_of setup).session
    unfolding reply_after
    first_fed = omega (arith, allowed.session, taken_within)

    -- what is made of the rest is made of the whole
    pub first_answered :
        (b b' b'' : List ℕ) (used : ℕ) (r : Batch) → used ≡ 0 + length line → b' ≡ sets b 0 line → length b' ≡ length b
        → Answered turn.session used (scan_at turn.session.setup p turn.taken) (length p - turn.taken) b' b'' r
        → Answered s 0 (found_in s p) (length p) b b'' r
    unfolding reply_after batch_by carried_after
    first_answered b b' b'' used r e f l M =
        let g = scan_at setup p taken in
        let found = passing H.place (handing datagram g) in
        let x = steps (consumer setup) kept datagram in
        let t = text_of setup x g in
        let k = carried_after (consumer setup) x g.datagrams in
        let text : text_of setup kept found ≡ line ++ t = text_more setup kept H.place datagram g in
        let n : used + length t ≡ 0 + length (text_of setup kept found) = omega (arith, e, ap length text, length-append line t) in
        let passed : s.passed + H.place + g.passed ≡ s.passed + (H.place + g.passed) = omega arith in
        let fed : s.fed + taken + (length p - taken) ≡ s.fed + length p = omega (arith, taken_within) in
        let same : batch_by turn.session used g (length p - taken) ≡ batch_by s 0 found (length p) =
        λ i.
        record {
          answer = Ok (n i);
          session = session_with setup k (passed i) (fed i) g.held;
        }
        in
        subst (λ (g : Scanned). Answered s 0 g (length p) b b'' r) (sym scanned)
        (record {
          batch = M.batch ∙ same;
          text =
              M.text
              ∙ ap (λ (v : List ℕ). sets v used t) f
              ∙ ap (λ (m : ℕ). sets (sets b 0 line) m t) e
              ∙ sym (sets_append b 0 line t)
              ∙ ap (sets b 0) (sym text);
          fits = omega (arith, M.fits, l, n);
        })

  -- ---- the piece ended

  pub waited_answered : (feed_of s p).answer ≡ Waiting → (b : List ℕ) → Answered s 0 (found_in s p) (length p) b b (record { answer = Ok 0; session = (feed_of s p).session })
  unfolding reply_after batch_by carried_after
  waited_answered e b = by (first (verdict_of setup) joint) refl
    where
      by : (f : First) → first (verdict_of setup) joint ≡ f → Answered s 0 (found_in s p) (length p) b b (record { answer = Ok 0; session = (feed_of s p).session })
      by (finds n d r) q =
          let w : (feed_of s p).answer ≡ HandedOut = ap (λ (r : Reply). r.answer) (turned (finds n d r) q) in
          absurd (let z : ◌≡◌ {A = ℕ} 0 1 = cc in omega arith)
      by (ends n l) q =
          let w = found_undecided setup facts.accepted joint n (ap place_of q) in
          let h = drop n joint in
          let none : text_of setup kept (passing n (holding h)) ≡ [] = text_none setup kept n h in
          let zero : 0 ≡ 0 + length (text_of setup kept (passing n (holding h))) = omega (arith, ap length none) in
          let passed : s.passed + n ≡ s.passed + (n + 0) = omega arith in
          let same : record { answer = Ok 0; session = (reply_after s (length p) (ends n h)).session } ≡ batch_by s 0 (passing n (holding h)) (length p) =
          λ i.
          record {
            answer = Ok (zero i);
            session = session_with setup s.history (passed i) (s.fed + length p) h;
          }
          in
          subst (λ (g : Scanned). Answered s 0 g (length p) b b (record { answer = Ok 0; session = (feed_of s p).session }))
          (sym (scan_open setup facts.accepted joint n w))
          (record {
            batch = ap (λ (r : Reply). record { answer = Ok 0; session = r.session }) (turned (ends n h) w.scan) ∙ same;
            text = ap (sets b 0) (sym none);
            fits = omega (arith, ap length none);
          })
