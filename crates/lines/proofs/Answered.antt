-- The lines of a piece that were written, into the lent buffer or another, are the answer of receive_lines. Assumes nothing.
use Prim.Native.Nat.{ℕ, ◌+◌, ◌-◌, ◌≤◌, ◌<◌}
use mathlib.Core.Path.{◌≡◌, refl, sym, ap, ◌∙◌, subst}
use mathlib.Core.List.{List, ◌++◌}
use native.Mathlib.Nat.{zero-add, sub-zero}
use native.Mathlib.Omega.{arith}
use lib.ListN.{length, take, drop, length-append}
use lib.Seq.{take_at, take-length}
use Rattle.integers.proofs.Buffers.{put_front}
use Rattle.scan.specs.Scan.{Scanned, scan}
use Rattle.search.specs.Search.{verdict_of}
use Rattle.admission.specs.Admission.{piece_ruling}
use Rattle.session.specs.declared.Session.{Session}
use Rattle.feeding.specs.Feed.{state_of, session_of}
use Rattle.whole_piece.specs.declared.Batch.{Batch}
use Rattle.whole_piece.specs.Lines.{found_in, lines_in, behind, refusing, batch_of, batch_buffer}
use Rattle.whole_piece.specs.NextLines.{text_of}
use Rattle.whole_piece.proofs.Batches.{whole, fourteen, refused_keeps, fitting_lines, fitting_buffer}
use Rattle.lines.specs.PieceParts.{batch_by, scan_at, Answered}
use Rattle.std.specs.Prelude.{Ok, Err}
use Rattle.refusals.specs.declared.Refusal.{Refusal}
use Rattle.refusals.specs.declared.Refusal.TheVariants.{LineRoom}

module _ (s : Session) (p : List ℕ) where
  same_text : text_of s.setup (state_of s).carried (found_in s p) ≡ lines_in s p
  unfolding text_of lines_in
  same_text = refl

  -- all lines at the front of the buffer b
  answered_whole :
      {b b' : List ℕ} {r : Batch} → Answered s 0 (found_in s p) (length p) b b' r
      → (r ≡ whole s p) × (b' ≡ lines_in s p ++ drop (length (lines_in s p)) b) × (length (lines_in s p) ≤ length b)
  unfolding batch_by
  answered_whole {b} M =
      let t = text_of s.setup (state_of s).carried (found_in s p) in
      let n : 0 + length t ≡ length (lines_in s p) = zero-add (length t) ∙ ap length same_text in (
        M.batch ∙ ap (λ (m : ℕ). record { answer = Ok m; session = session_of s.setup (behind s p) }) n,
        M.text ∙ put_front b t (omega (arith, M.fits)) ∙ ap (λ (l : List ℕ). l ++ drop (length l) b) same_text,
        omega (arith, M.fits, n),
      )

  module _ (e : piece_ruling s (length p) ≡ Ok tt) (b : List ℕ) where
    -- into the lent buffer
    pub answered_all :
        {b' : List ℕ} {r : Batch} → Answered s 0 (found_in s p) (length p) b b' r → (r ≡ batch_of s p (length b)) × (b' ≡ batch_buffer s p b)
    answered_all M =
        let w = answered_whole M in
        (w.0 ∙ sym (fitting_lines s p b e w.2), w.1 ∙ sym (fitting_buffer s p b e w.2))

  -- into another buffer c, which is c' then
  module _ {c c' : List ℕ} {r : Batch} (M : Answered s 0 (found_in s p) (length p) c c' r) (n : ℕ) where
    -- nothing was refused
    pub apart_never : {e : Refusal} → r.answer ≡ Err e → ⊥
    apart_never {e} a =
        let q : Ok (length (lines_in s p)) ≡ Err e = ap (λ (x : Batch). x.answer) (sym (answered_whole M).0) ∙ a in
        let z : ◌≡◌ {A = ℕ} 0 1 = cc in omega arith

    module _ (a : r.answer ≡ Ok n) where
      made : n ≡ length (lines_in s p)
      made =
          let q : Ok n ≡ Ok (length (lines_in s p)) = sym a ∙ ap (λ (x : Batch). x.answer) (answered_whole M).0 in
          cc

      pub apart_within : n ≤ length c'
      apart_within = omega (arith, made, ap length (answered_whole M).1, length-append (lines_in s p) (drop (length (lines_in s p)) c))

      -- the n bytes at its front are the lines
      front : take n c' ≡ lines_in s p
      front = ap (take n) (answered_whole M).1 ∙ take_at (lines_in s p) (drop (length (lines_in s p)) c) n (sym made)

      module _ (e : piece_ruling s (length p) ≡ Ok tt) (b : List ℕ) where
        -- they don't fit the lent buffer b
        pub apart_refused : length b < n → {x : Batch} → x ≡ refusing s LineRoom → (x ≡ batch_of s p (length b)) × (b ≡ batch_buffer s p b)
        apart_refused l q = refused_keeps s p b LineRoom q (fourteen s p b e (omega (arith, made)))

        -- or are copied to its front
        pub apart_copied :
            n ≤ length b → {m : ℕ} {b' : List ℕ} → m ≡ length (take n c') → b' ≡ take (length (take n c')) (take n c') ++ drop (length (take n c')) b
            → (record { answer = Ok m; session = r.session } ≡ batch_of s p (length b)) × (b' ≡ batch_buffer s p b)
        apart_copied l {m} q w =
            let k : m ≡ length (lines_in s p) = q ∙ ap length front in
            let fits : length (lines_in s p) ≤ length b = omega (arith, made) in (
              (λ i. record { answer = Ok (k i); session = ((answered_whole M).0 i).session }) ∙ sym (fitting_lines s p b e fits),
              w
                  ∙ ap (λ (t : List ℕ). take (length t) t ++ drop (length t) b) front
                  ∙ ap (λ (t : List ℕ). t ++ drop (length (lines_in s p)) b) (take-length (lines_in s p))
                  ∙ sym (fitting_buffer s p b e fits),
            )

  -- a session that holds nothing scans the piece alone
  pub answered_none :
      s.count ≡ 0 → (b : List ℕ) {b' : List ℕ} {r : Batch} → Answered s 0 (scan_at s.setup p 0) (length p - 0) b b' r → Answered s 0 (found_in s p) (length p) b b' r
  answered_none e b {b'} {r} M =
      let g : scan_at s.setup p 0 ≡ found_in s p = ap (λ (n : ℕ). scan (verdict_of s.setup) (take n s.held ++ p)) (sym e) in
      subst (λ (x : Scanned). Answered s 0 x (length p) b b' r) g (subst (λ (n : ℕ). Answered s 0 (scan_at s.setup p 0) n b b' r) (sub-zero (length p)) M)
