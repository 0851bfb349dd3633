-- The session behind the first bytes of some that are fed one part after the other, and the lines of a part. Assumes nothing.
use Prim.Native.Nat.{ℕ, ◌+◌, ◌-◌, ◌≤◌, ◌<◌}
use mathlib.Core.Path.{◌≡◌, sym, ap, ◌∙◌, subst}
use mathlib.Core.List.{List, ◌++◌}
use native.Mathlib.Omega.{arith}
use borrow.Author.Tests.{le-ltb, lt-ltb}
use lib.ListN.{length, take, drop}
use lib.Seq.{length-take-le, take-add}
use Rattle.integers.proofs.Buffers.{to_end}
use Rattle.search.specs.Search.{limits_of}
use Rattle.session.specs.declared.Session.{Session}
use Rattle.admission.specs.Admission.{piece_ruling}
use Rattle.admission.proofs.Soundness.{sound_facts}
use Rattle.admission.proofs.PieceRulings.{admits}
use Rattle.whole_piece.specs.Lines.{enough, lines_in, buffer_by, batch_of, batch_buffer}
use Rattle.whole_piece.specs.declared.Batch.{Batch}
use Rattle.whole_piece.proofs.LongestLines.{lines_enough}
use Rattle.whole_piece.proofs.Batches.{fitting_lines}
use Rattle.whole_piece.proofs.WholePieces.{session_joined, lines_joined, bytes_sound, session_empty}
use Rattle.stim_bench.specs.Bench.{Feedable, HasLeft, fed_with, part_lines, with_text}
use Rattle.std.specs.Prelude.{Ok, Err}
use Rattle.refusals.specs.declared.Refusal.{Refusal}
use Rattle.refusals.specs.declared.Refusal.TheVariants.{StreamTooLong}

-- ---- the session behind bytes may be fed as many bytes as are left

module _ (s : Session) (p : List ℕ) where
  fed_feedable : {n : ℕ} → Feedable s (length p + n) → Feedable (fed_with s p) n
  unfolding fed_with
  fed_feedable F = record { sound = bytes_sound s p F.sound (omega (arith, F.room)); room = omega (arith, F.room) }

  pub left_behind : {n : ℕ} (k : ℕ) → HasLeft s n → length p + k ≡ n → HasLeft (fed_with s p) k
  unfolding fed_with
  left_behind k H e = record { sound = bytes_sound s p H.sound (omega (arith, H.room)); room = omega (arith, H.room) }

-- where none is left, some more are refused by 12
pub none_left : (s : Session) (n : ℕ) → HasLeft s 0 → 0 < n → n ≤ (limits_of s.setup).piece → piece_ruling s n ≡ Err StreamTooLong
unfolding piece_ruling
none_left s n H some few =
    let l = limits_of s.setup in
    rw (H.sound, le-ltb l.piece n few, lt-ltb l.session (s.fed + n) (omega (arith, H.room)))

-- ---- the first bytes of some

module _ (s : Session) (p : List ℕ) where
  -- the first `at` bytes of p were fed
  pub record Front (t : Session) (at : ℕ) : Type 0 where
    pub within : at ≤ length p
    pub session : t ≡ fed_with s (take at p)

  module _ (F : Feedable s (length p)) where
    pub front_none : length s.held ≡ 64 → Front s 0
    unfolding fed_with
    front_none long = record { within = omega arith; session = sym (session_empty s F.sound long) }

    module _ {t : Session} {at : ℕ} (G : Front t at) where
      -- the rest may be fed
      pub front_feedable : Feedable t (length p - at)
      front_feedable =
          subst (λ (x : Session). Feedable x (length p - at)) (sym G.session)
          (fed_feedable s (take at p) (record { sound = F.sound; room = omega (arith, F.room, G.within, length-take-le at p G.within) }))

      module _ {end : ℕ} (more : at ≤ end) where
        abbrev part : List ℕ
        part = take (end - at) (drop at p)

        both : take end p ≡ take at p ++ part
        both =
            let k : end ≡ at + (end - at) = omega arith in
            ap (λ (m : ℕ). take m p) k ∙ take-add at (end - at) p

        -- the bytes from there to another place were fed too
        pub front_more : end ≤ length p → Front (fed_with t part) end
        unfolding fed_with
        front_more most =
            record {
              within = most;
              session =
                  ap (λ (x : Session). fed_with x part) G.session
                  ∙ session_joined s (take at p) part (sound_facts s F.sound).accepted
                  ∙ ap (fed_with s) (sym both);
            }

        -- and their lines come behind the others
        pub front_lines : lines_in s (take end p) ≡ lines_in s (take at p) ++ lines_in t part
        unfolding fed_with
        front_lines =
            ap (lines_in s) both
            ∙ lines_joined s (take at p) part (sound_facts s F.sound).accepted
            ∙ ap (λ (x : Session). lines_in s (take at p) ++ lines_in x part) (sym G.session)

-- the first k bytes from a place on
pub part_to : (p : List ℕ) (at k end : ℕ) → end ≡ at + k → take k (take (length p - at) (drop at p)) ≡ take (end - at) (drop at p)
part_to p at k end e =
    let m : k ≡ end - at = omega arith in
    ap (take k) (to_end p at) ∙ ap (λ (n : ℕ). take n (drop at p)) m

-- ---- a part that no number refuses

module _ (s : Session) (p b : List ℕ) (F : Feedable s (length p)) (few : length p ≤ (limits_of s.setup).piece) (room : enough ≤ length b) where
  answered : batch_of s p (length b) ≡ record { answer = Ok (length (lines_in s p)); session = fed_with s p }
  unfolding fed_with
  answered =
      let e = admits s (length p) (record { sound = F.sound; piece = few; session = F.room }) in
      fitting_lines s p b e (omega (arith, lines_enough s p e))

  -- its lines are in the buffer
  pub part_written : batch_buffer s p b ≡ with_text (lines_in s p) b
  unfolding batch_buffer
  part_written = ap (λ (x : Batch). buffer_by x.answer (lines_in s p) b) answered

  module _ {r : Batch} (e : r ≡ batch_of s p (length b)) where
    -- what comes back
    pub part_fed : {n : ℕ} → r.answer ≡ Ok n → record { session = r.session; used = n } ≡ part_lines s p
    part_fed {n} a =
        let f = e ∙ answered in
        let t : Ok n ≡ Ok (length (lines_in s p)) = sym a ∙ ap (λ (x : Batch). x.answer) f in
        let m : n ≡ length (lines_in s p) = cc in
        λ i. record { session = (f i).session; used = m i }

    pub part_accepted : {refusal : Refusal} → r.answer ≡ Err refusal → ⊥
    part_accepted {refusal} a =
        let t : Err refusal ≡ Ok (length (lines_in s p)) = sym a ∙ ap (λ (x : Batch). x.answer) (e ∙ answered) in
        let z : ◌≡◌ {A = ℕ} 0 1 = cc in omega arith
