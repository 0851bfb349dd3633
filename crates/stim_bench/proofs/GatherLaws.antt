-- Parts fed one behind the other, and their lines in the buffer one behind the other: a turn of the loop, and its end. Assumes nothing.
use Prim.Native.Nat.{ℕ, zero, suc, ◌+◌, ◌-◌, ◌≤◌, ◌<◌}
use mathlib.Core.Path.{◌≡◌, refl, sym, ap, ◌∙◌, subst}
use mathlib.Core.List.{List, ◌++◌}
use native.Mathlib.Omega.{arith}
use borrow.Rule.Slice.PartMut.{mid_of, put_mid, mid_len}
use lib.ListN.{length, take, drop, length-append, length-drop}
use lib.Seq.{take_at, drop_at, drop-drop, sets, length-sets}
use Rattle.integers.proofs.Buffers.{to_end, sets_append, put_front, put_part}
use Rattle.session.specs.declared.Session.{Session}
use Rattle.whole_piece.specs.Lines.{enough, lines_in}
use Rattle.whole_piece.proofs.WholePieces.{lines_empty}
use Rattle.stim_bench.specs.Bench.{Feedable, fed_with, part_lines, with_text, IsGathered}
use Rattle.stim_bench.specs.declared.PartFed.{PartFed}
use Rattle.stim_bench.specs.declared.Gathered.{Gathered}
use Rattle.stim_bench.proofs.PartLaws.{Front, front_none, front_more, front_lines, part_to}

-- a part at the front of what is left, and what is left behind it
pub part_cut : (p part rest : List ℕ) (at : ℕ) → drop at p ≡ part ++ rest → part ≡ take (at + length part - at) (drop at p)
part_cut p part rest at e =
    let k : length part ≡ at + length part - at = omega arith in
    sym (take_at part rest (at + length part - at) k) ∙ ap (take (at + length part - at)) (sym e)

pub rest_cut : (p part rest : List ℕ) (at : ℕ) → drop at p ≡ part ++ rest → rest ≡ drop (at + length part) p
rest_cut p part rest at e =
    sym (drop_at part rest (length part) refl) ∙ ap (drop (length part)) (sym e) ∙ drop-drop (length part) at p

module _ (s : Session) (p b : List ℕ) where
  -- the first `at` bytes of p were fed; their lines are n bytes at the front of the buffer, which was b and is b'
  pub record Gathering (b' : List ℕ) (t : Session) (at n : ℕ) : Type 0 where
    pub front : Front s p t at
    pub used : n ≡ length (lines_in s (take at p))
    pub text : b' ≡ sets b 0 (lines_in s (take at p))
    pub same : length b' ≡ length b
    pub fits : n ≤ length b
    pub begun : at ≡ 0 → n ≡ 0

  module _ (F : Feedable s (length p)) where
    pub gathering_none : length s.held ≡ 64 → Gathering b s 0 0
    gathering_none long =
        let none = lines_empty s F.sound in
        record {
          front = front_none s p F long;
          used = ap length (sym none);
          text = ap (sets b 0) (sym none);
          same = refl;
          fits = omega arith;
          begun = λ e. refl;
        }

    module _ {b' : List ℕ} {t : Session} {at n : ℕ} (G : Gathering b' t at n) where
      -- one more part
      module _ {end : ℕ} (more : at < end) (most : end ≤ length p) {r : PartFed} {last : List ℕ} (e : r ≡ part_lines t (take (end - at) (drop at p)))
          (q : last ≡ with_text (lines_in t (take (end - at) (drop at p))) (mid_of n (length b' - n) b')) (l : length last ≡ length (mid_of n (length b' - n) b')) where
        abbrev lines : List ℕ
        lines = lines_in t (take (end - at) (drop at p))

        lines_fit : n + length lines ≤ length b'
        lines_fit =
            omega (
              arith,
              G.fits,
              G.same,
              l,
              ap length q,
              length-append lines (drop (length lines) (mid_of n (length b' - n) b')),
              mid_len n (length b') b' (omega arith),
            )

        pub gathering_more : Gathering (put_mid n (length b' - n) b' last) r.session end (n + r.used)
        gathering_more =
            let a = lines_in s (take at p) in
            let u : r.used ≡ length lines = ap (λ (y : PartFed). y.used) e in
            let k : n ≡ 0 + length a = omega (arith, G.used) in
            let both : lines_in s (take end p) ≡ a ++ lines = front_lines s p F G.front (omega arith) in
            let text : put_mid n (length b' - n) b' last ≡ sets b 0 (lines_in s (take end p)) =
            ap (put_mid n (length b' - n) b') q
            ∙ put_part b' lines n lines_fit
            ∙ ap (λ (y : List ℕ). sets y n lines) G.text
            ∙ ap (λ (m : ℕ). sets (sets b 0 a) m lines) k
            ∙ sym (sets_append b 0 a lines)
            ∙ ap (sets b 0) (sym both)
            in
            record {
              front = subst (λ (y : PartFed). Front s p y.session end) (sym e) (front_more s p F G.front (omega arith) most);
              used = omega (arith, u, G.used, ap length both, length-append a lines);
              text = text;
              same = ap length text ∙ length-sets b 0 (lines_in s (take end p));
              fits = omega (arith, u, lines_fit, G.same);
              begun = λ z. absurd (omega arith);
            }

      -- where no room is left for another part, there was one
      pub gathering_some : enough ≤ length b → length b' - n < enough → 0 < at
      gathering_some room full = by at refl
        where
          by : (k : ℕ) → at ≡ k → 0 < at
          by zero z = absurd (omega (arith, G.begun z, G.same))
          by (suc k) z = omega arith

      pub gathered : (0 < length p → 0 < at) → IsGathered s p b b' (record { session = t; taken = at; used = n })
      gathered some =
          record {
            within = G.front.within;
            some = some;
            session = G.front.session;
            used = G.used;
            text = G.text ∙ put_front b (lines_in s (take at p)) (omega (arith, G.used, G.fits));
          }

-- ---- the bytes from a place on, gathered

-- what is so behind them: more bytes of p were fed, and their lines are what the front of the buffer has
pub record Turn (s : Session) (p : List ℕ) (t : Session) (at : ℕ) (b' : List ℕ) (r : Gathered) : Type 0 where
  pub front : Front s p r.session (at + r.taken)
  pub less : at < at + r.taken
  pub fits : r.used ≤ length b'
  pub lines : take r.used b' ≡ lines_in t (take (at + r.taken - at) (drop at p))

pub turned :
    (s : Session) (p : List ℕ) → Feedable s (length p) → {t : Session} {at : ℕ} → Front s p t at → at < length p
    → {b b' : List ℕ} {r : Gathered} → IsGathered t (take (length p - at) (drop at p)) b b' r → Turn s p t at b' r
turned s p F {t} {at} G h {b} {b'} {r} H =
    let rest : length (take (length p - at) (drop at p)) ≡ length p - at = ap length (to_end p at) ∙ length-drop at p in
    let l = lines_in t (take r.taken (take (length p - at) (drop at p))) in
    let part : take r.taken (take (length p - at) (drop at p)) ≡ take (at + r.taken - at) (drop at p) = part_to p at r.taken (at + r.taken) refl in
    record {
      front =
          subst (λ (x : Session). Front s p x (at + r.taken)) (sym (H.session ∙ ap (fed_with t) part))
          (front_more s p F G (omega arith) (omega (arith, rest, H.within, G.within)));
      less = omega (arith, H.some (omega (arith, rest)));
      fits = omega (arith, H.used, ap length H.text, length-append l (drop (length l) b));
      lines = ap (take r.used) H.text ∙ take_at l (drop (length l) b) r.used (sym H.used) ∙ ap (lines_in t) part;
    }
