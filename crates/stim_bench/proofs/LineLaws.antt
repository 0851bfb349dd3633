-- The first line among the bytes that were read, and the session that it opens. Assumes nothing.
use Prim.Native.Nat.{ℕ, ◌+◌, ◌<◌}
use mathlib.Core.Path.{◌≡◌, sym, ap, ◌∙◌, subst}
use mathlib.Core.List.{List}
use native.Mathlib.Omega.{arith}
use lib.ListN.{length, take}
use Rattle.setup.specs.Setup.{ruling_on}
use Rattle.setup_line.specs.SetupLine.{line_read, line_end}
use Rattle.setup_line.specs.declared.LineRead.{LineRead}
use Rattle.setup_line.proofs.LineAnswers.{accepted_line}
use Rattle.search.specs.Search.{limits_of}
use Rattle.session.specs.Session.{fresh_of, opening}
use Rattle.session.specs.declared.Opened.{Opened}
use Rattle.session.specs.declared.Session.{Session}
use Rattle.session.proofs.Opening.{opened}
use Rattle.admission.proofs.FreshSessions.{fresh_sound}
use Rattle.stim_bench.specs.Bench.{first_line, Opens, HasLeft}
use Rattle.std.specs.Prelude.{Ok}
use Rattle.refusals.specs.Refusals.{Ruling}

-- ---- the line was read out of the bytes

module _ (l : List ℕ) (end : ℕ) (e : end ≡ line_end l) {r : LineRead} (q : r ≡ line_read (take end l)) where
  first : r ≡ line_read (first_line l)
  first = q ∙ ap (λ (n : ℕ). line_read (take n l)) e

  pub line_answer_lem : {a : Ruling} → r.answer ≡ a → (line_read (first_line l)).answer ≡ a
  line_answer_lem a = ap (λ (x : LineRead). x.answer) (sym first) ∙ a

  -- where the line has a 0x0A behind it
  pub line_opens : end < length l → r.answer ≡ Ok tt → {o : Opened} → o ≡ opening r.setup → Opens l o.session (end + 1)
  line_opens h a p =
      record {
        accepted = line_answer_lem a;
        session = ap (λ (x : Opened). x.session) p ∙ ap (λ (x : LineRead). (opening x.setup).session) first;
        place = omega (arith, e);
      }

-- ---- the session that it opens has a session's bytes left

pub opened_left : {l : List ℕ} {s : Session} {from : ℕ} → Opens l s from → HasLeft s (limits_of s.setup).session
unfolding fresh_of
opened_left {l} {s} {from} O =
    let u = (line_read (first_line l)).setup in
    let ok : ruling_on u ≡ Ok tt = (accepted_line (first_line l) O.accepted).1 in
    let f : s ≡ fresh_of u = O.session ∙ ap (λ (x : Opened). x.session) (opened u ok) in
    subst (λ (x : Session). HasLeft x (limits_of x.setup).session) (sym f) (record { sound = fresh_sound u ok; room = omega arith })
