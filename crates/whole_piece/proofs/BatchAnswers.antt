-- What 01 says of the answer, the session and the lent buffer of receive_lines, by the number that comes out. Assumes nothing.
use Prim.Native.Nat.{ℕ, ◌≤◌}
use mathlib.Core.Path.{◌≡◌, refl, ap}
use mathlib.Core.List.{List, ◌++◌}
use mathlib.Core.Option.{Option, none, some}
use borrow.Author.Tests.{ltb-false}
use lib.ListN.{length, drop}
use Rattle.setup.specs.Setup.{first_refusal, first_number, ruling_with}
use Rattle.setup.proofs.Rules.{none_refusal, some_refusal, none_refuses}
use Rattle.session.specs.declared.Session.{Session}
use Rattle.feeding.specs.Feed.{session_of}
use Rattle.whole_piece.specs.declared.Batch.{Batch}
use Rattle.whole_piece.specs.Lines.{lines_in, behind, refusing, batch_with, batch_rules, batch_of, received_number, received_bytes, buffer_by, batch_buffer}
use Rattle.std.specs.Prelude.{Ok}
use Rattle.refusals.specs.Refusals.{number_in}
use Rattle.refusals.specs.declared.Refusal.{Refusal}

module _ (s : Session) (p b : List ℕ) where
  abbrev rules_refusal : Option Refusal
  rules_refusal = first_refusal (batch_rules s p (length b))

  -- the number is that of the first rule that applies
  pub batch_number : received_number (batch_of s p (length b)).answer ≡ first_number (batch_rules s p (length b))
  unfolding batch_of
  batch_number = by rules_refusal
    where
      by : (o : Option Refusal) → received_number (batch_with (ruling_with o) s p).answer ≡ number_in o
      by none = refl
      by (some e) = refl

  -- a refusal gives back the session as given, and writes nothing
  refused_batch : {e : Refusal} → rules_refusal ≡ some e → batch_of s p (length b) ≡ refusing s e
  unfolding batch_of
  refused_batch q = ap (λ (o : Option Refusal). batch_with (ruling_with o) s p) q

  pub batch_refused :
      {n : ℕ} → first_number (batch_rules s p (length b)) ≡ some n
      → ((batch_of s p (length b)).session ≡ s) × (received_bytes (batch_of s p (length b)).answer ≡ 0) × (batch_buffer s p b ≡ b)
  unfolding batch_buffer
  batch_refused e =
      let r = refused_batch (some_refusal (batch_rules s p (length b)) e).1 in (
        ap (λ (x : Batch). x.session) r,
        ap (λ (x : Batch). received_bytes x.answer) r,
        ap (λ (x : Batch). buffer_by x.answer (lines_in s p) b) r,
      )

  -- else the lines stand at the front, which has room for them
  written_batch :
      first_number (batch_rules s p (length b)) ≡ none
      → batch_of s p (length b) ≡ record { answer = Ok (length (lines_in s p)); session = session_of s.setup (behind s p) }
  unfolding batch_of
  written_batch e = ap (λ (o : Option Refusal). batch_with (ruling_with o) s p) (none_refusal (batch_rules s p (length b)) e)

  pub batch_written :
      first_number (batch_rules s p (length b)) ≡ none
      → (length (lines_in s p) ≤ length b)
      × (received_bytes (batch_of s p (length b)).answer ≡ length (lines_in s p))
      × (batch_buffer s p b ≡ lines_in s p ++ drop (length (lines_in s p)) b)
  unfolding batch_buffer
  batch_written e =
      let r = written_batch e in
      let k = none_refuses (batch_rules s p (length b)) (none_refusal (batch_rules s p (length b)) e) in (
        ltb-false (length b) (length (lines_in s p)) k.1.1.1.0,
        ap (λ (x : Batch). received_bytes x.answer) r,
        ap (λ (x : Batch). buffer_by x.answer (lines_in s p) b) r,
      )
