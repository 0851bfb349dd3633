-- Pieces given in turn to receive_lines, and what is promised of the whole list: the lines, joined, are those of the datagrams that feeding the same
-- pieces hands out. proofs/LinesInTurn.antt has a term of LinesInTurn for every setup that is not refused.
use Rattle.std.specs.Prelude.{ℕ, ◌≤◌, List, [], ◌∷◌, ◌++◌, map, ◌≡◌, length, take, Result, Ok, Err}
use Rattle.setup.specs.declared.Setup.{Setup}
use Rattle.scan.specs.Calls.{Outcome, taken_whole, turned_down, Report}
use Rattle.session.specs.Session.{opening}
use Rattle.session.specs.declared.Session.{Session}
use Rattle.feeding.specs.declared.Datagram.{Datagram}
use Rattle.feeding.specs.Promises.{FedInTurn}
use Rattle.whole_piece.specs.Lines.{lines_after, enough, batch_of, batch_buffer, received_bytes}
use Rattle.refusals.specs.declared.Refusal.{Refusal}

-- the lines that stand at the front of a buffer behind a call, by its answer
abbrev pub lines_given : Result ℕ Refusal → List ℕ → List ℕ
lines_given r b = take (received_bytes r) b

-- what became of the piece, by what refused it
abbrev pub outcome_in : Result ℕ Refusal → Outcome
outcome_in (Ok n) = taken_whole
outcome_in (Err e) = turned_down e

-- Pieces given in turn to receive_lines, from a session, each with a buffer that has at least `enough` bytes; each call gets the session that the
-- one before it returned. The lines that stand in the buffers then, joined, the answer to each piece, and the session at the end
pub data LinesRun : Session → List (List ℕ) → List ℕ → List (Result ℕ Refusal) → Session → Type 0 where
  none : {s : Session} → LinesRun s [] [] [] s
  next :
      {s t : Session} {p : List ℕ} {ps : List (List ℕ)} {text : List ℕ} {answers : List (Result ℕ Refusal)} (b : List ℕ) → enough ≤ length b
      → LinesRun (batch_of s p (length b)).session ps text answers t
      → LinesRun s (p ∷ ps) (lines_given (batch_of s p (length b)).answer (batch_buffer s p b) ++ text) ((batch_of s p (length b)).answer ∷ answers) t

pub record LinesInTurn (u : Setup) : Type 0 where
  -- any pieces can be given so to the session that opening gives
  pub given : (ps : List (List ℕ)) → (text : List ℕ) × (answers : List (Result ℕ Refusal)) × (t : Session) × LinesRun (opening u).session ps text answers t
  -- all lines, joined, are those of the datagrams that feeding the same pieces in turn hands out, from the ordinal 1 on; the session at the end is the
  -- same, and each piece is taken, or turned down, alike
  pub same :
      {ps : List (List ℕ)} {os : List Datagram} {rs : List Report} {t t' : Session} {text : List ℕ} {answers : List (Result ℕ Refusal)}
      → FedInTurn u ps os rs t → LinesRun (opening u).session ps text answers t'
      → (text ≡ lines_after u 0 os) × (t' ≡ t) × (map outcome_in answers ≡ map (λ (r : Report). r.outcome) rs)
