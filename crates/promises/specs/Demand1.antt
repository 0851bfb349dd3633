-- Demand 1 (00-mission): of each call that 01 and 02 name, and of the two that write lines beside it, what comes back of the memory lent to it, and
-- which numbers can come out.
-- Received bytes are lent as `&[u8]`, which no function can write; that every call ends, and judges its own input, is the language's: no public
-- function has a `requires`, save `map` and `map_with` of `groups`, whose closure must be callable.
use Rattle.std.specs.Prelude.{ℕ, ◌^◌, ◌≤◌, ◌<◌, true, false, List, [], ◌∷◌, ◌++◌, ◌⊎◌, ◌≡◌, ℤ, nat_abs, length, drop, replicate}
use Rattle.std.proofs.Math.Option.{Option, none, some}
use Rattle.refusals.specs.Refusals.{number_of}
use Rattle.refusals.specs.declared.Refusal.{Refusal}
use Rattle.setup.specs.Setup.{Rule, first_number, ruling_number, setup_number, ruling_on, zero_setup, length_of}
use Rattle.setup.specs.declared.Setup.{Setup}
use Rattle.setup_line.specs.SetupLine as line
use Rattle.made_datagram.specs.Making as making
use Rattle.made_datagram.specs.Making.{made_datagram, making_rules, made_number, made_bytes, made_answer, made_buffer}
use Rattle.made_datagram.specs.declared.Values.{Values}
use Rattle.gaps.specs.declared.Gap.{Gap}
use Rattle.motion.specs.Totals.{no_axis, axis_at}
use Rattle.motion.specs.Totals.{Totals}
use Rattle.shown_line.specs.ShownLine.{shown_text, outside, shown_rules, written_number, written_bytes, shown_answer, shown_buffer}
use Rattle.shown_line.specs.declared.Shown.{Shown}
use Rattle.printed_value.specs.PrintedValue.{value_text, value_rules, printed_refusal, printed_bytes, printed_answer, printed_buffer}
use Rattle.text.specs.TextLine.{line_text, line_rules, line_answer, line_buffer}
use Rattle.doubt.specs.Doubt.{no_doubt, doubt_at}
use Rattle.scan.specs.Calls.{Report}
use Rattle.session.specs.Session.{opening}
use Rattle.session.specs.declared.Session.{Session}
use Rattle.admission.specs.Admission.{piece_number}
use Rattle.feeding.specs.Feed.{answer_number, refusal, feed_of, Calls}
use Rattle.feeding.specs.declared.Datagram.{Datagram}
use Rattle.whole_piece.specs.Lines.{received_number, received_bytes, lines_after, lines_in, batch_rules, batch_of, batch_buffer}

-- a number from the one to the other
abbrev pub Between : ℕ → ℕ → ℕ → Type 0
Between low high n = (low ≤ n) × (n ≤ high)

-- reading a setup line, `setup_line::read_line`
pub record LineRead (l : List ℕ) : Type 0 where
  -- the first of 1 to 9 that applies refuses it
  pub number : ruling_number (line.line_read l).answer ≡ first_number (line.line_rules l)
  pub numbers : {n : ℕ} → ruling_number (line.line_read l).answer ≡ some n → Between 1 9 n
  -- a refused line gives back a setup of zeros, an accepted one the values that it writes, which are accepted as values too
  pub refused : {n : ℕ} → ruling_number (line.line_read l).answer ≡ some n → (line.line_read l).setup ≡ zero_setup
  pub accepted :
      ruling_number (line.line_read l).answer ≡ none → ((line.line_read l).setup ≡ line.setup_written l) × (setup_number (line.line_read l).setup ≡ none)

-- a setup given as values, `setup::judge`
pub record SetupJudged (u : Setup) : Type 0 where
  -- the first of 4 to 9 that applies refuses it
  pub number : ruling_number (ruling_on u) ≡ setup_number u
  pub numbers : {n : ℕ} → setup_number u ≡ some n → Between 4 9 n

-- a session of a setup that holds nothing and has counted nothing
pub record IsFresh (u : Setup) (s : Session) : Type 0 where
  pub setup : s.setup ≡ u
  pub held : s.held ≡ replicate 64 0
  pub counts : (s.count ≡ 0) × (s.passed ≡ 0) × (s.fed ≡ 0)
  pub datagrams : (s.history.datagrams.0 ≡ 0) × (s.history.previous ≡ 0)
  pub axes : (group axis : ℕ) → group < 3 → axis < 3 → axis_at s.history.axes group axis ≡ no_axis
  pub doubt : (axis : ℕ) → axis < 3 → doubt_at s.history.doubt axis ≡ no_doubt

-- opening a session of it, `session::open`
pub record SessionOpened (u : Setup) : Type 0 where
  -- by the same number, with a session of zeros; or with a fresh one
  pub number : ruling_number (opening u).answer ≡ setup_number u
  pub numbers : {n : ℕ} → ruling_number (opening u).answer ≡ some n → Between 4 9 n
  pub refused : {n : ℕ} → setup_number u ≡ some n → IsFresh zero_setup (opening u).session
  pub accepted : setup_number u ≡ none → IsFresh u (opening u).session

-- feeding a piece, `receiver::feed`
pub record PieceFed (s : Session) (p : List ℕ) : Type 0 where
  -- the first of 10 to 12 that applies refuses it; no bytes are taken then, the session comes back as given, and zeros stand in the datagram's place
  pub number : answer_number (feed_of s p).answer ≡ piece_number s (length p)
  pub numbers : {n : ℕ} → piece_number s (length p) ≡ some n → Between 10 12 n
  pub refused : {n : ℕ} → piece_number s (length p) ≡ some n → (e : Refusal) × (number_of e ≡ n) × (feed_of s p ≡ refusal s e)

-- a text t for the front of the lent buffer b: the number that comes out, the bytes told, and the buffer at exit, b'
pub record AtFront (rules : List Rule) (t b : List ℕ) (number : Option ℕ) (told : ℕ) (b' : List ℕ) : Type 0 where
  -- the first rule that applies refuses it
  pub ruled : number ≡ first_number rules
  -- then nothing is written
  pub refused : {n : ℕ} → number ≡ some n → b' ≡ b
  -- else the text stands there, whole, and every later byte is as it was; the number of its bytes comes back
  pub written : number ≡ none → (length t ≤ length b) × (told ≡ length t) × (b' ≡ t ++ drop (length t) b)

-- writing a text line into the lent buffer b, `text::write_line`
pub record LineWritten
    (b : List ℕ) (u : Setup) (ordinal counter latency : ℕ) (gap : Gap) (readings : List (List ℤ)) (statuses : List ℕ) (totals : Totals) : Type 0 where
  -- by 4 to 9, 13 and 14, or the line
  pub front :
      let text = line_text u ordinal counter latency gap readings statuses totals in
      let answer = line_answer b u ordinal counter latency gap readings statuses totals in
      AtFront (line_rules u ordinal readings totals text (length b)) text b (written_number answer) (written_bytes answer)
      (line_buffer b u ordinal counter latency gap readings statuses totals)
  pub numbers :
      {n : ℕ} → written_number (line_answer b u ordinal counter latency gap readings statuses totals) ≡ some n → Between 4 9 n ⊎ Between 13 14 n
  -- 4 to 9 are checked first; 14 refuses a line that nothing before it does exactly if the buffer is shorter than the line
  pub setup_first :
      {n : ℕ} → setup_number u ≡ some n → written_number (line_answer b u ordinal counter latency gap readings statuses totals) ≡ some n
  pub fits :
      setup_number u ≡ none → outside ordinal readings totals ≡ false
      → length (line_text u ordinal counter latency gap readings statuses totals) ≤ length b
      → written_number (line_answer b u ordinal counter latency gap readings statuses totals) ≡ none
  pub too_long :
      setup_number u ≡ none → outside ordinal readings totals ≡ false
      → length b < length (line_text u ordinal counter latency gap readings statuses totals)
      → written_number (line_answer b u ordinal counter latency gap readings statuses totals) ≡ some 14

-- the same of what is shown, whatever the setup, `text_line::write_shown`
pub record ShownWritten
    (b : List ℕ) (shown : Shown) (ordinal counter latency : ℕ) (gap : Gap) (readings : List (List ℤ)) (statuses : List ℕ) (totals : Totals) : Type 0 where
  -- by 13 and 14, or the line
  pub front :
      let text = shown_text shown ordinal counter latency gap readings statuses totals in
      let answer = shown_answer b shown ordinal counter latency gap readings statuses totals in
      AtFront (shown_rules ordinal readings totals text (length b)) text b (written_number answer) (written_bytes answer)
      (shown_buffer b shown ordinal counter latency gap readings statuses totals)
  pub numbers :
      {n : ℕ} → written_number (shown_answer b shown ordinal counter latency gap readings statuses totals) ≡ some n → Between 13 14 n
  -- 14 refuses a line that 13 doesn't exactly if the buffer is shorter than the line
  pub fits :
      outside ordinal readings totals ≡ false → length (shown_text shown ordinal counter latency gap readings statuses totals) ≤ length b
      → written_number (shown_answer b shown ordinal counter latency gap readings statuses totals) ≡ none
  pub too_long :
      outside ordinal readings totals ≡ false → length b < length (shown_text shown ordinal counter latency gap readings statuses totals)
      → written_number (shown_answer b shown ordinal counter latency gap readings statuses totals) ≡ some 14

-- feeding a piece to its end with its lines into the lent buffer b, `lines::receive_lines`
pub record PieceReceived (s : Session) (p b : List ℕ) : Type 0 where
  -- by 10 to 12 and 14, or the lines
  pub front :
      let r = (batch_of s p (length b)).answer in
      AtFront (batch_rules s p (length b)) (lines_in s p) b (received_number r) (received_bytes r) (batch_buffer s p b)
  pub numbers : {n : ℕ} → received_number (batch_of s p (length b)).answer ≡ some n → Between 10 12 n ⊎ (n ≡ 14)
  -- with a refusal the session comes back as given, and no bytes are told
  pub refused :
      {n : ℕ} → received_number (batch_of s p (length b)).answer ≡ some n
      → ((batch_of s p (length b)).session ≡ s) × (received_bytes (batch_of s p (length b)).answer ≡ 0)
  -- 14 refuses a piece that feeding doesn't exactly if the buffer is shorter than the lines
  pub fits : piece_number s (length p) ≡ none → length (lines_in s p) ≤ length b → received_number (batch_of s p (length b)).answer ≡ none
  pub too_long : piece_number s (length p) ≡ none → length b < length (lines_in s p) → received_number (batch_of s p (length b)).answer ≡ some 14
  -- it never does if the buffer has 72,000 bytes
  pub room : piece_number s (length p) ≡ none → length (lines_in s p) ≤ 72000
  -- and these are the lines of the datagrams that calls of feeding hand out until the piece is taken, which leave the same session
  pub same :
      length s.held ≡ 64 → received_number (batch_of s p (length b)).answer ≡ none
      → {os : List Datagram} {rs : List Report} {t : Session} → Calls s (p ∷ []) os rs t
      → (lines_in s p ≡ lines_after s.setup s.history.datagrams.0 os) × ((batch_of s p (length b)).session ≡ t)
  pub runs :
      length s.held ≡ 64 → received_number (batch_of s p (length b)).answer ≡ none
      → (os : List Datagram) × (rs : List Report) × (t : Session) × Calls s (p ∷ []) os rs t

-- writing a datagram into the lent buffer b, `making::write_datagram` (02, 2.1)
pub record DatagramMade (b : List ℕ) (u : Setup) (readings : List (List ℤ)) (v : Values) : Type 0 where
  -- by 4 to 9, 15 and 16, or the datagram
  pub front :
      let answer = made_answer b u readings v in
      AtFront (making_rules u readings v (length b)) (made_datagram u readings v) b (made_number answer) (made_bytes answer) (made_buffer b u readings v)
  pub numbers : {n : ℕ} → made_number (made_answer b u readings v) ≡ some n → Between 4 9 n ⊎ Between 15 16 n
  -- 4 to 9 are checked first, then 15, then 16, which refuses exactly a buffer shorter than L; L is the number of bytes told
  pub setup_first : {n : ℕ} → setup_number u ≡ some n → made_number (made_answer b u readings v) ≡ some n
  pub outside : setup_number u ≡ none → making.outside u readings v ≡ true → made_number (made_answer b u readings v) ≡ some 15
  pub too_short :
      setup_number u ≡ none → making.outside u readings v ≡ false → length b < length_of u → made_number (made_answer b u readings v) ≡ some 16
  pub fits :
      setup_number u ≡ none → making.outside u readings v ≡ false → length_of u ≤ length b
      → (made_number (made_answer b u readings v) ≡ none) × (made_bytes (made_answer b u readings v) ≡ length_of u)

-- printing a value into the lent buffer b, `printing::print_value` (02, 2.6)
pub record ValuePrinted (b : List ℕ) (n : ℤ) (shift places : ℕ) : Type 0 where
  -- by 17 to 19, or the text
  pub front :
      let answer = printed_answer b n shift places in
      AtFront (value_rules n shift places (length b)) (value_text n shift places) b (printed_refusal answer) (printed_bytes answer)
      (printed_buffer b n shift places)
  pub numbers : {k : ℕ} → printed_refusal (printed_answer b n shift places) ≡ some k → Between 17 19 k
  -- 17 comes first, then 18, then 19, which refuses exactly a buffer shorter than the text
  pub out_of_range : (9 < places) ⊎ (31 < shift) → printed_refusal (printed_answer b n shift places) ≡ some 17
  pub beyond : places ≤ 9 → shift ≤ 31 → 2 ^ 53 < nat_abs n → printed_refusal (printed_answer b n shift places) ≡ some 18
  pub too_short :
      places ≤ 9 → shift ≤ 31 → nat_abs n ≤ 2 ^ 53 → length b < length (value_text n shift places)
      → printed_refusal (printed_answer b n shift places) ≡ some 19
  pub fits :
      places ≤ 9 → shift ≤ 31 → nat_abs n ≤ 2 ^ 53 → length (value_text n shift places) ≤ length b
      → printed_refusal (printed_answer b n shift places) ≡ none
  -- it never does if the buffer has 27 bytes
  pub room : places ≤ 9 → nat_abs n ≤ 2 ^ 53 → length (value_text n shift places) ≤ 27

pub record Demand1 : Type 0 where
  pub line_read : (l : List ℕ) → LineRead l
  pub setup_judged : (u : Setup) → SetupJudged u
  pub session_opened : (u : Setup) → SessionOpened u
  pub piece_fed : (s : Session) (p : List ℕ) → PieceFed s p
  pub line_written_lem :
      (b : List ℕ) (u : Setup) (ordinal counter latency : ℕ) (gap : Gap) (readings : List (List ℤ)) (statuses : List ℕ) (totals : Totals)
      → LineWritten b u ordinal counter latency gap readings statuses totals
  pub shown_written :
      (b : List ℕ) (shown : Shown) (ordinal counter latency : ℕ) (gap : Gap) (readings : List (List ℤ)) (statuses : List ℕ) (totals : Totals)
      → ShownWritten b shown ordinal counter latency gap readings statuses totals
  pub piece_received : (s : Session) (p b : List ℕ) → PieceReceived s p b
  pub datagram_made : (b : List ℕ) (u : Setup) (readings : List (List ℤ)) (v : Values) → DatagramMade b u readings v
  pub value_printed : (b : List ℕ) (n : ℤ) (shift places : ℕ) → ValuePrinted b n shift places
