-- A helper of proofs, no rule of 01: the lines of a piece, one datagram after another.
use Rattle.std.specs.Prelude.{ℕ, suc, List}
use Rattle.setup.specs.declared.Setup.{Setup}
use Rattle.scan.specs.Scan.{Scanned}
use Rattle.scan.specs.Carry.{tells, told}
use Rattle.history.specs.declared.History.{History}
use Rattle.feeding.specs.Feed.{consumer}
use Rattle.whole_piece.specs.Lines.{line_of, lines_after}

-- the line of the next datagram, and the lines of all that a scan gives
unfoldable pub next_line : Setup → History → List ℕ → List ℕ
next_line u k d = line_of u (suc k.datagrams.0) (tells (consumer u) k d)

unfoldable pub text_of : Setup → History → Scanned → List ℕ
text_of u k g = lines_after u k.datagrams.0 (told (consumer u) k g.datagrams)
