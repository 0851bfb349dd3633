-- Decimals as bytes (01, The text line): `-` before negatives, no leading zeros.
use Rattle.std.specs.Prelude.{ℕ, suc, ◌+◌, ◌/◌, ◌%◌, ◌<◌, List, [], ◌∷◌, ◌++◌, ℤ, pos, negsuc}
use Rattle.std.proofs.Math.Decide.{dec_lt}
use Rattle.std.proofs.Common.{arith}
use mathlib.Core.WellFounded.{Acc}
use lib.WfN.{lt-wf_rel}

-- the digits of n from those of the smaller numbers: below 10 its digit, and else the digits of n / 10 and then that of n % 10
unfoldable pub digits_by : (n : ℕ) → Dec (n < 10) → ((m : ℕ) → m < n → List ℕ) → List ℕ
digits_by n (yes single) shorter = (0x30 + n) ∷ []
digits_by n (no longer) shorter = shorter (n / 10) (omega arith) ++ (0x30 + n % 10) ∷ []

-- so for every n, down the order of the numbers, in which each is reached from the smaller ones (`Acc`)
unfoldable pub digits_from : (n : ℕ) → Acc ◌<◌ n → List ℕ
digits_from n (Acc.intro m below) = digits_by m (dec_lt m 10) (λ k l. digits_from k (below k l))

-- an unsigned number
unfoldable pub digits : ℕ → List ℕ
digits n = digits_from n (lt-wf_rel.wf.apply n)

-- a signed number
unfoldable pub decimal : ℤ → List ℕ
decimal (pos n) = digits n
decimal (negsuc n) = 0x2D ∷ digits (suc n)

-- the last three digits of a number, zeros included
abbrev pub last_three : ℕ → List ℕ
last_three n = (0x30 + n / 100 % 10) ∷ (0x30 + n / 10 % 10) ∷ (0x30 + n % 10) ∷ []
