-- A session of its parts, a fresh one, and what opening gives (01, The scan; What is turned down, 4 to 9).
use Rattle.std.specs.Prelude.{ℕ, Bool, true, false, List, [], ◌∷◌, length, Ok, Err}
use Rattle.integers.specs.Buffers.{padded}
use Rattle.setup.specs.Setup.{ruling_on, zero_setup}
use Rattle.setup.specs.declared.Setup.{Setup}
use Rattle.history.specs.History.{no_history}
use Rattle.history.specs.declared.History.{History}
use Rattle.session.specs.declared.Session.{Session}
use Rattle.session.specs.declared.Opened.{Opened}
use Rattle.refusals.specs.Refusals.{Ruling}

-- ---- a fresh session, and opening

-- a session of its parts: the setup, what it keeps of the datagrams, the bytes passed over and fed, the bytes held with zeros behind them
abbrev pub session_with : Setup → History → ℕ → ℕ → List ℕ → Session
session_with u h passed fed held = record { setup = u; held = padded 64 held; count = length held; passed = passed; fed = fed; history = h }

-- a fresh session holds nothing
unfoldable pub fresh_of : Setup → Session
fresh_of u = session_with u no_history 0 0 []

-- whether a setup is accepted
abbrev pub is_accepted : Ruling → Bool
is_accepted (Ok accepted) = true
is_accepted (Err e) = false

-- opening gives a fresh session, or refuses the setup by 4 to 9 and gives a session of zeros
abbrev pub opened_by : Ruling → Setup → Session
opened_by (Ok accepted) u = fresh_of u
opened_by (Err e) u = fresh_of zero_setup

unfoldable pub opening : Setup → Opened
opening u = record { answer = ruling_on u; session = opened_by (ruling_on u) u }
