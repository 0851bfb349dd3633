-- 02, 2.1: what is written is accepted and read as the same fields, and an accepted Normal Mode datagram written again has the same bytes; so what is
-- written, fed, is handed out with those fields.
use Rattle.std.specs.Prelude.{ℕ, ◌+◌, ◌≤◌, true, false, List, [], ◌∷◌, ◌++◌, map, ◌≡◌, ℤ, length, drop}
use Rattle.std.proofs.Math.Option.{none}
use Rattle.integers.specs.Bytes.{joined}
use Rattle.setup.specs.Setup.{length_of}
use Rattle.setup.specs.declared.Setup.{Setup}
use Rattle.wire.specs.Fields.{fields_of}
use Rattle.made_datagram.specs.Making.{made_datagram, outside, field_values, values_read, made_number, made_bytes, made_answer, made_buffer}
use Rattle.made_datagram.specs.RoundTrip.{Shaped}
use Rattle.made_datagram.specs.declared.Values.{Values}
use Rattle.scan.specs.Calls.{datagram}
use Rattle.scan.specs.Stream.{Among}
use Rattle.search.specs.Search.{is_datagram, limits_of}
use Rattle.session.specs.declared.Session.{Session}
use Rattle.admission.specs.SoundSession.{PassesTen}
use Rattle.feeding.specs.declared.Reply.{Reply}
use Rattle.feeding.specs.Feed.{feed_of, call}

-- values for a datagram of a setup: three by three readings and the others, which 15 lets pass
pub record Given (u : Setup) : Type 0 where
  pub readings : List (List ℤ)
  pub values : Values
  pub shaped : Shaped readings values
  pub inside : outside u readings values ≡ false

module _ {u : Setup} where
  -- the datagram that is written for them
  abbrev pub made_of : Given u → List ℕ
  made_of g = made_datagram u g.readings g.values

  -- it is taken whole, nothing is held behind it, and it comes back with those fields
  pub record ComesBack (g : Given u) (r : Reply) : Type 0 where
    pub taken : r.taken ≡ length_of u
    pub held : r.session.count ≡ 0
    pub readings : r.datagram.gyro ∷ r.datagram.accelerometer ∷ r.datagram.inclinometer ∷ [] ≡ g.readings
    pub values : field_values r.datagram.fields ≡ g.values

pub record MadeHere (u : Setup) : Type 0 where
  -- it is acceptable and read as exactly those fields
  pub acceptable : (g : Given u) → (is_datagram u (made_of g) ≡ true) × (length (made_of g) ≡ length_of u)
  pub read :
      (g : Given u)
      → ((fields_of u.identifier (made_of g)).readings ≡ g.readings) × (values_read (fields_of u.identifier (made_of g)) ≡ g.values)
  -- the fields of an acceptable datagram can be given, and with L bytes of buffer or more, writing them answers L and gives the same bytes
  pub given_again :
      (d : List ℕ) → is_datagram u d ≡ true
      → Shaped (fields_of u.identifier d).readings (values_read (fields_of u.identifier d))
      × (outside u (fields_of u.identifier d).readings (values_read (fields_of u.identifier d)) ≡ false)
  pub written_again :
      (d b : List ℕ) → is_datagram u d ≡ true → length_of u ≤ length b
      → let readings = (fields_of u.identifier d).readings in
      let values = values_read (fields_of u.identifier d) in
      (made_number (made_answer b u readings values) ≡ none) × (made_bytes (made_answer b u readings values) ≡ length_of u)
      × (made_buffer b u readings values ≡ d ++ drop (length_of u) b)
  -- so no two datagrams read alike
  pub told_apart :
      (d e : List ℕ) → is_datagram u d ≡ true → is_datagram u e ≡ true → fields_of u.identifier d ≡ fields_of u.identifier e → d ≡ e
  -- fed to a session of the setup that 10 lets pass, that holds nothing and has room for L bytes more, it is handed out with those fields
  pub fed :
      (g : Given u) (s : Session) → PassesTen s → s.setup ≡ u → s.count ≡ 0 → s.fed + length_of u ≤ (limits_of u).session
      → ((call s (made_of g)).answer ≡ datagram (feed_of s (made_of g)).datagram) × ComesBack g (feed_of s (made_of g))
  -- a capture of what is written, one behind the other, is these datagrams, which demand 2 speaks of, however it is cut into pieces
  pub captured : (gs : List (Given u)) → Among (is_datagram u) (joined (map made_of gs)) (map made_of gs)
