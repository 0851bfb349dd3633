-- The values tested and the datagram written, of an identifier that is listed, are those of its row.
use mathlib.Core.List.{List}
use mathlib.Core.Path.{◌≡◌, ap}
use lib.IntN.{ℤ}
use Rattle.setup.specs.Layout.{Part, parts_of, row_at, layout_of}
use Rattle.setup.specs.Setup.{terminated}
use Rattle.setup.specs.Sensor.{row_of}
use Rattle.setup.specs.declared.Row.{Row}
use Rattle.setup.specs.declared.Setup.{Setup}
use Rattle.setup.proofs.Rows.{listed_parts}
use Rattle.made_datagram.specs.declared.Values.{Values}
use Rattle.made_datagram.specs.Making.{given, datagram_in, made_datagram, outside_in, outside}
use Rattle.std.specs.Prelude.{Option, Some}

module _ (u : Setup) {r : Row} (listed : row_at u.identifier ≡ Some r) (readings : List (List ℤ)) (v : Values) where
  pub row_outside : outside u readings v ≡ outside_in (parts_of r) (given u.identifier readings v)
  unfolding outside
  row_outside = ap (λ (ps : List Part). outside_in ps (given u.identifier readings v)) (listed_parts u.identifier listed)

  pub row_datagram : made_datagram u readings v ≡ datagram_in (layout_of r (terminated u)) (given u.identifier readings v)
  unfolding made_datagram
  row_datagram = ap (λ (k : Option Row). datagram_in (layout_of (row_of k) (terminated u)) (given u.identifier readings v)) listed
