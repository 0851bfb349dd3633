-- What a line whose fields are all well written says of each field.
use Prim.Native.Nat.{ℕ, ◌+◌, ◌≤◌}
use mathlib.Core.Bool.{true, not, ◌&&◌, ◌||◌}
use mathlib.Core.List.{List}
use mathlib.Core.Path.{◌≡◌}
use lib.Dec.{eqb, leb}
use lib.ListN.{length, get_or}
use borrow.Author.Tests.{eqb-true, leb-true}
use Rattle.integers.proofs.Booleans.{and_split}
use Rattle.setup_line.specs.SetupLine.{field_at, is_hex_digit, all_digits, decimal_written, identifier_written, three_written, line_written}

pub decimal_short : (f : List ℕ) → decimal_written f ≡ true → length f ≤ 4
unfolding decimal_written
decimal_short f e =
    let digits = (and_split (leb 1 (length f) && leb (length f) 4 && all_digits f) (eqb (length f) 1 || not (eqb (get_or f 0 0) 0x30)) e).0 in
    let size = (and_split (leb 1 (length f) && leb (length f) 4) (all_digits f) digits).0 in
    leb-true (length f) 4 (and_split (leb 1 (length f)) (leb (length f) 4) size).1

pub identifier_two : (f : List ℕ) → identifier_written f ≡ true → length f ≡ 2
unfolding identifier_written
identifier_two f e =
    eqb-true (length f) 2
    (and_split (eqb (length f) 2) (is_hex_digit (get_or f 0 0)) (and_split (eqb (length f) 2 && is_hex_digit (get_or f 0 0)) (is_hex_digit (get_or f 1 0)) e).0).0

pub record Three (line : List ℕ) (k : ℕ) : Type 0 where
  pub gyro : decimal_written (field_at line k) ≡ true
  pub accelerometer : decimal_written (field_at line (k + 1)) ≡ true
  pub inclinometer : decimal_written (field_at line (k + 2)) ≡ true

pub three : (line : List ℕ) (k : ℕ) → three_written line k ≡ true → Three line k
three line k e =
    let x = decimal_written (field_at line k) in
    let y = decimal_written (field_at line (k + 1)) in
    let last = and_split (x && y) (decimal_written (field_at line (k + 2))) e in
    record { gyro = (and_split x y last.0).0; accelerometer = (and_split x y last.0).1; inclinometer = last.1 }

pub record Fields (line : List ℕ) : Type 0 where
  pub rate : decimal_written (field_at line 0) ≡ true
  pub identifier : identifier_written (field_at line 1) ≡ true
  pub termination : decimal_written (field_at line 2) ≡ true
  pub units : three_written line 3 ≡ true
  pub shifts : three_written line 6 ≡ true

pub fields : (line : List ℕ) → line_written line ≡ true → Fields line
unfolding line_written
fields line e =
    let r = decimal_written (field_at line 0) in
    let i = identifier_written (field_at line 1) in
    let t = decimal_written (field_at line 2) in
    let u = three_written line 3 in
    let last = and_split (r && i && t && u) (three_written line 6) e in
    let fourth = and_split (r && i && t) u last.0 in
    let third = and_split (r && i) t fourth.0 in
    record { rate = (and_split r i third.0).0; identifier = (and_split r i third.0).1; termination = third.1; units = fourth.1; shifts = last.1 }
