-- 01, What is turned down; 02, 2.1, 2.6: the number of each refusal, and the answer by rules in checking order.
use Rattle.std.specs.Prelude.{ℕ, Result, Ok, Err, List, ◌++◌, codes}
use Rattle.std.specs.Fmt.{decimal}
use Rattle.std.proofs.Math.Option.{Option, none, some}
use Rattle.refusals.specs.declared.Refusal.{Refusal}
use Rattle.refusals.specs.declared.Refusal.TheVariants.{LineLength, FieldCount, FieldForm, RateUnknown, IdentifierUnknown, TerminationUnknown, UnitTooGreat, ShiftTooGreat, GroupNotCarried, SessionUnsound, PieceTooLong, StreamTooLong, LineOutside, LineRoom, DatagramOutside, DatagramRoom, PlacesOrShift, NumberTooGreat, ValueRoom}

-- 1 to 3 of a setup line, 4 to 9 of a setup, 10 to 12 of feeding, 13 and 14 of a text line, 15 and 16 of a datagram to write, 17 to 19 of a value to print
abbrev pub number_of : Refusal → ℕ
number_of LineLength = 1
number_of FieldCount = 2
number_of FieldForm = 3
number_of RateUnknown = 4
number_of IdentifierUnknown = 5
number_of TerminationUnknown = 6
number_of UnitTooGreat = 7
number_of ShiftTooGreat = 8
number_of GroupNotCarried = 9
number_of SessionUnsound = 10
number_of PieceTooLong = 11
number_of StreamTooLong = 12
number_of LineOutside = 13
number_of LineRoom = 14
number_of DatagramOutside = 15
number_of DatagramRoom = 16
number_of PlacesOrShift = 17
number_of NumberTooGreat = 18
number_of ValueRoom = 19

-- what the programs say of it: `refused ` and the number
abbrev pub refusal_text : Refusal → List ℕ
refusal_text e = codes "refused " ++ decimal (number_of e)

-- the number of what refuses, none where nothing does
abbrev pub number_in : Option Refusal → Option ℕ
number_in none = none
number_in (some e) = some (number_of e)

-- accepted, or what refuses
abbrev pub Ruling : Type 0
Ruling = Result (Unit {0}) Refusal

-- a value, where nothing refuses it
abbrev pub unless_refused : {A : Type 0} → Ruling → A → Result A Refusal
unless_refused (Ok accepted) value = Ok value
unless_refused (Err e) value = Err e

-- what refuses, or what comes of the value
abbrev pub and_then : {A B : Type 0} → Result A Refusal → (A → Result B Refusal) → Result B Refusal
and_then (Ok value) f = f value
and_then (Err e) f = Err e
