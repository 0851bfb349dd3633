use mathlib.Core.Path.{◌≡◌, sym, ap, ◌∙◌}
use native.Mathlib.Omega.{arith}
use Prim.Native.Nat.{◌+◌, ◌≤◌}
use lib.ListN.{length, get_or}
use Rattle.setup.specs.Layout.{sum}
use Rattle.special.specs.Special.{fields_of, special_length}
use Rattle.special.proofs.Specials.{check_place, tested, length_told, length_other, place_within, other_length, none_special}
use Rattle.special.proofs.is_special.Goals as goal

pub returns-in_default : goal.returns-in_default
returns-in_default c = let h = c.in_default.ensures.lookup in sym (none_special c.args.s.now (omega arith))

pub returns-then-ne : goal.returns-then-ne
returns-then-ne c =
    let s = c.args.s.now in
    let b = c.in-Some.field-0.now in
    let some : 1 ≤ length s = let h = c.in-Some.ensures.lookup in omega arith in
    let first : b ≡ get_or s 0 0 = c.in-Some.ensures.lookup.3.1 0 in
    let other = length_other b (length s) some (rw c.length_of.ensures at c.if-ne.ensures) in
    sym (other_length s (rw first at other))

pub ending_right-requires : goal.ending_right-requires
ending_right-requires c =
    let s = c.args.s.now in
    let b = c.in-Some.field-0.now in
    let some : 1 ≤ length s = let h = c.in-Some.ensures.lookup in omega arith in
    let long : length s ≡ special_length b = length_told b (length s) (rw c.length_of.ensures at c.if-ne.ensures) in
    let place : c.check_place-place.result ≡ check_place b = c.check_place-place.ensures ∙ ap (λ k. 1 + sum (fields_of k)) c.kind_of.ensures in
    omega (arith, place, place_within b (length s) some long)

pub check_right-requires : goal.check_right-requires
check_right-requires c =
    let s = c.args.s.now in
    let b = c.in-Some.field-0.now in
    let some : 1 ≤ length s = let h = c.in-Some.ensures.lookup in omega arith in
    let long : length s ≡ special_length b = length_told b (length s) (rw c.length_of.ensures at c.if-ne.ensures) in
    let place : c.check_place-place.result ≡ check_place b = c.check_place-place.ensures ∙ ap (λ k. 1 + sum (fields_of k)) c.kind_of.ensures in
    omega (arith, place, place_within b (length s) some long)

pub returns-then-ending_right : goal.returns-then-ending_right
returns-then-ending_right c =
    let s = c.args.s.now in
    let b = c.in-Some.field-0.now in
    let some : 1 ≤ length s = let h = c.in-Some.ensures.lookup in omega arith in
    let first : b ≡ get_or s 0 0 = c.in-Some.ensures.lookup.3.1 0 in
    let long : length s ≡ special_length b = length_told b (length s) (rw c.length_of.ensures at c.if-ne.ensures) in
    let place : c.check_place-place.result ≡ check_place b = c.check_place-place.ensures ∙ ap (λ k. 1 + sum (fields_of k)) c.kind_of.ensures in
    rw (tested s some (rw first at long), ← first, ← place, ← c.ending_right.ensures, c.if-ending_right.true) c.check_right.ensures

pub returns-else-ending_right : goal.returns-else-ending_right
returns-else-ending_right c =
    let s = c.args.s.now in
    let b = c.in-Some.field-0.now in
    let some : 1 ≤ length s = let h = c.in-Some.ensures.lookup in omega arith in
    let first : b ≡ get_or s 0 0 = c.in-Some.ensures.lookup.3.1 0 in
    let long : length s ≡ special_length b = length_told b (length s) (rw c.length_of.ensures at c.if-ne.ensures) in
    let place : c.check_place-place.result ≡ check_place b = c.check_place-place.ensures ∙ ap (λ k. 1 + sum (fields_of k)) c.kind_of.ensures in
    rw (tested s some (rw first at long), ← first, ← place, ← c.ending_right.ensures, c.if-ending_right.false)
