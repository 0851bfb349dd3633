-- The fields of a line as the code puts them: the first, and then each behind its comma.
use mathlib.Core.Path.{◌≡◌, refl, sym, ap, ◌∙◌, subst}
use mathlib.Core.List.{List, [], ◌∷◌, ◌++◌, append_assoc, append-nil}
use Prim.Native.Nat.{ℕ, ◌+◌, ◌≤◌}
use native.Mathlib.Omega.{arith}
use lib.ListN.{length, length-append}
use lib.IntN.{ℤ}
use Rattle.gaps.specs.declared.Gap.{Gap}
use Rattle.motion.specs.Totals.{Totals}
use Rattle.shown_line.specs.Decimal.{digits}
use Rattle.integers.specs.Buffers.{Put}
use Rattle.shown_line.specs.Putting.{behind, heading_text}
use Rattle.shown_line.specs.ShownLine.{missed_field, groups_fields, shown_fields, parted, shown_text}
use Rattle.shown_line.specs.declared.Shown.{Shown}
use Rattle.integers.proofs.Buffers.{then_put, put_length}

pub behind_append : (xs ys : List (List ℕ)) → behind (xs ++ ys) ≡ behind xs ++ behind ys
behind_append [] ys = refl
behind_append (x ∷ xs) ys = ap (λ t. (0x2C ∷ x) ++ t) (behind_append xs ys) ∙ sym (append_assoc (0x2C ∷ x) (behind xs) (behind ys))

pub parted_behind : (f : List ℕ) (fs : List (List ℕ)) → parted (f ∷ fs) ≡ f ++ behind fs
unfolding parted
parted_behind f [] = sym (append-nil f)
parted_behind f (g ∷ gs) = ap (λ t. f ++ 0x2C ∷ t) (parted_behind g gs)

-- where there is room for some fields and more, there is room for the first ones
pub room_fields : (xs ys : List (List ℕ)) (at : ℕ) {n : ℕ} → at + length (behind (xs ++ ys)) ≤ n → at + length (behind xs) ≤ n
room_fields xs ys at h = omega (arith, ap length (behind_append xs ys), length-append (behind xs) (behind ys))

module _ (xs ys : List (List ℕ)) {b b1 : List ℕ} {at mid : ℕ} (p : Put b at (behind xs) b1 mid) where
  -- and then for the others
  pub room_more : at + length (behind (xs ++ ys)) ≤ length b → mid + length (behind ys) ≤ length b1
  room_more h = omega (arith, put_length p, p.place, ap length (behind_append xs ys), length-append (behind xs) (behind ys))

  pub then_fields : {b2 : List ℕ} {end : ℕ} → Put b1 mid (behind ys) b2 end → Put b at (behind (xs ++ ys)) b2 end
  then_fields {b2} {end} q = subst (λ t. Put b at t b2 end) (sym (behind_append xs ys)) (then_put p q)

-- and for the first one alone
pub room_field : (f : List ℕ) (fs : List (List ℕ)) (at : ℕ) {n : ℕ} → at + length (behind (f ∷ fs)) ≤ n → at + length (0x2C ∷ f) ≤ n
room_field f fs at h = omega (arith, length-append (0x2C ∷ f) (behind fs))

-- the line is its heading, the fields of the groups and the line end
pub line_text_lem : (shown : Shown) (ordinal counter latency : ℕ) (gap : Gap) (readings : List (List ℤ)) (statuses : List ℕ) (totals : Totals)
    → shown_text shown ordinal counter latency gap readings statuses totals
    ≡ heading_text ordinal counter latency gap ++ (behind (groups_fields shown.carried shown.kept readings statuses totals) ++ 0x0A ∷ [])
unfolding shown_text shown_fields
line_text_lem shown ordinal counter latency gap readings statuses totals =
    let heading = digits counter ∷ digits latency ∷ missed_field gap ∷ [] in
    let groups = groups_fields shown.carried shown.kept readings statuses totals in
    ap (λ t. t ++ 0x0A ∷ [])
    (parted_behind (digits ordinal) (heading ++ groups) ∙ ap (λ t. digits ordinal ++ t) (behind_append heading groups)
    ∙ sym (append_assoc (digits ordinal) (behind heading) (behind groups)))
    ∙ append_assoc (heading_text ordinal counter latency gap) (behind groups) (0x0A ∷ [])
