-- The tests of 4 to 9 and their clauses as facts agree: a setup is accepted exactly if every clause of 01 holds of it.
use Prim.Native.Nat.{ℕ, suc, ◌≤◌, ◌<◌}
use native.Mathlib.Omega.{arith}
use mathlib.Core.Bool.{Bool, true, false, ◌||◌}
use mathlib.Core.List.{List, [], ◌∷◌}
use mathlib.Core.Logic.{◌⊎◌, inl, inr}
use mathlib.Core.Option.{none, some}
use mathlib.Core.Path.{◌≡◌, refl, ap, ◌∙◌}
use borrow.Author.Tests.{eqb-true, eq-eqb, le-ltb}
use lib.Dec.{eqb}
use lib.ListN.{length, get_or}
use Rattle.setup.specs.Layout.{Entry, entry, table, row_in, row_at, listing_row, groups_carried}
use Rattle.setup.specs.Setup.{rate_listed, is_listed, any_above, stray_group, stray, setup_rules, setup_number}
use Rattle.setup.specs.AcceptedSetup.{line_of_table, PassesNine}
use Rattle.setup.specs.declared.Setup.{Setup}
use Rattle.setup.specs.declared.Row.{Row}
use Rattle.std.specs.Prelude.{Option, None, Some}
use Rattle.setup.proofs.Rows.{listed_row_at}
use Rattle.setup.proofs.Rules.{number_accepted}
use Rattle.setup.proofs.Refusals.{accepted, none_above, absent_plain}

-- ---- 4

one_of_six :
    (n : ℕ) → rate_listed n ≡ true → (n ≡ 0) ⊎ (n ≡ 125) ⊎ (n ≡ 250) ⊎ (n ≡ 500) ⊎ (n ≡ 1000) ⊎ (n ≡ 2000)
one_of_six n = by (eqb n 0) refl (eqb n 125) refl (eqb n 250) refl (eqb n 500) refl (eqb n 1000) refl (eqb n 2000) refl
  where
    by :
        (z : Bool) → eqb n 0 ≡ z → (a : Bool) → eqb n 125 ≡ a → (b : Bool) → eqb n 250 ≡ b → (c : Bool) → eqb n 500 ≡ c → (d : Bool)
        → eqb n 1000 ≡ d → (e : Bool) → eqb n 2000 ≡ e → (z || a || b || c || d || e) ≡ true
        → (n ≡ 0) ⊎ (n ≡ 125) ⊎ (n ≡ 250) ⊎ (n ≡ 500) ⊎ (n ≡ 1000) ⊎ (n ≡ 2000)
    by true z a x b y c v d w e u q = inl (eqb-true n 0 z)
    by false z true x b y c v d w e u q = inr (inl (eqb-true n 125 x))
    by false z false x true y c v d w e u q = inr (inr (inl (eqb-true n 250 y)))
    by false z false x false y true v d w e u q = inr (inr (inr (inl (eqb-true n 500 v))))
    by false z false x false y false v true w e u q = inr (inr (inr (inr (inl (eqb-true n 1000 w)))))
    by false z false x false y false v false w true u q = inr (inr (inr (inr (inr (eqb-true n 2000 u)))))
    by false z false x false y false v false w false u q = let k : ◌≡◌ {A = ℕ} 0 1 = cc in absurd (omega arith)

six_listed :
    (n : ℕ) → (n ≡ 0) ⊎ (n ≡ 125) ⊎ (n ≡ 250) ⊎ (n ≡ 500) ⊎ (n ≡ 1000) ⊎ (n ≡ 2000) → rate_listed n ≡ true
six_listed n (inl e) = rw e
six_listed n (inr (inl e)) = rw e
six_listed n (inr (inr (inl e))) = rw e
six_listed n (inr (inr (inr (inl e)))) = rw e
six_listed n (inr (inr (inr (inr (inl e))))) = rw e
six_listed n (inr (inr (inr (inr (inr e))))) = rw e

-- ---- 5

line_of : (es : List Entry) (i : ℕ) {r : Row} → row_in es i ≡ Some r → (k : ℕ) × (k < length es) × (i ≡ (get_or es k (entry 0 [] 0)).identifier)
line_of [] i e = let z : ◌≡◌ {A = ℕ} 0 1 = cc in absurd (omega arith)
line_of (e ∷ es) i {r} q = by (eqb i e.identifier) refl q (line_of es i)
  where
    by :
        (b : Bool) → eqb i e.identifier ≡ b → row_in (e ∷ es) i ≡ Some r
        → (row_in es i ≡ Some r → (k : ℕ) × (k < length es) × (i ≡ (get_or es k (entry 0 [] 0)).identifier))
        → (k : ℕ) × (k < length (e ∷ es)) × (i ≡ (get_or (e ∷ es) k (entry 0 [] 0)).identifier)
    by true x y on = (0, omega arith, eqb-true i e.identifier x)
    by false x y on =
        let z : row_in es i ≡ Some r = rw x at y in
        let m = on z in
        (suc m.0, omega (arith, m.1), m.2)

some_listed : (f : Option Row) {r : Row} → listing_row f ≡ some r → is_listed f ≡ true
some_listed (Some r) e = refl
some_listed None e = let z : ◌≡◌ {A = ℕ} 0 1 = cc in absurd (omega arith)

-- ---- 7, 8

not_above : (limit : ℕ) (l : List ℕ) → ((g : ℕ) → g < 3 → get_or l g 0 ≤ limit) → any_above limit l ≡ false
not_above limit l h =
    rw (
      le-ltb limit (get_or l 0 0) (h 0 (omega arith)),
      le-ltb limit (get_or l 1 0) (h 1 (omega arith)),
      le-ltb limit (get_or l 2 0) (h 2 (omega arith)),
    )

-- ---- 9

plain_group : (carried : Bool) (unit shift : ℕ) → (carried ≡ false → (unit ≡ 0) × (shift ≡ 0)) → stray_group carried unit shift ≡ false
plain_group true unit shift h = refl
plain_group false unit shift h = rw (eq-eqb unit 0 (h refl).0, eq-eqb shift 0 (h refl).1)

not_stray :
    (carried : List Bool) (units shifts : List ℕ)
    → ((g : ℕ) → g < 3 → get_or carried g false ≡ false → (get_or units g 0 ≡ 0) × (get_or shifts g 0 ≡ 0)) → stray carried units shifts ≡ false
not_stray carried units shifts h =
    let at : (g : ℕ) → g < 3 → stray_group (get_or carried g false) (get_or units g 0) (get_or shifts g 0) ≡ false =
    λ g l. plain_group (get_or carried g false) (get_or units g 0) (get_or shifts g 0) (h g l) in
    rw (at 0 (omega arith), at 1 (omega arith), at 2 (omega arith))

-- ---- the setup

pub accepted_nine : (u : Setup) → setup_number u ≡ none → PassesNine u
unfolding row_at
accepted_nine u e =
    let ok = number_accepted u e in
    let k = accepted u ok in
    let m = line_of table u.identifier k.listed in
    record {
      rate = one_of_six u.rate k.rate;
      line = m.0;
      listed = m.1;
      identifier = m.2;
      termination = k.termination;
      units = none_above 3 u.units k.units;
      shifts = none_above 31 u.shifts k.shifts;
      absent = absent_plain u ok;
    }

pub nine_accepted : (u : Setup) → PassesNine u → setup_number u ≡ none
unfolding setup_number setup_rules
nine_accepted u p =
    let row = listed_row_at p.line p.listed in
    let there : is_listed (row_at u.identifier) ≡ true = ap (λ (i : ℕ). is_listed (row_at i)) p.identifier ∙ some_listed (row_at (line_of_table p.line).identifier) row in
    rw (
      six_listed u.rate p.rate,
      there,
      le-ltb 1 u.termination p.termination,
      not_above 3 u.units p.units,
      not_above 31 u.shifts p.shifts,
      not_stray (groups_carried u.identifier) u.units u.shifts p.absent,
    )
