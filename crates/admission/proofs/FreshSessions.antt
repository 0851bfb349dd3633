-- A fresh session of an accepted setup is sound; the session of zeros that a refused opening gives is not (01, What is turned down, 10).
-- Assumes nothing.
use mathlib.Core.Path.{◌≡◌, refl}
use mathlib.Core.Bool.{true, false}
use native.Mathlib.Omega.{arith}
use native.Mathlib.Nat.{mul-zero}
use Rattle.setup.specs.Setup.{ruling_on, zero_setup, length_of}
use Rattle.setup.specs.declared.Setup.{Setup}
use Rattle.setup.proofs.Refusals.{zeros_refused}
use Rattle.motion.specs.Totals.{groups_kept}
use Rattle.scan.specs.OneLength.{held_rule}
use Rattle.session.specs.Session.{fresh_of}
use Rattle.admission.specs.Admission.{all_zero, is_sound}
use Rattle.admission.proofs.KeptLaws.{kept_none}
use Rattle.admission.proofs.Soundness.{facts_sound, refused_unsound}
use Rattle.std.specs.Prelude.{Ok}

pub fresh_sound : (u : Setup) → ruling_on u ≡ Ok tt → is_sound (fresh_of u) ≡ true
unfolding fresh_of held_rule all_zero
fresh_sound u e =
    facts_sound (fresh_of u)
    (record {
      accepted = e;
      within = omega arith;
      held = refl;
      rest = refl;
      sum = omega (arith, mul-zero (length_of u));
      most = omega arith;
      kept = kept_none (groups_kept u);
    })

pub zeros_unsound : is_sound (fresh_of zero_setup) ≡ false
unfolding fresh_of
zeros_unsound = refused_unsound (fresh_of zero_setup) zeros_refused
