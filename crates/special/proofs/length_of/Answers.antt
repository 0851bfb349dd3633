use native.Mathlib.Omega.{arith}
use mathlib.Core.Logic.{⊎_elim}
use mathlib.Core.Path.{sym, ap}
use Rattle.crc.specs.Check.{stim300}
use Rattle.special.specs.Special.{entry_at, length_by, special_length, length_found}
use Rattle.special.proofs.Specials.{none_found, found_none}
use Rattle.special.proofs.length_of.Goals as goal

pub returns-in-177 : goal.returns-in-177
unfolding length_found special_length entry_at stim300
returns-in-177 c = ⊎_elim (λ e. sym (ap length_found e)) (λ e. sym (ap length_found e)) c.in-177.is

pub returns-in-179 : goal.returns-in-179
unfolding length_found special_length entry_at stim300
returns-in-179 c = ⊎_elim (λ e. sym (ap length_found e)) (λ e. sym (ap length_found e)) c.in-179.is

pub returns-in-188 : goal.returns-in-188
unfolding length_found special_length entry_at stim300
returns-in-188 c = sym (ap length_found c.in-188.is)

pub returns-in-189 : goal.returns-in-189
unfolding length_found special_length entry_at stim300
returns-in-189 c = sym (ap length_found c.in-189.is)

pub returns-in-209 : goal.returns-in-209
unfolding length_found special_length entry_at stim300
returns-in-209 c = sym (ap length_found c.in-209.is)

pub returns-in-210 : goal.returns-in-210
unfolding length_found special_length entry_at stim300
returns-in-210 c = sym (ap length_found c.in-210.is)

pub returns-in-190 : goal.returns-in-190
unfolding length_found special_length entry_at stim300
returns-in-190 c = sym (ap length_found c.in-190.is)

pub returns-in-191 : goal.returns-in-191
unfolding length_found special_length entry_at stim300
returns-in-191 c = sym (ap length_found c.in-191.is)

pub returns-in_default : goal.returns-in_default
unfolding special_length
returns-in_default c =
    let begins-none =
    none_found c.args.byte
    (λ e. grind arith)
    (λ e. grind arith)
    (λ e. grind arith)
    (λ e. grind arith)
    (λ e. grind arith)
    (λ e. grind arith)
    (λ e. grind arith)
    (λ e. grind arith)
    (λ e. grind arith)
    (λ e. grind arith) in
    sym (found_none c.args.byte (ap length_by begins-none))
