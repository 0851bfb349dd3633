-- `stim_make::run` meets its contract: the setup that is passed on is the accepted one that the first line writes. Assumes nothing.
use Rattle.setup.specs.Setup.{ruling_on}
use Rattle.setup_line.proofs.LineAnswers.{accepted_line}
use Rattle.setup_line.specs.declared.LineRead.{LineRead}
use Rattle.std.specs.Prelude.{Option, IfSome}
use Rattle.stim_make.specs.MadeLines.{line_of, LiesBehind}
use Rattle.stim_make.specs.declared.Behind.{Behind}
use mathlib.Core.Path.{sym, ap, ◌∙◌, subst}
use Rattle.stim_make.proofs.run.Goals as goal

pub invariant_of-accepted : goal.invariant_of-accepted
invariant_of-accepted g c =
    let r = c.read_line-read.ensures in
    let accepted = ap (λ (x : LineRead). x.answer) (sym r) ∙ c.in_default.is in
    record { ruled = ap (λ (x : LineRead). ruling_on x.setup) r ∙ (accepted_line (line_of c.in_ok-first.first.line) accepted).1 }

pub receive-requires : goal.receive-requires
receive-requires g c =
    let r = c.read_line-read.ensures in
    let b = subst (λ (x : Option Behind). IfSome x (LiesBehind c.read_first_line.new.input)) c.in-Some.is c.in_ok-first.ensures in
    record {
      line_value = (ap (λ (x : LineRead). x.answer) (sym r) ∙ c.in_default.is, ap (λ (x : LineRead). x.setup) r);
      from_value = b;
    }
