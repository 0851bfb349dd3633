-- `stim_make::put_datagram` meets its contract: with an accepted setup and so much room 15 alone refuses. Assumes nothing.
use Rattle.made_datagram.specs.Making.{made_answer, made_buffer}
use Rattle.made_datagram.specs.declared.Values.{Values}
use Rattle.rehearsal.specs.RehearsalLine.{readings_in, values_in}
use Rattle.stim_make.proofs.MadeLaws.{made_bytes_lem, made_refused, made_text}
use lib.IntN.{ℤ}
use mathlib.Core.List.{List}
use mathlib.Core.Path.{◌≡◌, ap₂, ◌∙◌}
use Rattle.stim_make.proofs.put_datagram.Goals as goal
use Rattle.stim_make.proofs.put_datagram.Given.{Over}
use Rattle.stim_make.proofs.put_datagram.Goals.{After-write_datagram-made}

answer : (g : Over) (c : After-write_datagram-made g)
    → c.write_datagram-made.result ≡ made_answer c.args.output.now c.args.accepted.setup (readings_in c.args.line.now) (values_in c.args.line.now)
answer g c =
    c.write_datagram-made.ensures.answer
    ∙ ap₂ (λ (r : List (List ℤ)) (v : Values). made_answer c.args.output.now c.args.accepted.setup r v) c.readings_of-readings.ensures c.values_of-values.ensures

buffer : (g : Over) (c : After-write_datagram-made g)
    → c.write_datagram-made.new.buffer ≡ made_buffer c.args.output.now c.args.accepted.setup (readings_in c.args.line.now) (values_in c.args.line.now)
buffer g c =
    c.write_datagram-made.ensures.written
    ∙ ap₂ (λ (r : List (List ℤ)) (v : Values). made_buffer c.args.output.now c.args.accepted.setup r v) c.readings_of-readings.ensures c.values_of-values.ensures

pub refuse_values-requires : goal.refuse_values-requires
refuse_values-requires g c =
    let w = (goal.at.refuse_values-requires g c).After-write_datagram-made in
    let m = made_refused c.args.accepted.setup c.args.line.now c.args.output.now c.args.accepted.ruled c.requires.0 c.requires.1 (answer g w) (buffer g w) c.in-Err.is in
    (c.requires.0, m.0, m.1)

pub returns-in-Ok-clause-answer : goal.returns-in-Ok-clause-answer
returns-in-Ok-clause-answer g c =
    let w = (goal.at.returns-in-Ok-clause-answer g c).After-write_datagram-made in
    made_bytes_lem c.args.accepted.setup c.args.line.now c.args.output.now c.args.accepted.ruled c.requires.0 c.requires.1 (answer g w) (buffer g w) c.in-Ok.is

pub returns-in-Ok-clause-written : goal.returns-in-Ok-clause-written
returns-in-Ok-clause-written g c =
    let w = (goal.at.returns-in-Ok-clause-written g c).After-write_datagram-made in
    made_text c.args.accepted.setup c.args.line.now c.args.output.now c.args.accepted.ruled c.requires.0 c.requires.1 (answer g w) (buffer g w)

pub returns-in-Err-clause-answer : goal.returns-in-Err-clause-answer
returns-in-Err-clause-answer g c =
    let w = (goal.at.returns-in-Err-clause-answer g c).After-write_datagram-made in
    (made_refused c.args.accepted.setup c.args.line.now c.args.output.now c.args.accepted.ruled c.requires.0 c.requires.1 (answer g w) (buffer g w) c.in-Err.is).2

pub returns-in-Err-clause-written : goal.returns-in-Err-clause-written
returns-in-Err-clause-written g c =
    let w = (goal.at.returns-in-Err-clause-written g c).After-write_datagram-made in
    made_text c.args.accepted.setup c.args.line.now c.args.output.now c.args.accepted.ruled c.requires.0 c.requires.1 (answer g w) (buffer g w)
