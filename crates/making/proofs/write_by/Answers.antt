use native.Mathlib.Omega.{arith}
use mathlib.Core.Path.{sym, ◌∙◌}
use Rattle.setup.specs.Layout.{parts_of}
use Rattle.making.proofs.MadeAnswers.{outside_any, values_refused, room_refused, datagram_written}
use Rattle.making.proofs.write_by.Goals as goal

pub returns-then-values_outside : goal.returns-then-values_outside
returns-then-values_outside c = let a = c.args in
    let p = values_refused a.buffer.now a.identifier a.row a.terminated a.readings a.values (outside_any a.identifier 0 (parts_of a.row) a.readings a.values ∙ sym c.values_outside.ensures ∙ c.if-values_outside.true) in
    record { answer = p.0; written = p.1 }

pub returns-then-buffer-length_of : goal.returns-then-buffer-length_of
returns-then-buffer-length_of c = let a = c.args in
    let p = room_refused a.buffer.now a.identifier a.row a.terminated a.readings a.values (outside_any a.identifier 0 (parts_of a.row) a.readings a.values ∙ sym c.values_outside.ensures ∙ c.if-values_outside.false) (omega (arith, c.length_of.ensures, c.if-buffer-length_of.true)) in
    record { answer = p.0; written = p.1 }

pub put_datagram-requires : goal.put_datagram-requires
put_datagram-requires c = omega (arith, c.length_of.ensures, c.if-buffer-length_of.false)

pub returns : goal.returns
returns c = let a = c.args in
    let p = datagram_written a.buffer.now a.identifier a.row a.terminated a.readings a.values (outside_any a.identifier 0 (parts_of a.row) a.readings a.values ∙ sym c.values_outside.ensures ∙ c.if-values_outside.false) (omega (arith, c.length_of.ensures, c.if-buffer-length_of.false)) c.put_datagram.ensures in
    record { answer = p.0; written = p.1 }
