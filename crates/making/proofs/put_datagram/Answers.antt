use Rattle.making.proofs.MadeAnswers.{check_room, ending_room, datagram_put}
use Rattle.making.proofs.put_datagram.Goals as goal

pub put_check-ending-requires : goal.put_check-ending-requires
put_check-ending-requires c = let a = c.args in check_room a.identifier a.row a.terminated a.readings a.values c.requires c.put_parts-check.ensures

pub put_ending-requires : goal.put_ending-requires
put_ending-requires c = let a = c.args in ending_room a.identifier a.row a.terminated a.readings a.values c.requires c.put_parts-check.ensures c.put_check-ending.ensures

pub returns : goal.returns
returns c = let a = c.args in datagram_put a.identifier a.row a.terminated a.readings a.values c.requires c.put_parts-check.ensures c.put_check-ending.ensures c.put_ending.ensures
