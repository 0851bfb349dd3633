use Rattle.printing.proofs.TextParts.{minus_room, whole_room, fraction_room, text_put}
use Rattle.printing.proofs.put_text.Goals as goal

pub put_minus-at-requires : goal.put_minus-at-requires
put_minus-at-requires c =
    minus_room c.args.minus c.args.rounded.whole c.args.rounded.fraction c.args.places c.args.buffer.now c.requires.1

pub put_last-point-requires : goal.put_last-point-requires
put_last-point-requires c =
    whole_room c.args.minus c.args.rounded.whole c.args.rounded.fraction c.args.places c.args.buffer.now c.requires.1 c.requires.0
    c.put_minus-at.ensures

pub put_fraction-requires : goal.put_fraction-requires
put_fraction-requires c =
    fraction_room c.args.minus c.args.rounded.whole c.args.rounded.fraction c.args.places c.args.buffer.now c.requires.1 c.requires.0
    c.put_minus-at.ensures c.put_last-point.ensures

pub returns : goal.returns
returns c =
    text_put c.args.minus c.args.rounded.whole c.args.rounded.fraction c.args.places c.args.buffer.now c.requires.1 c.requires.0
    c.put_minus-at.ensures c.put_last-point.ensures c.put_fraction.ensures
