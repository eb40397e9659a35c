-- Each value from its own columns; a signed one comes back from its word.
use Rattle.reading.proofs.ValueLaws.{heights-given}
use Rattle.reading.proofs.values.read_heights.Goals as goal

pub returns : goal.returns
returns c =
    let l = c.args.line.now in
    heights-given l c.number_in.result c.number_in.ensures c.height_in.result c.height_in.ensures c.char_in.result c.char_in.ensures c.two_in.result c.two_in.ensures c.char_in-2.result c.char_in-2.ensures c.two_in-2.result c.two_in-2.ensures c.height_in-2.result c.height_in-2.ensures c.char_in-3.result c.char_in-3.ensures c.height_in-3.result c.height_in-3.ensures c.char_in-4.result c.char_in-4.ensures c.char_in-5.result c.char_in-5.ensures c.new.ensures
