-- The three ends one after another.
use Rattle.judging.proofs.SpotLaws.{begin_least, begin_zeros, begin_blanks}
use Rattle.judging.proofs.spots.can_begin.Goals as goal

pub returns-then-goes_on : goal.returns-then-goes_on
returns-then-goes_on c =
    begin_least c.args.kind c.args.part.now c.args.least c.args.k c.requires.0 c.requires.1 c.requires.2 c.goes_on.ensures c.if-goes_on.true

pub returns-then-goes_on-2 : goal.returns-then-goes_on-2
returns-then-goes_on-2 c =
    begin_zeros c.args.kind c.args.part.now c.args.least c.args.k c.requires.0 c.requires.1 c.requires.2 c.goes_on.ensures c.if-goes_on.false c.goes_on-2.ensures c.if-goes_on-2.true

pub returns : goal.returns
returns c =
    begin_blanks c.args.kind c.args.part.now c.args.least c.args.k c.requires.0 c.requires.1 c.requires.2 c.goes_on.ensures c.if-goes_on.false c.goes_on-2.ensures c.if-goes_on-2.false c.goes_on-3.ensures
