use Rattle.export.proofs.Places.{pad_small}
use Rattle.export.proofs.PromiseLaws.{short_pad, long_pad}
use borrow.Author.Rules.{rules}
use Rattle.export.proofs.shelf_pad.Goals as goal

pub returns-then-answer-lt4 : goal.returns-then-answer-lt4
returns-then-answer-lt4 c = search (short_pad, rules)

pub put_padded-requires : goal.put_padded-requires
put_padded-requires c = search (pad_small, rules)

pub returns : goal.returns
returns c = search (long_pad, rules)
