use Rattle.export.proofs.PromiseLaws.{short_read, long_read}
use Rattle.export.proofs.Places.{read_told}
use borrow.Author.Rules.{rules}
use Rattle.export.proofs.shelf_read.Goals as goal

pub returns-then-answer-lt32 : goal.returns-then-answer-lt32
returns-then-answer-lt32 c = search (short_read, rules)

pub put_reading-requires : goal.put_reading-requires
put_reading-requires c = search (read_told, rules)

pub returns : goal.returns
returns c = search (long_read, rules)
