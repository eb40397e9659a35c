use borrow.Author.Rules.{rules}
use Rattle.reading.proofs.ValueLaws.{number_there, number-part}
use Rattle.reading.proofs.values.number_in.Goals as goal

pub returns-then-width-n : goal.returns-then-width-n
returns-then-width-n c = search (number_there, rules)

pub returns : goal.returns
returns c = search (number-part, rules)
