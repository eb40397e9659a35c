use borrow.Author.Rules.{rules}
use Rattle.reading.proofs.ValueLaws.{four-given}
use Rattle.reading.proofs.values.four_in.Goals as goal

pub returns : goal.returns
returns c = search (four-given, rules)
