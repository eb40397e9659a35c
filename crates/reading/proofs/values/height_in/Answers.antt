use borrow.Author.Rules.{rules}
use Rattle.reading.proofs.ValueLaws.{height-given}
use Rattle.reading.proofs.values.height_in.Goals as goal

pub returns : goal.returns
returns c = search (height-given, rules)
