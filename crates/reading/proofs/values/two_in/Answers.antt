use borrow.Author.Rules.{rules}
use Rattle.reading.proofs.ValueLaws.{two-given}
use Rattle.reading.proofs.values.two_in.Goals as goal

pub returns : goal.returns
returns c = search (two-given, rules)
