use borrow.Author.Rules.{rules}
use Rattle.reading.proofs.ValueLaws.{three-given}
use Rattle.reading.proofs.values.three_in.Goals as goal

pub returns : goal.returns
returns c = search (three-given, rules)
