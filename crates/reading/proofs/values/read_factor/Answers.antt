use borrow.Author.Rules.{rules}
use Rattle.reading.proofs.ValueLaws.{factor-given}
use Rattle.reading.proofs.values.read_factor.Goals as goal

pub returns : goal.returns
returns c = search (factor-given, rules)
