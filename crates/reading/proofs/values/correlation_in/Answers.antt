use borrow.Author.Rules.{rules}
use Rattle.reading.proofs.ValueLaws.{correlation-given}
use Rattle.reading.proofs.values.correlation_in.Goals as goal

pub returns : goal.returns
returns c = search (correlation-given, rules)
