use borrow.Author.Rules.{rules}
use Rattle.reading.proofs.ValueLaws.{antenna-given}
use Rattle.reading.proofs.values.read_antenna.Goals as goal

pub returns : goal.returns
returns c = search (antenna-given, rules)
