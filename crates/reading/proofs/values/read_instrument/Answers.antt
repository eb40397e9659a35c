use borrow.Author.Rules.{rules}
use Rattle.reading.proofs.ValueLaws.{instrument-given}
use Rattle.reading.proofs.values.read_instrument.Goals as goal

pub returns : goal.returns
returns c = search (instrument-given, rules)
