use borrow.Author.Rules.{rules}
use Rattle.reading.proofs.ValueLaws.{deviation-given}
use Rattle.reading.proofs.values.deviation_in.Goals as goal

pub returns : goal.returns
returns c = search (deviation-given, rules)
