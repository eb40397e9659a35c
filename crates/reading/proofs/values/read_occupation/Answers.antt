use borrow.Author.Rules.{rules}
use Rattle.reading.proofs.ValueLaws.{occupation-given}
use Rattle.reading.proofs.values.read_occupation.Goals as goal

pub returns : goal.returns
returns c = search (occupation-given, rules)
