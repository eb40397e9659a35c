use borrow.Author.Rules.{rules}
use Rattle.reading.proofs.ValueLaws.{month-given}
use Rattle.reading.proofs.values.month_in.Goals as goal

pub returns : goal.returns
returns c = search (month-given, rules)
