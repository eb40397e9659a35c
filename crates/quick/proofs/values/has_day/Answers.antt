use Rattle.quick.proofs.CodeLaws.{day_is}
use borrow.Author.Rules.{rules}
use Rattle.quick.proofs.values.has_day.Goals as goal

pub returns : goal.returns
returns c = search (day_is, rules)
