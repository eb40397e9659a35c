use borrow.Author.Rules.{rules}
use Rattle.judging.proofs.LineLaws.{number_is}
use Rattle.judging.proofs.lines.has_number.Goals as goal

pub returns : goal.returns
returns c = search (number_is, rules)
