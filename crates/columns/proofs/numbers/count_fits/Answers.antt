-- By cases. Assumes nothing.
use borrow.Author.Rules.{rules}
use Rattle.columns.proofs.ValueLaws.{count_missing, count_is}
use Rattle.columns.proofs.numbers.count_fits.Goals as goal

pub returns-in-None : goal.returns-in-None
returns-in-None c = search (count_missing, rules)

pub returns-in-Some : goal.returns-in-Some
returns-in-Some c = search (count_is, rules)
