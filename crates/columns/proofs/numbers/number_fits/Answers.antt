-- Assumes nothing.
use borrow.Author.Rules.{rules}
use Rattle.columns.proofs.ValueLaws.{number_is}
use Rattle.columns.proofs.numbers.number_fits.Goals as goal

pub returns : goal.returns
returns c = search (number_is, rules)
