-- Columns 1-6 are a number of six columns.
use borrow.Author.Rules.{rules}
use Rattle.judging.proofs.LineLaws.{six_spans, number-spot}
use Rattle.judging.proofs.lines.spot_number.Goals as goal

pub first_bad-requires : goal.first_bad-requires
first_bad-requires c = search (six_spans, rules)

pub returns : goal.returns
returns c = search (number-spot, rules)
