-- By cases. Assumes nothing.
use borrow.Author.Rules.{rules}
use Rattle.columns.proofs.WriteLaws.{height-blanks}
use Rattle.columns.proofs.heights.put_height.Goals as goal

pub returns-in-Missing : goal.returns-in-Missing
returns-in-Missing c = search (height-blanks, rules)
