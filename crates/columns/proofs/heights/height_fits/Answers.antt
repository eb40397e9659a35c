-- By cases. Assumes nothing.
use borrow.Author.Rules.{rules}
use Rattle.columns.proofs.Signed.{from_height}
use Rattle.columns.proofs.ValueLaws.{height-missing, height_is}
use Rattle.columns.proofs.heights.height_fits.Goals as goal

pub returns-in-Missing : goal.returns-in-Missing
returns-in-Missing c = search (height-missing, rules)

pub returns-in-Mm : goal.returns-in-Mm
returns-in-Mm c = search (height_is, from_height, rules)
