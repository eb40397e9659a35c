use borrow.Author.Rules.{rules}
use Rattle.reading.proofs.WidthLaws.{seek_from, seek_found, seek_on, seek_done}
use Rattle.reading.proofs.widths.row_width.Goals as goal

pub loop-i-init : goal.loop-i-init
loop-i-init c = search (seek_from, rules)

pub returns-then-column-from : goal.returns-then-column-from
returns-then-column-from c = search (seek_found, rules)

pub loop-i-preserved : goal.loop-i-preserved
loop-i-preserved c = search (seek_on, rules)

pub returns : goal.returns
returns c = search (seek_done, rules)
