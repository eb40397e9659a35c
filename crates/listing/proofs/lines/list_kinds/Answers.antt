use borrow.Author.Rules.{rules}
use Rattle.listing.proofs.LineLaws.{list_from, list_on, list_end}
use Rattle.listing.proofs.lines.list_kinds.Goals as goal

pub loop-kind-init : goal.loop-kind-init
loop-kind-init c = search (list_from, rules)

pub loop-kind-preserved : goal.loop-kind-preserved
loop-kind-preserved c = search (list_on, rules)

pub returns : goal.returns
returns c = search (list_end, rules)
