use borrow.Author.Rules.{rules}
use Rattle.reading.proofs.LineLaws.{begun_whole, begun-part}
use Rattle.reading.proofs.lines.count_begun.Goals as goal

pub returns-then-n-eq0 : goal.returns-then-n-eq0
returns-then-n-eq0 c = search (begun_whole, rules)

pub returns : goal.returns
returns c = search (begun-part, rules)
