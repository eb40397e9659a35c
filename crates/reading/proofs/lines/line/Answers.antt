use borrow.Author.Rules.{rules}
use Rattle.reading.proofs.LineLaws.{line_none, line_short, line_whole}
use Rattle.reading.proofs.lines.line.Goals as goal

pub returns-then-n-i : goal.returns-then-n-i
returns-then-n-i c = search (line_none, rules)

pub returns-then-n-a-lt81 : goal.returns-then-n-a-lt81
returns-then-n-a-lt81 c = search (line_short, rules)

pub returns : goal.returns
returns c = search (line_whole, rules)
