use borrow.Author.Rules.{rules}
use Rattle.judging.proofs.LineLaws.{clean_short, clean_long}
use Rattle.judging.proofs.lines.is_clean.Goals as goal

pub returns-then-line-le80 : goal.returns-then-line-le80
returns-then-line-le80 c = search (clean_short, rules)

pub returns : goal.returns
returns c = search (clean_long, rules)
