use borrow.Author.Rules.{rules}
use Rattle.padding.proofs.LineLaws.{laid_80}
use Rattle.padding.proofs.laying.lay_line.Goals as goal

pub returns : goal.returns
returns c = search (laid_80, rules)
