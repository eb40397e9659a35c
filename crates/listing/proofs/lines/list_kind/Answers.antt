use Rattle.listing.proofs.LineLaws.{kind_laid}
use borrow.Author.Rules.{rules}
use Rattle.listing.proofs.lines.list_kind.Goals as goal

pub returns : goal.returns
returns c = search (kind_laid, rules)
