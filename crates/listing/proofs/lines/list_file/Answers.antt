use Rattle.listing.proofs.LineLaws.{file_laid}
use borrow.Author.Rules.{rules}
use Rattle.listing.proofs.lines.list_file.Goals as goal

pub returns : goal.returns
returns c = search (file_laid, rules)
