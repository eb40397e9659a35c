use Rattle.listing.proofs.LayLaws.{number-laid}
use borrow.Author.Rules.{rules}
use Rattle.listing.proofs.words.lay_number.Goals as goal

pub returns : goal.returns
returns c = search (number-laid, rules)
