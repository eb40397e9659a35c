use Rattle.listing.proofs.LayLaws.{text-laid}
use borrow.Author.Rules.{rules}
use Rattle.listing.proofs.words.lay_text.Goals as goal

pub returns : goal.returns
returns c = search (text-laid, rules)
