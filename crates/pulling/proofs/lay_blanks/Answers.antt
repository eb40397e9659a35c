use borrow.Author.Rules.{rules}
use Rattle.pulling.proofs.EntryLaws.{blanks-laid}
use Rattle.pulling.proofs.lay_blanks.Goals as goal

pub returns : goal.returns
returns c = search (blanks-laid, rules)
