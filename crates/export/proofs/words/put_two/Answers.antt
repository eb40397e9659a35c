use Rattle.export.proofs.WordLaws.{two-laid}
use borrow.Author.Rules.{rules}
use Rattle.export.proofs.words.put_two.Goals as goal

pub returns : goal.returns
returns c = search (two-laid, rules)
