use Rattle.export.proofs.WordLaws.{four-laid}
use borrow.Author.Rules.{rules}
use Rattle.export.proofs.words.put_four.Goals as goal

pub returns : goal.returns
returns c = search (four-laid, rules)
