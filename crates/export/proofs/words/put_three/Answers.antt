use Rattle.export.proofs.WordLaws.{three-laid}
use borrow.Author.Rules.{rules}
use Rattle.export.proofs.words.put_three.Goals as goal

pub returns : goal.returns
returns c = search (three-laid, rules)
