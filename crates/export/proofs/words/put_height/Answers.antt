use Rattle.export.proofs.WordLaws.{height-put}
use borrow.Author.Rules.{rules}
use Rattle.export.proofs.words.put_height.Goals as goal

pub returns : goal.returns
returns c = search (height-put, rules)
