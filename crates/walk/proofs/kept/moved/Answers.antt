use Rattle.walk.proofs.KeptLaws.{moved_is}
use borrow.Author.Rules.{rules}
use Rattle.walk.proofs.kept.moved.Goals as goal

pub returns : goal.returns
returns c = search (moved_is, rules)
