use Rattle.quick.proofs.CodeLaws.{heights_is}
use borrow.Author.Rules.{rules}
use Rattle.quick.proofs.values.has_heights.Goals as goal

pub returns : goal.returns
returns c = search (heights_is, rules)
