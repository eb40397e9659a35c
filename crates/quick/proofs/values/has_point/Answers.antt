use Rattle.quick.proofs.CodeLaws.{point_is}
use borrow.Author.Rules.{rules}
use Rattle.quick.proofs.values.has_point.Goals as goal

pub returns : goal.returns
returns c = search (point_is, rules)
