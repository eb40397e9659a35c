use Rattle.quick.proofs.CodeLaws.{occupation_is}
use borrow.Author.Rules.{rules}
use Rattle.quick.proofs.values.has_occupation.Goals as goal

pub returns : goal.returns
returns c = search (occupation_is, rules)
