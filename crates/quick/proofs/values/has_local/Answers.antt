use borrow.Author.Rules.{rules}
use Rattle.quick.proofs.CodeLaws.{local_is}
use Rattle.quick.proofs.values.has_local.Goals as goal

pub returns : goal.returns
returns c = search (local_is, rules)
