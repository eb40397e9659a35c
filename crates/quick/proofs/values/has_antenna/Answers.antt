use Rattle.quick.proofs.CodeLaws.{antenna_is}
use borrow.Author.Rules.{rules}
use Rattle.quick.proofs.values.has_antenna.Goals as goal

pub returns : goal.returns
returns c = search (antenna_is, rules)
