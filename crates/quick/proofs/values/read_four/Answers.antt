use Rattle.quick.proofs.CodeLaws.{four_is}
use borrow.Author.Rules.{rules}
use Rattle.quick.proofs.values.read_four.Goals as goal

pub returns : goal.returns
returns c = search (four_is, rules)
