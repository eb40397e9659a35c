use Rattle.quick.proofs.CodeLaws.{three_is}
use borrow.Author.Rules.{rules}
use Rattle.quick.proofs.values.read_three.Goals as goal

pub returns : goal.returns
returns c = search (three_is, rules)
