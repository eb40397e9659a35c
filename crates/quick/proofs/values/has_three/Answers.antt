use Rattle.quick.proofs.CodeLaws.{three-not-zero}
use borrow.Author.Rules.{rules}
use Rattle.quick.proofs.values.has_three.Goals as goal

pub returns : goal.returns
returns c = search (three-not-zero, rules)
