use Rattle.quick.proofs.CodeLaws.{four-not-zero}
use borrow.Author.Rules.{rules}
use Rattle.quick.proofs.values.has_four.Goals as goal

pub returns : goal.returns
returns c = search (four-not-zero, rules)
