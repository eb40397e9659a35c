use Rattle.quick.proofs.CodeLaws.{zeros_is}
use borrow.Author.Rules.{rules}
use Rattle.quick.proofs.values.are_zeros.Goals as goal

pub returns : goal.returns
returns c = search (zeros_is, rules)
