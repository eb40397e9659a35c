use borrow.Author.Rules.{rules}
use Rattle.quick.proofs.CodeLaws.{correlation_is}
use Rattle.quick.proofs.values.has_correlation.Goals as goal

pub returns : goal.returns
returns c = search (correlation_is, rules)
