use borrow.Author.Rules.{rules}
use Rattle.quick.proofs.CodeLaws.{network_is}
use Rattle.quick.proofs.values.has_network.Goals as goal

pub returns : goal.returns
returns c = search (network_is, rules)
