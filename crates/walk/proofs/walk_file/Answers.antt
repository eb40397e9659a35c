use Rattle.rules.specs.Order.{order}
use Rattle.walk.proofs.OrderLaws.{order-tabular}
use borrow.Author.Rules.{rules}
use Rattle.walk.proofs.walk_file.Goals as goal

pub walk_records-requires : goal.walk_records-requires
unfolding order
walk_records-requires c = search (order-tabular, rules)

pub returns : goal.returns
unfolding order
returns c = search rules
