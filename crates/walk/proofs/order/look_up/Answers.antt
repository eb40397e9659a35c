use Rattle.rules.specs.Order.{goto}
use Rattle.walk.proofs.OrderLaws.{look_past}
use borrow.Author.Rules.{rules}
use Rattle.walk.proofs.order.look_up.Goals as goal

pub returns-then-place-ge17 : goal.returns-then-place-ge17
returns-then-place-ge17 c = search (look_past, rules)

pub returns : goal.returns
unfolding goto
returns c = search rules
