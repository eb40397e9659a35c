use borrow.Author.Rules.{rules}
use Rattle.walk.proofs.ReferLaws.{network_bad, network-good}
use Rattle.walk.proofs.referring.judge_network.Goals as goal

pub returns-then-is_undefined : goal.returns-then-is_undefined
returns-then-is_undefined c = search (network_bad, rules)

pub returns : goal.returns
returns c = search (network-good, rules)
