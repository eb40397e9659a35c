use Rattle.walk.proofs.JudgeLaws.{settle_bad, settle_good}
use borrow.Author.Rules.{rules}
use Rattle.walk.proofs.settle.Goals as goal

pub returns-then-is_err : goal.returns-then-is_err
returns-then-is_err c = search (settle_bad, rules)

pub returns-else-is_err : goal.returns-else-is_err
returns-else-is_err c = search (settle_good, rules)
