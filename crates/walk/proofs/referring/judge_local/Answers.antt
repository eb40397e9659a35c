use borrow.Author.Rules.{rules}
use Rattle.walk.proofs.ReferLaws.{standpoint_bad, forepoint_bad, local-good}
use Rattle.walk.proofs.referring.judge_local.Goals as goal

pub returns-then-is_undefined : goal.returns-then-is_undefined
returns-then-is_undefined c = search (standpoint_bad, rules)

pub returns-then-is_undefined-2 : goal.returns-then-is_undefined-2
returns-then-is_undefined-2 c = search (forepoint_bad, rules)

pub returns : goal.returns
returns c = search (local-good, rules)
