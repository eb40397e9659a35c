use Rattle.walk.proofs.ReferLaws.{first_good, first_bad_lem}
use borrow.Author.Rules.{rules}
use Rattle.walk.proofs.referring.judge_first.Goals as goal

pub returns-then-size-r : goal.returns-then-size-r
returns-then-size-r c = search (first_good, rules)

pub returns : goal.returns
returns c = search (first_bad_lem, rules)
