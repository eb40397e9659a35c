use Rattle.walk.proofs.StepLaws.{placed_quick}
use borrow.Author.Rules.{rules}
use Rattle.walk.proofs.records.judge_quickly.Goals as goal

pub returns-then-next-r : goal.returns-then-next-r
returns-then-next-r c = search (placed_quick, rules)
