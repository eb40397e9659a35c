use Rattle.walk.proofs.StepLaws.{unknown_late, unknown_bytes, unknown_code}
use borrow.Author.Rules.{rules}
use Rattle.walk.proofs.records.judge_unknown.Goals as goal

pub returns-then-r-gt99999 : goal.returns-then-r-gt99999
returns-then-r-gt99999 c = search (unknown_late, rules)

pub returns-in-Err : goal.returns-in-Err
returns-in-Err c = search (unknown_bytes, rules)

pub returns-in-Ok : goal.returns-in-Ok
returns-in-Ok c = search (unknown_code, rules)
