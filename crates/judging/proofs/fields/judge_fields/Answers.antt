use borrow.Author.Rules.{rules}
use Rattle.judging.proofs.RowLaws.{walk_from, walk_stop, walk_on, walk_done}
use Rattle.judging.proofs.fields.judge_fields.Goals as goal

pub loop-i-init : goal.loop-i-init
loop-i-init c = search (walk_from, rules)

pub returns-in-Err : goal.returns-in-Err
returns-in-Err c = search (walk_stop, rules)

pub loop-i-preserved : goal.loop-i-preserved
loop-i-preserved c = search (walk_on, rules)

pub returns : goal.returns
returns c = search (walk_done, rules)
