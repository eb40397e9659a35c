use Rattle.export.proofs.AnswerLaws.{told_good, told_bad}
use borrow.Author.Rules.{rules}
use Rattle.export.proofs.counts.fault_in.Goals as goal

pub returns-in-Ok : goal.returns-in-Ok
returns-in-Ok g c = search (told_good, rules)

pub returns-in-Err : goal.returns-in-Err
returns-in-Err g c = search (told_bad, rules)
