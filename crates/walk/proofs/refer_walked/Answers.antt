use borrow.Author.Rules.{rules}
use Rattle.walk.proofs.JudgeLaws.{fourteen, referred, referable}
use Rattle.walk.proofs.refer_walked.Goals as goal

pub returns-then-is_err : goal.returns-then-is_err
returns-then-is_err c = search (fourteen, rules)

pub refer_records-requires : goal.refer_records-requires
refer_records-requires c = search (referable, rules)

pub returns : goal.returns
returns c = search (referred, rules)
