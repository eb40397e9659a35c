use Rattle.walk.proofs.JudgeLaws.{short_answer, short_table, long_answer, long_table}
use borrow.Author.Rules.{rules}
use Rattle.walk.proofs.references.Goals as goal

pub returns-then-table-lt12000 : goal.returns-then-table-lt12000
returns-then-table-lt12000 c = search (short_answer, short_table, rules)

pub returns : goal.returns
returns c = search (long_answer, long_table, rules)
