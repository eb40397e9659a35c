use Rattle.walk.proofs.JudgeLaws.{short_file, short_table, long_file, long_table}
use borrow.Author.Rules.{rules}
use Rattle.walk.proofs.judge.Goals as goal

pub returns-then-table-lt12000 : goal.returns-then-table-lt12000
returns-then-table-lt12000 c = search (short_file, short_table, rules)

pub returns : goal.returns
returns c = search (long_file, long_table, rules)
