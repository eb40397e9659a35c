use borrow.Author.Rules.{rules}
use Rattle.pulling.proofs.EntryLaws.{line_most, asked_low, asked_high, asked_line, asked_none}
use Rattle.pulling.proofs.pull_record.Goals as goal

pub overflow_sub-r : goal.overflow_sub-r
overflow_sub-r c = search (asked_low, rules)

pub pull_line-requires : goal.pull_line-requires
pull_line-requires c = (search (line_most, rules), search (asked_low, rules), search (asked_high, rules), search rules)

pub returns-then-is_there : goal.returns-then-is_there
returns-then-is_there c = search (asked_line, rules)

pub returns : goal.returns
returns c = search (asked_none, rules)
