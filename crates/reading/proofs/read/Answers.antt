use borrow.Author.Rules.{rules}
use Rattle.reading.proofs.CallLaws.{read_none, read_there, there_low}
use Rattle.reading.proofs.read.Goals as goal

pub overflow_sub-record : goal.overflow_sub-record
overflow_sub-record c = search (there_low, rules)

pub returns-then-is_there : goal.returns-then-is_there
returns-then-is_there c = search (read_there, rules)

pub returns : goal.returns
returns c = search (read_none, rules)
