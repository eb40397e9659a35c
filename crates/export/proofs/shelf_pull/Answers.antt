use Rattle.export.proofs.Places.{pull_small}
use Rattle.export.proofs.PromiseLaws.{short_pull, long_pull}
use borrow.Author.Rules.{rules}
use Rattle.export.proofs.shelf_pull.Goals as goal

pub returns-then-answer-lt3 : goal.returns-then-answer-lt3
returns-then-answer-lt3 c = search (short_pull, rules)

pub put_fault-requires : goal.put_fault-requires
put_fault-requires c = (search rules, rw c.fault_in.ensures (search (pull_small, rules)))

pub returns : goal.returns
returns c = search (long_pull, rules)
