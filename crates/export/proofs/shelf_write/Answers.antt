use Rattle.export.proofs.GivenLaws.{written_noted}
use Rattle.export.proofs.PromiseLaws.{short_write, long_write}
use borrow.Author.Rules.{rules}
use Rattle.export.proofs.shelf_write.Goals as goal

pub returns-then-answer-lt3 : goal.returns-then-answer-lt3
returns-then-answer-lt3 c = search (short_write, rules)

pub put_fault-requires : goal.put_fault-requires
put_fault-requires c = (search rules, rw c.fault_in.ensures (search (written_noted, rules)))

pub returns : goal.returns
returns c = search (long_write, rules)
