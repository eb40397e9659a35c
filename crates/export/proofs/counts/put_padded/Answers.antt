use Rattle.export.proofs.AnswerLaws.{padded-words}
use borrow.Author.Rules.{rules}
use Rattle.export.proofs.counts.put_padded.Goals as goal

pub put_fault-requires : goal.put_fault-requires
put_fault-requires c = (search rules, rw c.fault_in.ensures c.requires.1)

pub returns : goal.returns
returns c = search (padded-words, rules)
