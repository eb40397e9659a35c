use Rattle.export.proofs.Places.{references_small}
use Rattle.export.proofs.PromiseLaws.{short_references, long_references}
use borrow.Author.Rules.{rules}
use Rattle.export.proofs.shelf_references.Goals as goal

pub returns-then-answer-lt3 : goal.returns-then-answer-lt3
returns-then-answer-lt3 c = search (short_references, rules)

pub put_fault-requires : goal.put_fault-requires
put_fault-requires c = (search rules, rw c.fault_in.ensures (search (references_small, rules)))

pub returns : goal.returns
returns c = search (long_references, rules)
