use Rattle.export.proofs.AnswerLaws.{fault_words_lem}
use borrow.Author.Rules.{rules}
use Rattle.export.proofs.counts.put_fault.Goals as goal

pub returns : goal.returns
returns c = search (fault_words_lem, rules)
