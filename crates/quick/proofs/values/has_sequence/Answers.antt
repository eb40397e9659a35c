use Rattle.quick.proofs.CodeLaws.{sequence_is}
use borrow.Author.Rules.{rules}
use Rattle.quick.proofs.values.has_sequence.Goals as goal

pub returns : goal.returns
returns c = search (sequence_is, rules)
