use Rattle.quick.proofs.CodeLaws.{instrument_is}
use borrow.Author.Rules.{rules}
use Rattle.quick.proofs.values.has_instrument.Goals as goal

pub returns : goal.returns
returns c = search (instrument_is, rules)
