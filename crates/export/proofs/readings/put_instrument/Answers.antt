use Rattle.export.proofs.WordLaws.{instrument-laid}
use borrow.Author.Rules.{rules}
use Rattle.export.proofs.readings.put_instrument.Goals as goal

pub returns : goal.returns
returns c = search (instrument-laid, rules)
