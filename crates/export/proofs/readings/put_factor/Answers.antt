use borrow.Author.Rules.{rules}
use Rattle.export.proofs.WordLaws.{factor-laid}
use Rattle.export.proofs.readings.put_factor.Goals as goal

pub returns : goal.returns
returns c = search (factor-laid, rules)
