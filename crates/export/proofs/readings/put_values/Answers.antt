use Rattle.export.proofs.WordLaws.{values-laid}
use borrow.Author.Rules.{rules}
use Rattle.export.proofs.readings.put_values.Goals as goal

pub returns : goal.returns
returns c = search (values-laid, rules)
