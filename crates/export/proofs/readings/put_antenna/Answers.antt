use Rattle.export.proofs.WordLaws.{antenna-laid}
use borrow.Author.Rules.{rules}
use Rattle.export.proofs.readings.put_antenna.Goals as goal

pub returns : goal.returns
returns c = search (antenna-laid, rules)
