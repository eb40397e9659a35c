use Rattle.export.proofs.WordLaws.{occupation-laid}
use borrow.Author.Rules.{rules}
use Rattle.export.proofs.readings.put_occupation.Goals as goal

pub returns : goal.returns
returns c = search (occupation-laid, rules)
