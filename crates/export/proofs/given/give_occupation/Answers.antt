use Rattle.export.proofs.GivenLaws.{occupation-given}
use borrow.Author.Rules.{rules}
use Rattle.export.proofs.given.give_occupation.Goals as goal

pub returns : goal.returns
returns c = search (occupation-given, rules)
