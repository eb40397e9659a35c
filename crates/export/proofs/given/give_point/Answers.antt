use Rattle.export.proofs.GivenLaws.{point-given}
use borrow.Author.Rules.{rules}
use Rattle.export.proofs.given.give_point.Goals as goal

pub returns : goal.returns
returns c = search (point-given, rules)
