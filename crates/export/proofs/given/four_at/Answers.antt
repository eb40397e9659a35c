use Rattle.export.proofs.GivenLaws.{four-given}
use borrow.Author.Rules.{rules}
use Rattle.export.proofs.given.four_at.Goals as goal

pub returns : goal.returns
returns c = search (four-given, rules)
