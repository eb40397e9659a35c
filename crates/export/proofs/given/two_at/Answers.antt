use Rattle.export.proofs.GivenLaws.{two-given}
use borrow.Author.Rules.{rules}
use Rattle.export.proofs.given.two_at.Goals as goal

pub returns : goal.returns
returns c = search (two-given, rules)
