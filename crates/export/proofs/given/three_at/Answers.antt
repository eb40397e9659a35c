use Rattle.export.proofs.GivenLaws.{three-given}
use borrow.Author.Rules.{rules}
use Rattle.export.proofs.given.three_at.Goals as goal

pub returns : goal.returns
returns c = search (three-given, rules)
