use Rattle.export.proofs.GivenLaws.{measurement-given}
use borrow.Author.Rules.{rules}
use Rattle.export.proofs.given.give_measurement.Goals as goal

pub returns : goal.returns
returns c = search (measurement-given, rules)
