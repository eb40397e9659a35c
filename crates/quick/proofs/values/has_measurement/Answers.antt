use Rattle.quick.proofs.CodeLaws.{measurement_is}
use borrow.Author.Rules.{rules}
use Rattle.quick.proofs.values.has_measurement.Goals as goal

pub returns : goal.returns
returns c = search (measurement_is, rules)
