use borrow.Author.Rules.{rules}
use Rattle.reading.proofs.ValueLaws.{rise_missing, rise_given}
use Rattle.reading.proofs.values.rise_in.Goals as goal

pub returns-in-Missing : goal.returns-in-Missing
returns-in-Missing c = search (rise_missing, rules)

pub returns-in-Mm : goal.returns-in-Mm
returns-in-Mm c = search (rise_given, rules)
