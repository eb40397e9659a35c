use borrow.Author.Rules.{rules}
use Rattle.judging.proofs.FieldLaws.{met_any, met_same, met_not_below, met_above}
use Rattle.judging.proofs.fields.is_met.Goals as goal

pub returns-in-Anything : goal.returns-in-Anything
returns-in-Anything c = search (met_any, rules)

pub returns-in-Same : goal.returns-in-Same
returns-in-Same c = search (met_same, rules)

pub returns-in-NotBelow : goal.returns-in-NotBelow
returns-in-NotBelow c = search (met_not_below, rules)

pub returns-in-Above : goal.returns-in-Above
returns-in-Above c = search (met_above, rules)
