use borrow.Author.Rules.{rules}
use Rattle.judging.proofs.RowLaws.{pointed_is, pointed-not}
use Rattle.judging.proofs.fields.point_at.Goals as goal

pub returns-then-flaw-eq9 : goal.returns-then-flaw-eq9
returns-then-flaw-eq9 c = search (pointed_is, rules)

pub returns : goal.returns
returns c = search (pointed-not, rules)
