use borrow.Author.Rules.{rules}
use Rattle.walk.proofs.KeptLaws.{opened_first, opened_later}
use Rattle.walk.proofs.kept.opened.Goals as goal

pub returns-then-place-eq0 : goal.returns-then-place-eq0
returns-then-place-eq0 c = search (opened_first, rules)

pub returns : goal.returns
returns c = search (opened_later, rules)
