use borrow.Author.Rules.{rules}
use Rattle.padding.proofs.WalkLaws.{told-good}
use Rattle.padding.proofs.judge.Goals as goal

pub returns-then-told-ne0 : goal.returns-then-told-ne0
returns-then-told-ne0 c = search (told-good, rules)
