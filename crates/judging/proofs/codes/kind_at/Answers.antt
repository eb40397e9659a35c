use borrow.Author.Rules.{rules}
use Rattle.kinds.specs.Values.{kind_in}
use Rattle.judging.proofs.CodeLaws.{too_short, no_first, no_last, coded}
use Rattle.judging.proofs.codes.kind_at.Goals as goal

pub returns-then-line-at : goal.returns-then-line-at
unfolding kind_in
returns-then-line-at c = search (too_short, rules)

pub returns-then-line-at-ne42 : goal.returns-then-line-at-ne42
unfolding kind_in
returns-then-line-at-ne42 c = search (no_first, rules)

pub returns-then-line-at-ne42-2 : goal.returns-then-line-at-ne42-2
unfolding kind_in
returns-then-line-at-ne42-2 c = search (no_last, rules)

pub returns : goal.returns
returns c = search (coded, rules)
