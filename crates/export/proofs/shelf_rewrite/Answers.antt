use Rattle.export.proofs.Places.{rewrite_counted}
use Rattle.export.proofs.PromiseLaws.{short_rewrite, long_rewrite}
use borrow.Author.Rules.{rules}
use Rattle.export.proofs.shelf_rewrite.Goals as goal

pub returns-then-answer-lt17 : goal.returns-then-answer-lt17
returns-then-answer-lt17 c = search (short_rewrite, rules)

pub put_checked-requires : goal.put_checked-requires
put_checked-requires c = search (rewrite_counted, rules)

pub returns : goal.returns
returns c = search (long_rewrite, rules)
