use Rattle.export.proofs.Places.{form_counted}
use Rattle.export.proofs.PromiseLaws.{short_form, long_form}
use borrow.Author.Rules.{rules}
use Rattle.export.proofs.shelf_form.Goals as goal

pub returns-then-answer-lt17 : goal.returns-then-answer-lt17
returns-then-answer-lt17 c = search (short_form, rules)

pub put_checked-requires : goal.put_checked-requires
put_checked-requires c = search (form_counted, rules)

pub returns : goal.returns
returns c = search (long_form, rules)
