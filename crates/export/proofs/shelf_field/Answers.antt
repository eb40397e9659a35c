use Rattle.export.proofs.AnswerLaws.{field_row, field_column}
use Rattle.export.proofs.PromiseLaws.{short_field, none_found, some_found}
use borrow.Author.Rules.{rules}
use Rattle.export.proofs.shelf_field.Goals as goal

pub returns-then-answer-lt2 : goal.returns-then-answer-lt2
returns-then-answer-lt2 c = search (short_field, rules)

pub returns-then-w-eq0 : goal.returns-then-w-eq0
returns-then-w-eq0 c = search (none_found, rules)

pub overflow_sub-answer : goal.overflow_sub-answer
overflow_sub-answer c = search (field_row, rules)

pub overflow_sub-answer-2 : goal.overflow_sub-answer-2
overflow_sub-answer-2 c = search (field_column, rules)

pub returns : goal.returns
returns c = search (some_found, rules)
