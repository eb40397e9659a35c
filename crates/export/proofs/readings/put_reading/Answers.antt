use Rattle.export.proofs.WordLaws.{told_small, told_held, answer_unread, answer_read}
use borrow.Author.Rules.{rules}
use Rattle.export.proofs.readings.put_reading.Goals as goal

pub put_refusal-requires : goal.put_refusal-requires
put_refusal-requires c = search (told_small, rules)

pub put_values-requires : goal.put_values-requires
put_values-requires c = search (told_held, rules)

pub returns-in-Err : goal.returns-in-Err
returns-in-Err c = search (answer_unread, rules)

pub returns-in-Ok : goal.returns-in-Ok
returns-in-Ok c = search (answer_read, rules)
