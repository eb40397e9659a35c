use Rattle.export.proofs.WordLaws.{put_past, put_word}
use borrow.Author.Rules.{rules}
use Rattle.export.proofs.words.put_number.Goals as goal

pub returns-then-at-out : goal.returns-then-at-out
returns-then-at-out c = search (put_word, rules)

pub returns-else-at-out : goal.returns-else-at-out
returns-else-at-out c = search (put_past, rules)
