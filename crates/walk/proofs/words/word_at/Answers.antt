use Rattle.walk.proofs.WordLaws.{word_past}
use borrow.Author.Rules.{rules}
use Rattle.walk.proofs.words.word_at.Goals as goal

pub returns-then-words-i : goal.returns-then-words-i
returns-then-words-i c = search (word_past, rules)
