use Rattle.walk.proofs.WordLaws.{mark-free, mark_taken, mark_beyond}
use borrow.Author.Rules.{rules}
use Rattle.walk.proofs.words.mark_word.Goals as goal

pub returns-then-words-i-eq0 : goal.returns-then-words-i-eq0
returns-then-words-i-eq0 c = search (mark-free, rules)

pub returns-else-words-i-eq0 : goal.returns-else-words-i-eq0
returns-else-words-i-eq0 c = search (mark_taken, rules)

pub returns-else-i-words : goal.returns-else-i-words
returns-else-i-words c = search (mark_beyond, rules)
