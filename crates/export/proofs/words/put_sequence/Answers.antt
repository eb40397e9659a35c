use Rattle.export.proofs.WordLaws.{unnumbered_word, numbered-word}
use borrow.Author.Rules.{rules}
use Rattle.export.proofs.words.put_sequence.Goals as goal

pub returns-in-None : goal.returns-in-None
returns-in-None c = search (unnumbered_word, rules)

pub returns-in-Some : goal.returns-in-Some
returns-in-Some c = search (numbered-word, rules)
