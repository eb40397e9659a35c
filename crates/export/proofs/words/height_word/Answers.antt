use Rattle.std.proofs.Common.{rules}
use Rattle.export.proofs.WordLaws.{missing-word, height-word}
use Rattle.export.proofs.words.height_word.Goals as goal

pub returns-in-Missing : goal.returns-in-Missing
returns-in-Missing c = search (missing-word, rules)

pub returns-in-Mm : goal.returns-in-Mm
returns-in-Mm c = rw c.from.ensures (search (height-word, rules))
