use Rattle.export.proofs.WordLaws.{put_past}
use borrow.Author.Rules.{rules}
use Rattle.export.proofs.words.put_signed.Goals as goal

pub returns-else-at-out : goal.returns-else-at-out
returns-else-at-out c = search (put_past, rules)
