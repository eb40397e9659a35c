use Rattle.walk.proofs.WordLaws.{mark_record, none_marked}
use borrow.Author.Rules.{rules}
use Rattle.walk.proofs.words.mark_record.Goals as goal

pub returns-in-Instrument : goal.returns-in-Instrument
returns-in-Instrument c = search (mark_record, rules)

pub returns-in_default : goal.returns-in_default
returns-in_default c = search (none_marked, rules)
