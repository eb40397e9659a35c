use Rattle.listing.proofs.SheetLaws.{checked_bad, checked_good}
use borrow.Author.Rules.{rules}
use Rattle.listing.proofs.list_checked.Goals as goal

pub returns-in-Err : goal.returns-in-Err
returns-in-Err c = search (checked_bad, rules)

pub returns-in-Ok : goal.returns-in-Ok
returns-in-Ok c = search (checked_good, rules)
