use borrow.Author.Rules.{rules}
use Rattle.pulling.proofs.EntryLaws.{quick_good}
use Rattle.pulling.proofs.fault_in.Goals as goal

pub returns-then-fits : goal.returns-then-fits
returns-then-fits c = search (quick_good, rules)
