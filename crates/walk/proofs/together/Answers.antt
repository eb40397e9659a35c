use Rattle.walk.proofs.JudgeLaws.{none_of_its_own, the_forms, its_own}
use borrow.Author.Rules.{rules}
use Rattle.walk.proofs.together.Goals as goal

pub returns-in-Ok : goal.returns-in-Ok
returns-in-Ok c = search (none_of_its_own, rules)

pub returns-then-fault-eq14 : goal.returns-then-fault-eq14
returns-then-fault-eq14 c = search (the_forms, rules)

pub returns-else-fault-eq14 : goal.returns-else-fault-eq14
returns-else-fault-eq14 c = search (its_own, rules)
