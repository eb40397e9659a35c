use borrow.Author.Rules.{rules}
use Rattle.pulling.proofs.pull_list.Goals as goal

pub pull_entries-requires : goal.pull_entries-requires
pull_entries-requires c = (search rules, search rules)
