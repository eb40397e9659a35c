use borrow.Author.Rules.{rules}
use Rattle.rules.specs.Tests.{within, ◌≤?◌}
use Rattle.columns.proofs.Loops.{&_is, all_chain}
use Rattle.columns.proofs.sets.all_within.Goals as goal

pub returns : goal.returns
unfolding within ◌≤?◌
returns c = all_chain _ c.fold.result c.args.part.now (within c.args.lo c.args.hi) c.fold.ensures.ran c.iter.ensures.rest (λ a x d q k. rw &_is (search rules))
