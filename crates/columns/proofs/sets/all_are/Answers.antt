use borrow.Author.Rules.{rules}
use Rattle.rules.specs.Tests.{◌=?◌}
use Rattle.columns.proofs.Loops.{all_chain}
use Rattle.columns.proofs.sets.all_are.Goals as goal

pub returns : goal.returns
unfolding ◌=?◌
returns c = all_chain _ c.fold.result c.args.part.now (λ b. b =? c.args.c) c.fold.ensures.ran c.iter.ensures.rest (λ a x d q k. search rules)
