use borrow.Author.Rules.{rules}
use Rattle.columns.specs.Leaves.{inside}
use Rattle.columns.proofs.Loops.{all_chain}
use Rattle.columns.proofs.sets.all_inside.Goals as goal

pub returns : goal.returns
returns c = all_chain _ c.fold.result c.args.part.now (inside c.args.m) c.fold.ensures.ran c.iter.ensures.rest (λ a x d q k. search rules)
