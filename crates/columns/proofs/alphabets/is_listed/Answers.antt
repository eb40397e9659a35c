use borrow.Author.Rules.{rules}
use Rattle.columns.proofs.Loops.{any_chain}
use Rattle.columns.proofs.alphabets.is_listed.Goals as goal

pub returns : goal.returns
returns c = any_chain _ c.fold.result c.args.list.now c.args.b c.fold.ensures.ran c.iter.ensures.rest (λ a x d q k. search rules)
