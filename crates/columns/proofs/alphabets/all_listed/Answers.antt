use borrow.Author.Rules.{rules}
use Rattle.rules.specs.Characters.{any_of}
use Rattle.columns.proofs.Loops.{all_chain}
use Rattle.columns.proofs.alphabets.all_listed.Goals as goal

pub returns : goal.returns
returns c = all_chain _ c.fold.result c.args.part.now (any_of c.args.list.now) c.fold.ensures.ran c.iter.ensures.rest (λ a x d q k. search rules)
