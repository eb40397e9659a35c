use Rattle.walk.proofs.ReferLaws.{undefined_is}
use borrow.Author.Rules.{rules}
use Rattle.walk.proofs.referring.is_undefined.Goals as goal

pub returns : goal.returns
returns c = search (undefined_is, rules)
