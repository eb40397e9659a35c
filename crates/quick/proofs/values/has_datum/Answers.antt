use Rattle.quick.proofs.CodeLaws.{datum_is}
use borrow.Author.Rules.{rules}
use Rattle.quick.proofs.values.has_datum.Goals as goal

pub returns : goal.returns
returns c = search (datum_is, rules)
