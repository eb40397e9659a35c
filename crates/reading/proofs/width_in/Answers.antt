use borrow.Author.Rules.{rules}
use Rattle.reading.proofs.CallLaws.{width_none, width_some, width_kind}
use Rattle.reading.proofs.width_in.Goals as goal

pub returns-then-is_err : goal.returns-then-is_err
returns-then-is_err c = search (width_none, rules)

pub unwrap-requires : goal.unwrap-requires
unwrap-requires c = search (width_kind, rules)

pub returns : goal.returns
returns c = search (width_some, rules)
