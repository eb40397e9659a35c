use Rattle.export.proofs.GivenLaws.{given_kind, given_no_kind}
use borrow.Author.Rules.{rules}
use Rattle.export.proofs.given.give_record.Goals as goal

pub returns-in-Some : goal.returns-in-Some
returns-in-Some c = search (given_kind, rules)

pub returns-in-None : goal.returns-in-None
returns-in-None c = search (given_no_kind, rules)
