use borrow.Author.Rules.{rules}
use Rattle.judging.proofs.FieldLaws.{agrees-free, agrees-expected, agrees-before, agrees_with_lem, agrees_apart}
use Rattle.judging.proofs.fields.agrees_item.Goals as goal

pub returns-in-Free : goal.returns-in-Free
returns-in-Free c = search (agrees-free, rules)

pub returns-in-Expected : goal.returns-in-Expected
returns-in-Expected c = search (agrees-expected, rules)

pub returns-in-NotBefore : goal.returns-in-NotBefore
returns-in-NotBefore c = search (agrees-before, rules)

pub returns-in-GoesWith : goal.returns-in-GoesWith
returns-in-GoesWith c = search (agrees_with_lem, rules)

pub returns-in-Differs : goal.returns-in-Differs
returns-in-Differs c = search (agrees_apart, rules)
