use borrow.Author.Rules.{rules}
use Rattle.pulling.proofs.EntryLaws.{pull_formed, pull_good, pull_bad}
use Rattle.pulling.proofs.pull_line.Goals as goal

pub returns-in-Err : goal.returns-in-Err
returns-in-Err c = search (pull_bad, rules)

pub style_lines-requires : goal.style_lines-requires
style_lines-requires c = (search rules, search rules, search (pull_formed, rules), search rules)

pub returns : goal.returns
returns c = search (pull_good, rules)
