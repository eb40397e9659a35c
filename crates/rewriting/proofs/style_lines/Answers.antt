use borrow.Author.Rules.{rules}
use Rattle.kinds.proofs.KindLaws.{some_kind}
use Rattle.rewriting.proofs.LayingLaws.{lay_from, lay-formed, lay_long, lay-known, lay_next, lay_done}
use Rattle.rewriting.proofs.style_lines.Goals as goal

pub loop-i-init : goal.loop-i-init
loop-i-init c = search (lay_from, rules)

pub unwrap-kind-requires : goal.unwrap-kind-requires
unwrap-kind-requires c = search (lay-known, rules)

pub restyle-requires : goal.restyle-requires
restyle-requires c = (search (lay_long, rules), search rules, search (some_kind, rules), search (lay-formed, rules), search rules, search rules)

pub loop-i-preserved : goal.loop-i-preserved
loop-i-preserved c = search (lay_next, rules)

pub returns : goal.returns
returns c = search (lay_done, rules)
