use borrow.Author.Rules.{rules}
use Rattle.pulling.proofs.DrawingLaws.{draw_from, draw_next, draw_done}
use Rattle.pulling.proofs.pull_entries.Goals as goal

pub loop-i-init : goal.loop-i-init
loop-i-init c = search (draw_from, rules)

pub loop-i-preserved : goal.loop-i-preserved
loop-i-preserved c = search (draw_next, rules)

pub returns : goal.returns
returns c = search (draw_done, rules)
