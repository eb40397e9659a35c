use Prim.Native.Nat.{◌+◌, ◌≤◌}
use native.Mathlib.Omega.{arith}
use lib.ListN.{length}
use borrow.Author.Rules.{rules}
use Rattle.padding.proofs.PassLaws.{judge_2, judge_5, judge_next, judge_end, next_within}
use Rattle.padding.proofs.judge_lines.Goals as goal

-- the next line starts at most one byte behind the end
next : (c : goal.Else-text_length-gt80)
    → c.loop-at.at + (c.feed_at-n.result + 1) ≤ length c.args.input.now + 1
next c = search (next_within, rules)

pub returns-then-lines-eq99999 : goal.returns-then-lines-eq99999
returns-then-lines-eq99999 c = search (judge_2, rules)

pub returns-then-text_length-gt80 : goal.returns-then-text_length-gt80
returns-then-text_length-gt80 c = search (judge_5, rules)

pub overflow_add-at : goal.overflow_add-at
overflow_add-at c = let h = next c in omega arith

pub overflow_add-at-in-loop-at : goal.overflow_add-at-in-loop-at
overflow_add-at-in-loop-at c = let h = next c in omega arith

pub loop-at-preserved : goal.loop-at-preserved
loop-at-preserved c = search (judge_next, rules)

pub returns : goal.returns
returns c = search (judge_end, rules)
