use mathlib.Core.Path.{sym, ◌∙◌}
use native.Mathlib.Omega.{arith}
use Rattle.columns.proofs.Loops.{put_turn, put_end}
use Rattle.columns.proofs.writers.put_digits.Goals as goal

pub loop-i-preserved : goal.loop-i-preserved
loop-i-preserved c = c.loop-i.invariant ∙ put_turn _ _ _ c.loop-i-test.true (omega arith)

pub returns : goal.returns
returns c = sym (c.loop-i.invariant ∙ put_end _ _ _ c.loop-i-test.false)
