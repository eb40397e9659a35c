use mathlib.Core.Path.{sym, ◌∙◌}
use Rattle.columns.proofs.Loops.{minus_turn, minus_end}
use Rattle.columns.proofs.heights.has_minus.Goals as goal

pub loop-b-preserved : goal.loop-b-preserved
loop-b-preserved c = let s = c.loop-b in minus_turn c.args.part.now s.b-index s.found s.blank c.loop-b-test.true ∙ s.invariant

pub returns : goal.returns
returns c = let s = c.loop-b in sym (minus_end c.args.part.now s.b-index s.found s.blank c.loop-b-test.false) ∙ s.invariant
