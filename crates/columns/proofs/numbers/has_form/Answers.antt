use mathlib.Core.Path.{sym, ◌∙◌}
use Rattle.columns.proofs.Loops.{formed_turn, formed_end}
use Rattle.columns.proofs.numbers.has_form.Goals as goal

pub loop-b-preserved : goal.loop-b-preserved
loop-b-preserved c = let s = c.loop-b in formed_turn c.args.part.now s.b-index c.args.mark s.last s.good c.loop-b-test.true ∙ s.invariant

pub returns : goal.returns
returns c = let s = c.loop-b in sym (formed_end c.args.part.now s.b-index c.args.mark s.last s.good c.loop-b-test.false) ∙ s.invariant
