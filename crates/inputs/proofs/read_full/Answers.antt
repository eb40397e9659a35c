use Rattle.std.proofs.Common.{rules}
use Rattle.inputs.proofs.ReadLaws.{consumes_more}
use Rattle.inputs.proofs.read_full.Goals as goal

pub loop-done-preserved : goal.loop-done-preserved
loop-done-preserved g c = (search rules, consumes_more _ _ _ _ _ _ c.loop-done.space _ (search rules) (search rules) c.loop-done.invariant.1 (c.in_ok-n.ensures).bytes.0)
