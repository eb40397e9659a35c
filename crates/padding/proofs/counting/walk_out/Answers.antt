use native.Mathlib.Omega.{arith}
use Rattle.padding.proofs.WalkLaws.{passed_out}
use Rattle.padding.proofs.counting.walk_out.Goals as goal

pub loop-k-preserved : goal.loop-k-preserved
loop-k-preserved c =
    (omega arith, passed_out c.args.input.now c.args.places.now c.args.ends.now c.args.before c.loop-k.lines c.loop-k.k (omega (arith, c.requires.1)) (omega (arith, c.requires.0)) c.loop-k.invariant.1 c.walk_on-walk.result.place c.walk_on-walk.result.lines c.walk_on-walk.ensures c.if-walk-end.false)
