-- By the sign. Assumes nothing.
use Rattle.columns.proofs.ValueLaws.{between_below, between_above}
use Rattle.columns.proofs.heights.is_between.Goals as goal

pub returns-then-negative : goal.returns-then-negative
returns-then-negative c = between_below c.args.lo c.args.hi c.args.size c.if-negative.true c.from.ensures

pub returns : goal.returns
returns c = between_above c.args.lo c.args.hi c.args.size c.if-negative.false c.from-2.ensures
