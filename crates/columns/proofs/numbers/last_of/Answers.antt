use Rattle.std.proofs.Common.{rules}
use Rattle.columns.specs.Leaves.{last_of}
use Rattle.columns.proofs.numbers.last_of.Goals as goal

pub returns : goal.returns
unfolding last_of
returns c = search rules
