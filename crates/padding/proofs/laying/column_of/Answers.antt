use Rattle.std.proofs.Common.{rules}
use Rattle.padding.specs.Lines.{column_of}
use Rattle.padding.proofs.laying.column_of.Goals as goal

pub returns : goal.returns
unfolding column_of
returns c = search rules
