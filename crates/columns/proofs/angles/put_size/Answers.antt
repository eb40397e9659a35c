-- The digits fill all columns but the last. Assumes nothing.
use Rattle.rules.specs.Items.{dms}
use Rattle.columns.proofs.AngleLaws.{size_put}
use Rattle.columns.proofs.angles.put_size.Goals as goal

pub returns : goal.returns
unfolding dms
returns c = let a = c.args in size_put a.out.now _ a.letter _ c.requires.0 c.put_digits.ensures
