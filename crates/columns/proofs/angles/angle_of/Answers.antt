-- The formula is that of the definition. Assumes nothing.
use mathlib.Core.Path.{refl}
use Rattle.rules.specs.Items.{angle_of}
use Rattle.columns.proofs.angles.angle_of.Goals as goal

pub returns : goal.returns
unfolding angle_of
returns c = refl
