use Rattle.quick.specs.Rest.{between}
use mathlib.Core.Path.{refl}
use Rattle.quick.proofs.values.is_between.Goals as goal

pub returns : goal.returns
unfolding between
returns c = refl
