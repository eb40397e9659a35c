-- The test as the definition has it.
use Rattle.styling.specs.Styling.{sided}
use Rattle.styling.proofs.styles.is_sided.Goals as goal

pub returns : goal.returns
unfolding sided
returns c = rw c.value_of-value.ensures
