-- A blank is the character 32. Assumes nothing.
use Rattle.rules.specs.Characters.{is_blank}
use Rattle.columns.proofs.sets.all_blank.Goals as goal

pub returns : goal.returns
unfolding is_blank
returns c = c.all_are.ensures
