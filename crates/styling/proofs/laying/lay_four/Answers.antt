use Rattle.columns.specs.Types.{four_of}
use Rattle.styling.proofs.laying.lay_four.Goals as goal

pub returns : goal.returns
unfolding four_of
returns c = c.lay_text.ensures
