use Rattle.kinds.specs.Values.{two_text}
use Rattle.styling.proofs.laying.lay_two.Goals as goal

pub returns : goal.returns
unfolding two_text
returns c = c.lay_text.ensures
