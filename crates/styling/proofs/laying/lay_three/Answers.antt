use Rattle.kinds.specs.Values.{three_text}
use Rattle.styling.proofs.laying.lay_three.Goals as goal

pub returns : goal.returns
unfolding three_text
returns c = c.lay_text.ensures
