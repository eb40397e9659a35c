use mathlib.Core.Path.{◌∙◌}
use Rattle.walk.specs.Words.{no_words}
use Rattle.walk.proofs.words.clear.Goals as goal

pub returns : goal.returns
unfolding no_words
returns c = c.fill.ensures.after (λ y e. e) ∙ rw c.requires
