-- The width is the slice's own, and a blank field has no value to judge. Assumes nothing.
use mathlib.Core.Path.{◌∙◌}
use Rattle.columns.proofs.ItemLaws.{good-blank}
use Rattle.columns.proofs.sets.good_blank.Goals as goal

pub returns : goal.returns
returns c = c.all_blank.ensures ∙ good-blank _
