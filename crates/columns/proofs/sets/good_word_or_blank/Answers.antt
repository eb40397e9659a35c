-- The test of the set is the set. Assumes nothing.
use mathlib.Core.Path.{◌∙◌}
use Rattle.columns.proofs.SetLaws.{all_members}
use Rattle.columns.proofs.ItemLaws.{good-or-blank}
use Rattle.columns.proofs.sets.good_word_or_blank.Goals as goal

pub returns : goal.returns
returns c =
    let a = c.args in
    good-or-blank _ a.part.now c.all_blank.ensures (c.all_of.ensures ∙ all_members a.s a.part.now)
