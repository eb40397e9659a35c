-- The test of the set is the set. Assumes nothing.
use mathlib.Core.Path.{◌∙◌}
use Rattle.columns.proofs.SetLaws.{all_members}
use Rattle.columns.proofs.ItemLaws.{good-each}
use Rattle.columns.proofs.sets.good_word.Goals as goal

pub returns : goal.returns
returns c =
    let a = c.args in
    c.all_of.ensures ∙ all_members a.s a.part.now ∙ good-each _ _
