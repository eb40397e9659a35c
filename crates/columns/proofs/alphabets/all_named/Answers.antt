-- The array is the definition's list, by computing. Assumes nothing.
use Rattle.rules.specs.Characters.{ascii, name_characters}
use Rattle.columns.proofs.alphabets.all_named.Goals as goal

pub returns : goal.returns
unfolding name_characters ascii
returns c = c.all_listed.ensures
