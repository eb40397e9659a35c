-- The array is the definition's list, by computing. Assumes nothing.
use Rattle.rules.specs.Characters.{ascii, title_characters}
use Rattle.columns.proofs.alphabets.all_titled.Goals as goal

pub returns : goal.returns
unfolding title_characters ascii
returns c = c.all_listed.ensures
