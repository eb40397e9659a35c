-- The tests are those of the definition. Assumes nothing.
use Rattle.columns.proofs.ItemLaws.{good-constant}
use Rattle.columns.proofs.sets.good_constant.Goals as goal

pub returns : goal.returns
returns c = good-constant c.args.c c.args.part.now c.all_are.ensures
