-- The tests are those of the definition. Assumes nothing.
use Rattle.columns.proofs.LabelLaws.{four_is}
use Rattle.columns.proofs.labels.all_four.Goals as goal

pub returns : goal.returns
returns c = four_is c.args.t
