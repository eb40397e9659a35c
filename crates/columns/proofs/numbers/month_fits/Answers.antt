-- The tests are those of the definition. Assumes nothing.
use Rattle.columns.proofs.LabelLaws.{month_is}
use Rattle.columns.proofs.numbers.month_fits.Goals as goal

pub returns : goal.returns
returns c = month_is c.args.n
