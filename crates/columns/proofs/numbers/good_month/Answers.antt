-- In six columns what is read is the value. Assumes nothing.
use Rattle.columns.proofs.ValueLaws.{month-good}
use Rattle.columns.proofs.numbers.good_month.Goals as goal

pub returns : goal.returns
returns c = month-good c.args.part.now c.all_within.ensures c.read_month.ensures c.month_fits.ensures
