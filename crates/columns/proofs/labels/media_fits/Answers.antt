-- The tests are those of the definition. Assumes nothing.
use Rattle.columns.proofs.LabelLaws.{media_is}
use Rattle.columns.proofs.labels.media_fits.Goals as goal

pub returns : goal.returns
returns c = media_is c.args.m c.all_four.ensures
