-- In ten columns what is read is the value. Assumes nothing.
use Rattle.columns.proofs.LabelLaws.{media-wide, media-good}
use Rattle.columns.proofs.labels.good_media.Goals as goal

pub returns-then-part-ne10 : goal.returns-then-part-ne10
returns-then-part-ne10 c = media-wide c.args.part.now c.if-part-ne10.true

pub returns : goal.returns
returns c = media-good c.args.part.now c.if-part-ne10.false c.all_within.ensures c.read_media.ensures c.media_fits.ensures
