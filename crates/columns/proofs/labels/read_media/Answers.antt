-- The promises one after another; three and one bytes fit. Assumes nothing.
use mathlib.Core.Path.{ap, ◌∙◌}
use Rattle.rules.specs.Digits.{val}
use Rattle.columns.proofs.LabelLaws.{media-read}
use Rattle.columns.proofs.labels.read_media.Goals as goal

pub returns : goal.returns
returns c =
    media-read c.args.part.now c.byte_at-5.ensures
    (c.sum-day.ensures.is ∙ ap (val 0) c.middle.ensures)
    (c.sum-year.ensures.is ∙ ap (val 0) c.middle-2.ensures)
    c.byte_at-6.ensures c.byte_at.ensures c.byte_at-2.ensures c.byte_at-3.ensures c.byte_at-4.ensures
