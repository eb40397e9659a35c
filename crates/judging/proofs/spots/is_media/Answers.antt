-- In ten columns what is read is the value.
use borrow.Author.Rules.{rules}
use Rattle.columns.proofs.LabelLaws.{media-good}
use Rattle.judging.proofs.spots.is_media.Goals as goal

pub returns : goal.returns
returns c = search (media-good, rules)
