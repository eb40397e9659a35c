use Rattle.export.proofs.GivenLaws.{media-given}
use borrow.Author.Rules.{rules}
use Rattle.export.proofs.given.media_at.Goals as goal

pub returns : goal.returns
returns c = search (media-given, rules)
