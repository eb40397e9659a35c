use borrow.Author.Rules.{rules}
use Rattle.padding.proofs.FeedLaws.{nearest_is}
use Rattle.padding.proofs.lines.nearest_feed.Goals as goal

pub returns : goal.returns
returns c = search (nearest_is, rules)
