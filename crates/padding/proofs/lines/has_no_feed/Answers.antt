use mathlib.Core.Bool.{not}
use borrow.Author.Rules.{rules}
use Rattle.rules.specs.Tests.{◌=?◌}
use Rattle.columns.proofs.Loops.{all_chain}
use Rattle.padding.specs.Lines.{is_free}
use Rattle.padding.proofs.lines.has_no_feed.Goals as goal

pub returns : goal.returns
unfolding is_free ◌=?◌
returns c = all_chain _ c.fold.result c.args.part.now (λ b. not (b =? 10)) c.fold.ensures.ran c.iter.ensures.rest (λ a x d q k. search rules)
