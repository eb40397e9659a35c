use Rattle.std.proofs.Common.{rules, tests, ◌≡◌, ◌∙◌, sym}
use Rattle.std.proofs.lemmas.Iterator.{YieldsList-from_slice, IsFirst-from_position, index_from_first}
use Rattle.padding.specs.Lines.{feed_at}
use Rattle.padding.proofs.FeedLaws.{feed_nowhere, feed_first, feed_later}
use Rattle.padding.proofs.lines.find_feed.Goals as goal

pub returns : goal.returns
returns c =
    let f = c.args.part.now in
    let first = IsFirst-from_position _ _ c.position.result (λ b. b ≡ 10) (λ b. b ≡ 10 → ⊥) c.position.ensures.ran (YieldsList-from_slice f c.iter.ensures.rest) (λ x q k. search (rules, tests)) (λ x q k. search (rules, tests)) in
    c.unwrap_or.ensures ∙ sym (index_from_first feed_at (λ b. b ≡ 10) (λ b. b ≡ 10 → ⊥) feed_nowhere feed_first feed_later f c.position.result first)
