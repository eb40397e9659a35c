-- A full line, one with an LF in its columns, one without.
use mathlib.Core.Path.{sym, ◌∙◌}
use Prim.Native.Nat.{◌+◌, ◌≤◌}
use native.Mathlib.Omega.{arith}
use lib.ListN.{length}
use Rattle.padding.proofs.FeedLaws.{full_feed, near_feed, far_most, far_feed}
use Rattle.padding.proofs.lines.feed_at.Goals as goal

pub returns-then-has_no_feed : goal.returns-then-has_no_feed
returns-then-has_no_feed c =
    full_feed c.args.part.now c.if-part-le80.false (sym c.has_no_feed.ensures ∙ c.if-has_no_feed.true) c.if-part-eq10.true

pub returns-then-n-lt80 : goal.returns-then-n-lt80
returns-then-n-lt80 c =
    near_feed c.args.part.now c.if-part-le80.false c.first_feed-n.result c.first_feed-n.ensures c.if-n-lt80.true

pub overflow_add-result : goal.overflow_add-result
overflow_add-result c =
    let f = c.args.part.now in
    let most : 80 + c.find_feed-2.result ≤ length f = far_most f c.if-part-le80.false c.first_feed-n.result c.first_feed-n.ensures c.find_feed-2.result c.find_feed-2.ensures in
    omega arith

pub returns : goal.returns
returns c =
    far_feed c.args.part.now c.if-part-le80.false c.first_feed-n.result c.first_feed-n.ensures c.if-n-lt80.false c.find_feed-2.result c.find_feed-2.ensures
