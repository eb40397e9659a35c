-- The invariant: the first LF among the bytes looked at so far.
use mathlib.Core.Path.{◌≡◌}
use lib.ListN.{length}
use Rattle.padding.proofs.FeedLaws.{Found, Seen}
use Rattle.padding.proofs.lines.first_feed.Given as goal

abbrev pub invariant-loop-place : goal.invariant-loop-place
invariant-loop-place l = (length l.part ≡ 80) × Found l.part (Seen l.part l.place) l.first
