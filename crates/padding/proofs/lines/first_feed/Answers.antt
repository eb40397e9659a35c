use mathlib.Core.Path.{sym, ◌∙◌, ap, subst}
use Prim.Native.Nat.{◌+◌, min}
use native.Mathlib.Omega.{arith}
use Rattle.padding.specs.Lines.{nearest}
use Rattle.padding.proofs.FeedLaws.{Found, Seen, found_turn, found_all}
use Rattle.padding.proofs.lines.first_feed.Goals as goal

pub loop-place-preserved : goal.loop-place-preserved
loop-place-preserved c =
    let f = c.args.part.now in
    let s = c.loop-place in
    (s.invariant.0, subst (Found f (Seen f (s.place + 1))) (sym (c.min-first.ensures ∙ ap (min s.first) (c.nearest_feed.ensures ∙ ap (nearest f) c.from.ensures))) (found_turn f s.place s.first (omega arith) s.invariant.1))

pub returns : goal.returns
returns c = let s = c.loop-place in c.from-2.ensures ∙ found_all c.args.part.now s.place s.first s.invariant.0 (omega arith) s.invariant.1
