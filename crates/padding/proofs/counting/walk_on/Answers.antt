use Prim.Native.Nat.{◌+◌, ◌≤◌}
use native.Mathlib.Omega.{arith}
use lib.ListN.{length}
use borrow.Author.Rules.{rules}
use Rattle.padding.proofs.PassLaws.{next_within}
use Rattle.padding.proofs.WalkLaws.{one_next}
use Rattle.padding.proofs.counting.walk_on.Goals as goal

-- the next line starts at most one byte behind the end
next : (c : goal.Else-text_length-gt80)
    → c.loop-place.place + (c.feed_at-n.result + 1) ≤ length c.args.input.now + 1
next c =
    next_within _ c.loop-place.place (omega (arith, c.loop-place-test.true, c.requires.0)) _ c.middle-part.ensures _ c.feed_at-n.ensures

pub overflow_add-place : goal.overflow_add-place
overflow_add-place c = let h = next c in omega arith

pub overflow_add-place-in-loop-place : goal.overflow_add-place-in-loop-place
overflow_add-place-in-loop-place c = let h = next c in omega arith

pub loop-place-preserved : goal.loop-place-preserved
loop-place-preserved c = search (one_next, rules)
