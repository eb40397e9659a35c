use Prim.Native.Nat.{◌+◌, ◌≤◌}
use native.Mathlib.Omega.{arith}
use lib.ListN.{length}
use Rattle.padding.proofs.PassLaws.{window, next_within, text_there}
use Rattle.padding.proofs.StretchLaws.{inside, line_wide, line_fits, turned_next}
use Rattle.padding.proofs.stretches.lay_in_turn.Goals as goal

-- the next line starts at most one byte behind the end
next : (c : goal.After-slice_known-in-loop-here-1)
    → c.loop-here.here.from + (c.feed_at-n.result + 1)
    ≤ length c.args.input.now + 1
next c =
    let f = c.args.input.now in
    next_within f c.loop-here.here.from (inside f _ c.loop-here.here c.loop-here.invariant.ready_here c.loop-here-test.true) _ (window f c.loop-here.here.from) _ c.feed_at-n.ensures

pub lay_line-requires : goal.lay_line-requires
lay_line-requires c =
    let f = c.args.input.now in
    let ready = c.loop-here.invariant.ready_here in
    let at = c.loop-here.here.from in
    (text_there f at (inside f _ c.loop-here.here ready c.loop-here-test.true) _ (window f at) _ c.feed_at-n.ensures _ c.text_length-k.ensures, line_fits f _ c.loop-here.here ready c.loop-here-test.true _ (window f at) _ c.feed_at-n.ensures _ c.text_length-k.ensures, line_wide f _ c.loop-here.here ready c.loop-here-test.true)

pub overflow_add-rest : goal.overflow_add-rest
overflow_add-rest c = let h = next c in omega arith

pub overflow_add-rest-in-loop-here : goal.overflow_add-rest-in-loop-here
overflow_add-rest-in-loop-here c = let h = next c in omega arith

pub loop-here-preserved : goal.loop-here-preserved
loop-here-preserved c =
    let f = c.args.input.now in
    (turned_next f _ _ _ _ c.loop-here.here c.loop-here.there c.loop-here.invariant c.loop-here-test.true _ (window f c.loop-here.here.from) c.feed_at-n.result c.feed_at-n.ensures c.text_length-k.result c.text_length-k.ensures _ c.lay_line.ensures)
