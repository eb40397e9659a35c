use mathlib.Core.Path.{◌≡◌}
use Prim.Native.Nat.{◌+◌, ◌-◌, ◌≤◌, ◌<◌}
use native.Mathlib.Omega.{arith}
use lib.ListN.{length}
use Rattle.padding.proofs.PassLaws.{next_within, text_there}
use Rattle.padding.proofs.StretchLaws.{inside, line_wide, line_fits, lay_next, lay_done}
use Rattle.padding.proofs.stretches.lay_stretch.Goals as goal

-- the next line starts at most one byte behind the end
next : (c : goal.After-slice_known-in-loop-1)
    → c.loop.from + (c.feed_at-n.result + 1)
    ≤ length c.args.input.now + 1
next c =
    let some : 0 < c.args.stretch.lines - c.loop.counter = omega arith in
    next_within _ _ (inside _ _ _ c.loop.invariant.ready some) _ c.middle-part.ensures _ c.feed_at-n.ensures

pub lay_line-requires : goal.lay_line-requires
lay_line-requires c =
    let ready = c.loop.invariant.ready in
    let some : 0 < c.args.stretch.lines - c.loop.counter = omega arith in
    (text_there _ _ (inside _ _ _ ready some) _ c.middle-part.ensures _ c.feed_at-n.ensures _ c.text_length-k.ensures, line_fits _ _ _ ready some _ c.middle-part.ensures _ c.feed_at-n.ensures _ c.text_length-k.ensures, line_wide _ _ _ ready some)

pub overflow_add-from : goal.overflow_add-from
overflow_add-from c = let h = next c in omega arith

pub overflow_add-from-in-loop : goal.overflow_add-from-in-loop
overflow_add-from-in-loop c = let h = next c in omega arith

pub loop-preserved : goal.loop-preserved
loop-preserved c =
    let some : 0 < c.args.stretch.lines - c.loop.counter = omega arith in
    let fewer : c.args.stretch.lines - (c.loop.counter + 1) ≡ c.args.stretch.lines - c.loop.counter - 1 = omega arith in
    (rw fewer (lay_next _ _ _ _ _ c.loop.invariant some _ c.middle-part.ensures c.feed_at-n.result c.feed_at-n.ensures _ c.text_length-k.ensures _ c.lay_line.ensures))

pub returns : goal.returns
returns c = lay_done _ _ _ _ _ c.loop.invariant (omega arith)
