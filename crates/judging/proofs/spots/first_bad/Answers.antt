use mathlib.Core.Path.{◌≡◌, ◌∙◌}
use borrow.Author.Rules.{rules}
use native.Mathlib.Omega.{arith}
use lib.ListN.{length, replicate}
use Rattle.judging.specs.Judging.{item_as}
use Rattle.judging.proofs.SpotLaws.{spans_80, least-laid, bad_from, bad_here, bad_later, bad_last}
use Rattle.judging.proofs.spots.first_bad.Goals as goal

pub slice_bounds-least-end : goal.slice_bounds-least-end
slice_bounds-least-end c = omega (arith, spans_80 _ _ c.requires)

pub loop-k-init : goal.loop-k-init
loop-k-init c =
    (search rules, least-laid c.args.kind c.args.part.now (replicate 80 32) c.requires (spans_80 _ _ c.requires) _ c.put_least.ensures, bad_from (item_as c.args.kind (length c.args.part.now)) c.args.part.now c.requires)

pub returns-then-not-can_begin : goal.returns-then-not-can_begin
returns-then-not-can_begin c =
    let v = c.loop-k.invariant in
    bad_here (item_as c.args.kind (length c.args.part.now)) c.args.part.now c.requires c.loop-k.k (omega arith) c.can_begin.ensures (c.if-not-can_begin.true) v.2

pub loop-k-preserved : goal.loop-k-preserved
loop-k-preserved c =
    let v = c.loop-k.invariant in
    (v.0, v.1, bad_later (item_as c.args.kind (length c.args.part.now)) c.args.part.now c.requires c.loop-k.k (omega arith) c.can_begin.ensures (c.if-not-can_begin.false) v.2)

pub returns : goal.returns
returns c =
    let v = c.loop-k.invariant in
    let e : c.saturating_sub-last.result ≡ c.loop-k.k = omega arith in
    e ∙ bad_last (item_as c.args.kind (length c.args.part.now)) c.args.part.now c.requires c.loop-k.k (omega arith) v.2
