use native.Mathlib.Omega.{arith}
use borrow.Author.Rules.{rules}
use Rattle.padding.proofs.WalkLaws.{told_few, halved}
use Rattle.padding.proofs.counting.count_halves.Goals as goal

pub overflow_sub-near : goal.overflow_sub-near
overflow_sub-near c = search (told_few, rules)

pub returns : goal.returns
returns c =
    halved _ c.start_behind-start.result (omega (arith, c.start_behind-start.ensures)) c.if-size-start.false c.if-input-start-ne10.false _ c.count_lines-near.ensures c.if-near-eq0.false _ c.count_lines-far.ensures c.if-far-eq0.false c.if-near-far.false
