-- By the length, and by whether all is blank; seven bytes make less than 2 ^ 31. Assumes nothing.
use mathlib.Core.Path.{sym, ◌∙◌}
use native.Mathlib.Omega.{arith}
use lib.ListN.{length}
use Rattle.rules.proofs.Truth.{of≤, of>}
use Rattle.columns.proofs.Loops.{pow_most}
use Rattle.columns.proofs.Signed.{narrows, narrowed}
use Rattle.columns.proofs.ValueLaws.{height-blank, height-some}
use Rattle.columns.proofs.heights.read_height.Goals as goal

pub returns-then-part-gt7 : goal.returns-then-part-gt7
returns-then-part-gt7 c = sym (rw (of> c.if-part-gt7.true))

pub returns-then-all_blank : goal.returns-then-all_blank
returns-then-all_blank c = sym (rw (of≤ c.if-part-gt7.false) (sym (height-blank c.args.part.now c.all_blank.ensures c.if-all_blank.true)))

pub with_sign-requires : goal.with_sign-requires
with_sign-requires c = omega (arith, c.sum-v.ensures.small, pow_most (length c.args.part.now) 7 (omega arith))

pub overflow_cast-result : goal.overflow_cast-result
overflow_cast-result c = narrows _ _ (omega (arith, c.sum-v.ensures.small, pow_most (length c.args.part.now) 7 (omega arith))) c.with_sign.ensures

pub returns : goal.returns
returns c =
    sym (rw (of≤ c.if-part-gt7.false)
    (sym (height-some c.args.part.now c.all_blank.ensures c.if-all_blank.false c.has_minus-negative.ensures c.sum-v.ensures.is
    (narrowed _ _ (omega (arith, c.sum-v.ensures.small, pow_most (length c.args.part.now) 7 (omega arith))) c.with_sign.ensures))))
