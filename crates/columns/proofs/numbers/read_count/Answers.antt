-- By the length, and by whether all is blank; eight bytes make less than 2 ^ 32. Assumes nothing.
use mathlib.Core.Path.{sym}
use native.Mathlib.Omega.{arith}
use lib.ListN.{length}
use Rattle.rules.proofs.Truth.{of≤, of>}
use Rattle.columns.proofs.Loops.{pow_most}
use Rattle.columns.proofs.ValueLaws.{count_blank, count_some}
use Rattle.columns.proofs.numbers.read_count.Goals as goal

pub returns-then-part-gt8 : goal.returns-then-part-gt8
returns-then-part-gt8 c = sym (rw (of> c.if-part-gt8.true))

pub returns-then-all_blank : goal.returns-then-all_blank
returns-then-all_blank c = sym (rw (of≤ c.if-part-gt8.false) (sym (count_blank c.args.part.now c.all_blank.ensures c.if-all_blank.true)))

pub overflow_cast-result : goal.overflow_cast-result
overflow_cast-result c = omega (arith, c.sum.ensures.small, pow_most (length c.args.part.now) 8 (omega arith))

pub returns : goal.returns
returns c = sym (rw (of≤ c.if-part-gt8.false) (sym (count_some c.args.part.now c.all_blank.ensures c.if-all_blank.false c.sum.ensures.is)))
