-- By the length; eight bytes make less than 2 ^ 32. Assumes nothing.
use mathlib.Core.Path.{sym}
use native.Mathlib.Omega.{arith}
use lib.ListN.{length}
use Rattle.rules.proofs.Truth.{of≤, of>}
use Rattle.columns.proofs.Loops.{pow_most}
use Rattle.columns.proofs.ValueLaws.{month_value}
use Rattle.columns.proofs.numbers.read_month.Goals as goal

pub returns-then-part-gt8 : goal.returns-then-part-gt8
returns-then-part-gt8 c = sym (rw (of> c.if-part-gt8.true))

pub overflow_cast-result : goal.overflow_cast-result
overflow_cast-result c = omega (arith, c.sum.ensures.small, pow_most (length c.args.part.now) 8 (omega arith))

pub returns : goal.returns
returns c = sym (rw (of≤ c.if-part-gt8.false) (sym (month_value c.args.part.now c.sum.ensures.is)))
